-- The constraints of two conjunctions together, on variables that they share.
use Rattle.std.specs.Prelude.{ℕ, ◌≡◌, ◌+◌, ◌<◌, ◌≤◌, ◌^◌, List, ◌++◌, map, flat_map}
use Rattle.spf_term.specs.declared.term.Term.{Term}
use Rattle.spf_rel.specs.Renumbering.{moved, renumbered}
use Rattle.spf_rel.specs.declared.join.Join.{Join}
use Rattle.spf_rel.specs.declared.join.Side.{Side}
use Rattle.spf_rel.specs.declared.join.Spot.{Spot}
use Rattle.spf_rel.specs.declared.join.Spot.TheVariants.{Outer, Middle}
use Rattle.spf_rel.specs.declared.relation.Conj.{Conj}
use Rattle.spf_rel.specs.declared.renumber.Blocks.{Blocks}

-- where a tuple begins, if the middle tuple begins there
abbrev pub start_of : Spot → ℕ → ℕ
start_of (Outer start) middle = start
start_of Middle middle = middle

-- where the variables of an operand go, if its inner variables and the middle tuple begin there
abbrev pub blocks_of : Side → ℕ → ℕ → Blocks
blocks_of side inner middle = record {
  first = side.first;
  second = side.second;
  to_first = start_of side.first_to middle;
  to_second = start_of side.second_to middle;
  to_others = inner;
}

-- the variables are the inputs and outputs of the result, the left's inner ones, the right's, and then the middle tuple
module _ (join : Join) (left right : Conj) where
  abbrev pub to_left : ℕ → ℕ
  to_left = moved (blocks_of join.left (join.ins + join.outs) (join.ins + join.outs + left.inner + right.inner))

  abbrev pub to_right : ℕ → ℕ
  to_right = moved (blocks_of join.right (join.ins + join.outs + left.inner) (join.ins + join.outs + left.inner + right.inner))

  -- the left's constraints and then the right's
  abbrev pub both : List Term → List Term → List Term
  both lefts rights = map (renumbered to_left) lefts ++ map (renumbered to_right) rights

  abbrev pub joined : Conj
  joined = record { inner = left.inner + right.inner + join.middle; equal = both left.equal right.equal; least = both left.least right.least }

  -- the inputs, outputs and inner variables of the result have numbers of 32 bits
  abbrev pub HasRoom : Type 0
  HasRoom = join.ins + join.outs + (left.inner + right.inner + join.middle) < 2 ^ 32

-- for each conjunction of the left, and in it for each of the right
abbrev pub joined_all : Join → List Conj → List Conj → List Conj
joined_all join lefts rights = flat_map (λ (left : Conj). map (joined join left) rights) lefts

-- a tuple stands among the inputs and outputs, or is the middle tuple
abbrev pub IsSpot : Join → Spot → ℕ → Type 0
IsSpot join (Outer start) count = start + count ≤ join.ins + join.outs
IsSpot join Middle count = count ≡ join.middle

-- each tuple of an operand has its spot
pub record IsJoin (join : Join) : Type 0 where
  pub left_first : IsSpot join join.left.first_to join.left.first
  pub left_second : IsSpot join join.left.second_to join.left.second
  pub right_first : IsSpot join join.right.first_to join.right.first
  pub right_second : IsSpot join join.right.second_to join.right.second
