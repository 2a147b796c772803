-- The numbers of the variables of joined conjunctions.
use Rattle.std.proofs.Common.{◌≡◌, ℕ, ◌+◌, ◌<◌, ◌≤◌, ◌^◌, List, arith}
use Rattle.std.specs.List.{All, Contains}
use Rattle.std.proofs.lemmas.List.Elements.{All-append, All-contains, All-same}
use Rattle.spf_term.specs.declared.term.Term.{Term}
use Rattle.spf_rel.specs.Join.{HasRoom, IsJoin, IsSpot, blocks_of, both, joined, start_of, to_left, to_right}
use Rattle.spf_rel.specs.Meaning.{IsFormed}
use Rattle.spf_rel.specs.Renumbering.{Variables}
use Rattle.spf_rel.specs.declared.join.Join.{Join}
use Rattle.spf_rel.specs.declared.join.Spot.{Spot}
use Rattle.spf_rel.specs.declared.join.Spot.TheVariants.{Outer, Middle}
use Rattle.spf_rel.specs.declared.relation.Conj.{Conj}
use Rattle.spf_rel.proofs.Moved.{moved_below}
use Rattle.spf_rel.proofs.Renumbered.{all_lead, all_weaker}

pub formed_at : (outer : ℕ) (conjs : List Conj) (conj : Conj) → All (IsFormed outer) conjs → Contains conjs conj → IsFormed outer conj
formed_at outer conjs conj formed at = All-contains (IsFormed outer) conjs conj formed at

-- a tuple ends among the variables of the result
spot_ends : (join : Join) (spot : Spot) (count left right : ℕ) → IsSpot join spot count → start_of spot (join.ins + join.outs + left + right) + count ≤ join.ins + join.outs + (left + right + join.middle)
spot_ends join (Outer start) count left right is = omega arith
spot_ends join Middle count left right is = omega arith

module _ (join : Join) (left right : Conj) (is : IsJoin join) where
  -- how many variables the result has
  abbrev all : ℕ
  all = join.ins + join.outs + (left.inner + right.inner + join.middle)

  pub left_below : (number : ℕ) → number < join.left.first + join.left.second + left.inner → to_left join left right number < all
  left_below number inside =
      moved_below (blocks_of join.left (join.ins + join.outs) (join.ins + join.outs + left.inner + right.inner)) number left.inner all
      (spot_ends join join.left.first_to join.left.first left.inner right.inner is.left_first) (spot_ends join join.left.second_to join.left.second left.inner right.inner is.left_second) (omega arith) inside

  pub right_below : (number : ℕ) → number < join.right.first + join.right.second + right.inner → to_right join left right number < all
  right_below number inside =
      moved_below (blocks_of join.right (join.ins + join.outs + left.inner) (join.ins + join.outs + left.inner + right.inner)) number right.inner all
      (spot_ends join join.right.first_to join.right.first left.inner right.inner is.right_first) (spot_ends join join.right.second_to join.right.second left.inner right.inner is.right_second) (omega arith) inside

  -- the variables that the result has, and those of its operands
  abbrev Below : ℕ → Type 0
  Below number = number < all

  abbrev InLeft : ℕ → Type 0
  InLeft number = number < join.left.first + join.left.second + left.inner

  abbrev InRight : ℕ → Type 0
  InRight number = number < join.right.first + join.right.second + right.inner

  module _ (room : HasRoom join left right) (terms same : List Term) (is_same : same ≡ terms) where
    pub left_fits : All (Variables InLeft) terms → All (Variables (λ number. to_left join left right number < 2 ^ 32)) same
    left_fits h = all_weaker InLeft (λ number. to_left join left right number < 2 ^ 32) (λ number inside. omega (arith, left_below number inside)) same (All-same (Variables InLeft) same terms is_same h)

    pub right_fits : All (Variables InRight) terms → All (Variables (λ number. to_right join left right number < 2 ^ 32)) same
    right_fits h = all_weaker InRight (λ number. to_right join left right number < 2 ^ 32) (λ number inside. omega (arith, right_below number inside)) same (All-same (Variables InRight) same terms is_same h)

  both_below : (lefts rights : List Term) → All (Variables InLeft) lefts → All (Variables InRight) rights → All (Variables Below) (both join left right lefts rights)
  both_below lefts rights l r = All-append (Variables Below) _ _ (all_lead (to_left join left right) InLeft Below left_below lefts l) (all_lead (to_right join left right) InRight Below right_below rights r)

  -- the result has its variables below their number
  pub joined_formed : IsFormed (join.left.first + join.left.second) left → IsFormed (join.right.first + join.right.second) right → HasRoom join left right → IsFormed (join.ins + join.outs) (joined join left right)
  joined_formed l r room = record { few = room; equal = both_below left.equal right.equal l.equal r.equal; least = both_below left.least right.least l.least r.least }
