-- The sets and relations that the operations make: which conjunctions they have, in which order.
use Rattle.std.specs.Prelude.{ℕ, ◌+◌, ◌<◌, ◌^◌, ◌++◌, All, map}
use Rattle.spf_rel.specs.Join.{joined_all}
use Rattle.spf_rel.specs.Renumbering.{moved, renumbered}
use Rattle.spf_rel.specs.declared.join.Join.{Join}
use Rattle.spf_rel.specs.declared.join.Side.{Side}
use Rattle.spf_rel.specs.declared.join.Spot.TheVariants.{Outer, Middle}
use Rattle.spf_rel.specs.declared.relation.Conj.{Conj}
use Rattle.spf_rel.specs.declared.relation.Set.{Set}
use Rattle.spf_rel.specs.declared.relation.Rel.{Rel}
use Rattle.spf_rel.specs.declared.renumber.Blocks.{Blocks}

-- ---- one operand

-- inputs become outputs and outputs inputs
abbrev pub swap : ℕ → ℕ → Blocks
swap ins outs = record { first = ins; second = outs; to_first = outs; to_second = 0; to_others = ins + outs }

abbrev pub swapped : ℕ → ℕ → Conj → Conj
swapped ins outs conj = record {
  inner = conj.inner;
  equal = map (renumbered (moved (swap ins outs))) conj.equal;
  least = map (renumbered (moved (swap ins outs))) conj.least;
}

abbrev pub inverse : Rel → Rel
inverse r = record { ins = r.outs; outs = r.ins; conjs = map (swapped r.ins r.outs) r.conjs }

-- ---- the conjunctions of one, and then of the other

abbrev pub union : Rel → Rel → Rel
union a b = record { ins = a.ins; outs = a.outs; conjs = a.conjs ++ b.conjs }

abbrev pub union_sets : Set → Set → Set
union_sets a b = record { arity = a.arity; conjs = a.conjs ++ b.conjs }

-- ---- for each conjunction of one, each of the other

-- tuples that keep their places
abbrev pub in_place : ℕ → ℕ → Side
in_place ins outs = record { first = ins; first_to = Outer 0; second = outs; second_to = Outer ins }

-- the outputs of the left are the inputs of the right
abbrev pub composing : Rel → Rel → Join
composing b a = record {
  ins = a.ins;
  outs = b.outs;
  middle = a.outs;
  left = record { first = a.ins; first_to = Outer 0; second = a.outs; second_to = Middle };
  right = record { first = b.ins; first_to = Middle; second = b.outs; second_to = Outer a.ins };
}

-- b after a
abbrev pub compose : Rel → Rel → Rel
compose b a = record { ins = a.ins; outs = b.outs; conjs = joined_all (composing b a) a.conjs b.conjs }

-- the points of the left are the inputs of the right
abbrev pub applying : Rel → Set → Join
applying r s = record {
  ins = r.outs;
  outs = 0;
  middle = r.ins;
  left = record { first = s.arity; first_to = Middle; second = 0; second_to = Outer 0 };
  right = record { first = r.ins; first_to = Middle; second = r.outs; second_to = Outer 0 };
}

abbrev pub apply : Rel → Set → Set
apply r s = record { arity = r.outs; conjs = joined_all (applying r s) s.conjs r.conjs }

-- both have the same inputs and outputs; a set has inputs alone
abbrev pub meeting : ℕ → ℕ → ℕ → ℕ → Join
meeting ins outs right_ins right_outs = record { ins = ins; outs = outs; middle = 0; left = in_place ins outs; right = in_place right_ins right_outs }

abbrev pub intersect : Rel → Rel → Rel
intersect a b = record { ins = a.ins; outs = a.outs; conjs = joined_all (meeting a.ins a.outs b.ins b.outs) a.conjs b.conjs }

abbrev pub intersect_sets : Set → Set → Set
intersect_sets a b = record { arity = a.arity; conjs = joined_all (meeting a.arity 0 b.arity 0) a.conjs b.conjs }

abbrev pub restrict_domain : Rel → Set → Rel
restrict_domain r s = record { ins = r.ins; outs = r.outs; conjs = joined_all (meeting r.ins r.outs s.arity 0) r.conjs s.conjs }

-- ---- the variables of each conjunction have numbers of 32 bits

abbrev pub HasRoomRel : Rel → Type 0
HasRoomRel r = All (λ (conj : Conj). r.ins + r.outs + conj.inner < 2 ^ 32) r.conjs

abbrev pub HasRoomSet : Set → Type 0
HasRoomSet s = All (λ (conj : Conj). s.arity + conj.inner < 2 ^ 32) s.conjs
