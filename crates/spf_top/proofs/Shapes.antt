-- A shape is its steps, loops and arrays; and lengths with the same numbers below.
use Rattle.std.proofs.Common.{◌≡◌, ℕ, List, sym, ◌∙◌, inl, inr, arith}
use Rattle.std.specs.Prelude.{nat_lt}
use Rattle.std.proofs.Props.{props}
use Rattle.std.proofs.lemmas.Bool.{cases_order, lt-ltb, ltb-true}
use mathlib.Core.HLevel.{Σ_prop_path}
use Rattle.spf_space.specs.Layout.{AreAdjacent-prop, IsLayout}
use Rattle.spf_space.specs.declared.shape.ArrayShape.{ArrayShape}
use Rattle.spf_space.specs.declared.shape.LoopShape.{LoopShape}
use Rattle.spf_space.specs.declared.shape.Shape.{Shape}

abbrev Parts : Type 0
Parts = ℕ × List LoopShape × List ArrayShape

pub same_shape : (s t : Shape) → s.steps ≡ t.steps → s.loops ≡ t.loops → s.arrays ≡ t.arrays → s ≡ t
same_shape s t steps loops arrays =
    let parts : ◌≡◌ {A = (p : Parts) × IsLayout p.0 p.1 p.2} ((s.steps, s.loops, s.arrays), s.layout) ((t.steps, t.loops, t.arrays), t.layout) =
    Σ_prop_path (λ p. hlevel (props, AreAdjacent-prop)) (λ i. (steps i, loops i, arrays i)) in
    λ i. record { steps = (parts i).0.0; loops = (parts i).0.1; arrays = (parts i).0.2; layout = (parts i).1 }

-- of two lengths with the same numbers below
pub same_length : (m n : ℕ) → ((e : ℕ) → nat_lt e m ≡ nat_lt e n) → m ≡ n
same_length m n same = elim (cases_order m n) [
  | inl equal ↦ equal
  | inr (inl less) ↦ absurd (let there = ltb-true m m (same m ∙ lt-ltb m n less) in omega (arith, there))
  | inr (inr more) ↦ absurd (let there = ltb-true n n (sym (same n) ∙ lt-ltb n m more) in omega (arith, there))
]
