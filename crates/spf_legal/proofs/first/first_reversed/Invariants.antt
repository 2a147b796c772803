use Rattle.std.proofs.Common.{ℕ, ◌<◌}
use Rattle.spf_layers.specs.Groups.{element_groups}
use Rattle.spf_layers.specs.Legality.{IsFirst}
use Rattle.spf_legal.specs.Falling.{FallsApart, number_in}
use Rattle.spf_legal.proofs.first.first_reversed.Given as goal

-- the first among the elements so far
abbrev pub invariant-loop-element : goal.invariant-loop-element
invariant-loop-element l = IsFirst (λ p q. (e : ℕ) × (e < l.element) × FallsApart (number_in l.shape l.places) (element_groups l.layers e) p q) l.first
