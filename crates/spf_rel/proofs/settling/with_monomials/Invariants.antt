use Rattle.std.proofs.Common.{◌≡◌, take}
use Rattle.std.specs.List.{filter}
use Rattle.spf_rel.specs.Simplified.{has_monomials}
use Rattle.spf_rel.proofs.settling.with_monomials.Given as goal

abbrev pub invariant-loop-term : goal.invariant-loop-term
invariant-loop-term l = l.made ≡ filter has_monomials (take l.term-index l.terms)
