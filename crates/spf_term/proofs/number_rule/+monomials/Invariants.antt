use Rattle.std.proofs.Common.{◌≡◌, ◌+◌, ◌-◌, ◌^◌, ◌<◌, drop, min}
use Rattle.spf_term.specs.Bounded.{monomials}
use Rattle.spf_term.proofs.Numbers.{list_monomials}
use Rattle.spf_term.proofs.number_rule.+monomials.Given as goal

abbrev pub invariant-monomials-loop-mono : goal.invariant-monomials-loop-mono
invariant-monomials-loop-mono l = record { counted : min (l.count + list_monomials (drop l.mono-index l.mono-items)) (2 ^ 64 - 1) ≡ min (monomials l.term) (2 ^ 64 - 1); fits : l.count < 2 ^ 64 }
