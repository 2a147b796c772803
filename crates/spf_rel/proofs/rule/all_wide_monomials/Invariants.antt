use Rattle.std.proofs.Common.{◌≡◌, ◌-◌, ◌^◌, min, take}
use Rattle.std.specs.List.{sum_by}
use Rattle.spf_term.specs.Bounded.{monomials}
use Rattle.spf_term.specs.Wide.{plain}
use Rattle.spf_term.specs.declared.wide.WideTerm.{WideTerm}
use Rattle.spf_rel.proofs.rule.all_wide_monomials.Given as goal

abbrev pub invariant-loop-term : goal.invariant-loop-term
invariant-loop-term l = l.count ≡ min (sum_by (λ (term : WideTerm). monomials (plain term)) (take l.term-index l.terms)) (2 ^ 64 - 1)
