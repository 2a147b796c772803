use Rattle.std.proofs.Common.{◌≡◌, pos, take}
use Rattle.std.specs.List.{All}
use Rattle.spf_term.specs.Value.{value}
use Rattle.spf_term.specs.declared.term.Term.{Term}
use Rattle.spf_rel.proofs.membership.all_zero.Given as goal

abbrev pub invariant-loop-term : goal.invariant-loop-term
invariant-loop-term l = All (λ (term : Term). value l.env l.point term ≡ pos 0) (take l.term-index l.terms)
