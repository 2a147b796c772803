use Rattle.std.proofs.Common.{◌≡◌, take}
use Rattle.spf_calc.specs.Evaluated.{names_of, no_names}
use Rattle.spf_calc.proofs.evaluation.names_of.Given as goal

abbrev pub invariant-loop-statement : goal.invariant-loop-statement
invariant-loop-statement l = l.names ≡ names_of no_names (take l.statement-index l.statements)
