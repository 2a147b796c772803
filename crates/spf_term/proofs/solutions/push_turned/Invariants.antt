use Rattle.std.proofs.Common.{◌≡◌, ◌++◌, take}
use Rattle.spf_term.specs.Substitution.{scaled}
use Rattle.spf_term.proofs.solutions.push_turned.Given as goal

abbrev pub invariant-loop-mono : goal.invariant-loop-mono
invariant-loop-mono l = l.made ≡ l.fn.made ++ scaled l.factor (take l.mono-index l.monos)
