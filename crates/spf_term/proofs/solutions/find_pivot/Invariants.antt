use Rattle.std.proofs.Common.{◌≡◌, drop, take}
use Rattle.spf_term.specs.Solution.{solution, solution_among}
use Rattle.spf_term.specs.declared.term.Term.{out-Term}
use Rattle.spf_term.proofs.solutions.find_pivot.Given as goal

abbrev pub invariant-loop-place : goal.invariant-loop-place
invariant-loop-place l = solution_among l.low l.high (out-Term l.term).constant (take l.place l.monos) (drop l.place l.monos) ≡ solution l.low l.high l.term
