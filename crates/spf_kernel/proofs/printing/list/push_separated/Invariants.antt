use Rattle.spf_kernel.proofs.Common.{◌≡◌, ◌++◌, take}
use Rattle.spf_kernel.proofs.printing.list.push_separated.Given as goal
use Rattle.spf_kernel.specs.printing.Printed.{separated}

abbrev pub invariant-loop-n : goal.invariant-loop-n
invariant-loop-n g l = l.words ≡ l.fn.words ++ separated l.between (g.T.Print.printed l.shown.names.now l.shown.vars.now) (take l.n l.parts)
