use Rattle.std.proofs.Common.{◌≡◌, ◌++◌, drop}
use Rattle.spf_reltext.specs.Printed.{sum_from}
use Rattle.spf_reltext.proofs.print_term.+print_term.Given as goal

-- what is written, and what is still to be, are the whole
abbrev pub invariant-push_sum-loop-n : goal.invariant-push_sum-loop-n
invariant-push_sum-loop-n g l =
    l.text.items ++ sum_from (g.N.TermNames.naming l.names) l.n (drop l.n l.monos) l.constant ≡ l.fn.text.items ++ sum_from (g.N.TermNames.naming l.names) 0 l.monos l.constant
