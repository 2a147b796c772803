use Rattle.std.proofs.Common.{◌≡◌, ◌++◌, ◌≤◌, drop}
use Rattle.spf_reltext.specs.Printed.{side_from}
use Rattle.spf_reltext.proofs.print_sides.push_sum.Given as goal

-- what is written, and what is still to be, are the whole
abbrev pub invariant-loop-mono : goal.invariant-loop-mono
invariant-loop-mono g l =
    (l.n ≤ l.mono-index)
    × (l.text.items ++ side_from (g.N.TermNames.naming l.names) l.side l.n (drop l.mono-index l.monos) l.constant ≡ l.fn.text.items ++ side_from (g.N.TermNames.naming l.names) l.side 0 l.monos l.constant)
