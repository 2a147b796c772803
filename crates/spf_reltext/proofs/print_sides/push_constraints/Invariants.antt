use Rattle.std.proofs.Common.{◌≡◌, ◌++◌, codes, drop}
use Rattle.spf_reltext.specs.Printed.{constraint_text, constraints_text, parts_from}
use Rattle.spf_reltext.proofs.print_sides.push_constraints.Given as goal

-- what is written, and what is still to be, are the whole
abbrev pub invariant-loop-n : goal.invariant-loop-n
invariant-loop-n g l =
    let print = constraint_text (g.N.TermNames.naming l.names) l.sign in
    l.text.items ++ parts_from l.opening (codes " and ") print l.n (drop l.n l.terms) ≡ l.fn.text.items ++ constraints_text (g.N.TermNames.naming l.names) l.opening l.sign l.terms
