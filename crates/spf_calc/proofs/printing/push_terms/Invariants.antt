use Rattle.std.proofs.Common.{◌≡◌, ◌++◌, [], codes, drop}
use Rattle.spf_reltext.specs.Printed.{parts_from, rel_naming, term_text}
use Rattle.spf_calc.proofs.printing.push_terms.Given as goal

-- what is written, and what is still to be, are the whole
abbrev pub invariant-loop-n : goal.invariant-loop-n
invariant-loop-n l =
    let print = term_text (rel_naming l.layout.ins l.layout.outs l.layout.names.now) in
    l.text.items ++ parts_from [] (codes ", ") print l.n (drop l.n l.terms) ≡ l.fn.text.items ++ parts_from [] (codes ", ") print 0 l.terms
