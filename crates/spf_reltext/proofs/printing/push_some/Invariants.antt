use Rattle.std.proofs.Common.{◌≡◌, ◌++◌, [], codes, drop}
use Rattle.spf_reltext.specs.Printed.{conj_text, parts_from}
use Rattle.spf_reltext.proofs.printing.push_some.Given as goal

-- what is written, and what is still to be, are the whole
abbrev pub invariant-loop-n : goal.invariant-loop-n
invariant-loop-n l =
    let print = conj_text l.frame.ins l.frame.outs l.frame.names.now in
    l.text.items ++ parts_from [] (codes " | ") print l.n (drop l.n l.conjs) ≡ l.fn.text.items ++ parts_from [] (codes " | ") print 0 l.conjs
