use Rattle.std.proofs.Common.{◌≡◌, ◌++◌, ◌-◌, codes}
use Rattle.std.specs.List.{range_with_len}
use Rattle.spf_reltext.specs.Printed.{numbered, parts_from, variables_text}
use Rattle.spf_reltext.proofs.print_parts.push_variables.Given as goal

-- what is written, and what is still to be, are the whole
abbrev pub invariant-loop-n : goal.invariant-loop-n
invariant-loop-n l = l.text.items ++ parts_from l.opening (codes ", ") (numbered l.letter) l.n (range_with_len l.n (l.count - l.n)) ≡ l.fn.text.items ++ variables_text l.opening l.letter l.count
