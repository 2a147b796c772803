use Rattle.std.proofs.Common.{◌≡◌, drop}
use Rattle.std.specs.Cmp.Lexicographic.{slice_cmp}
use Rattle.std.specs.Ordering.{int_cmp, ordering_then}
use Rattle.spf_term.specs.Order.{term_cmp}
use Rattle.spf_term.specs.Wide.{plain}
use Rattle.spf_term.specs.declared.wide.WideTerm.{out-WideTerm}
use Rattle.spf_term.proofs.Wides.{wide_cmp}
use Rattle.spf_term.proofs.wide.+compare_wide.Given as goal

abbrev pub invariant-compare_wide-loop-index : goal.invariant-compare_wide-loop-index
invariant-compare_wide-loop-index l =
    ordering_then (slice_cmp wide_cmp (drop l.index l.mono-items) (drop l.index l.others)) (int_cmp (out-WideTerm l.a).constant (out-WideTerm l.b).constant)
    ≡ term_cmp (plain l.a) (plain l.b)
