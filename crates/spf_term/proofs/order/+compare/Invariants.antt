use Rattle.std.proofs.Common.{◌≡◌, drop}
use Rattle.std.specs.Cmp.Lexicographic.{slice_cmp}
use Rattle.std.specs.Ordering.{int_cmp, ordering_then}
use Rattle.spf_term.specs.Order.{term_cmp}
use Rattle.spf_term.specs.declared.term.Term.{out-Term}
use Rattle.spf_term.proofs.Compared.{mono_cmp}
use Rattle.spf_term.proofs.order.+compare.Given as goal

abbrev pub invariant-compare-loop-index : goal.invariant-compare-loop-index
invariant-compare-loop-index l =
    ordering_then (slice_cmp mono_cmp (drop l.index l.mono-items) (drop l.index l.others)) (int_cmp (out-Term l.a).constant (out-Term l.b).constant) ≡ term_cmp l.a l.b
