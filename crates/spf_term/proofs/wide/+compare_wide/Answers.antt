use Rattle.std.proofs.Common.{pos, ap, sym, ◌∙◌, ◌<◌, length, arith}
use Rattle.std.specs.Cmp.Lexicographic.{slice_cmp}
use Rattle.std.specs.Ordering.{int_cmp, ordering_then}
use Rattle.spf_term.specs.declared.wide.WideAtom.{Var}
use Rattle.spf_term.specs.declared.wide.WideTerm.{out-WideTerm}
use Rattle.spf_term.proofs.Compared.{shorter}
use Rattle.spf_term.proofs.Wides.{wide_cmp, wide_cmp_is}
use Rattle.spf_term.proofs.wide.+compare_wide.Goals as goal

pub compare_wide-loop-index-init : goal.compare_wide-loop-index-init
compare_wide-loop-index-init t c =
    (λ i. ordering_then (slice_cmp wide_cmp (c.as_slice-mono-items.ensures i) (c.as_slice-others.ensures i)) (int_cmp (out-WideTerm c.args.a.now).constant (out-WideTerm c.args.b.now).constant))
    ∙ sym (wide_cmp_is c.args.a.now c.args.b.now)

pub compare_wide-returns-then-len-others : goal.compare_wide-returns-then-len-others
compare_wide-returns-then-len-others t c =
    let inside : c.loop-index.index < length c.as_slice-others.result.now = grind arith in
    ap (λ rest. ordering_then rest (int_cmp (out-WideTerm c.args.a.now).constant (out-WideTerm c.args.b.now).constant))
    (sym (shorter wide_cmp c.as_slice-mono-items.result.now c.as_slice-others.result.now c.loop-index.index (record { coef = pos 0; atom = Var 0 }) c.loop-index-test.false inside))
    ∙ c.loop-index.invariant
