use Rattle.std.proofs.Common.{pos, ap, sym, ◌∙◌, ◌<◌, length, arith}
use Rattle.std.specs.Cmp.Lexicographic.{slice_cmp}
use Rattle.std.specs.Ordering.{int_cmp, ordering_then}
use Rattle.spf_term.specs.declared.term.Atom.{Var}
use Rattle.spf_term.specs.declared.term.Term.{out-Term}
use Rattle.spf_term.proofs.Compared.{mono_cmp, shorter, term_cmp_is}
use Rattle.spf_term.proofs.order.+compare.Goals as goal

pub compare-loop-index-init : goal.compare-loop-index-init
compare-loop-index-init t c =
    (λ i. ordering_then (slice_cmp mono_cmp (c.as_slice-mono-items.ensures i) (c.as_slice-others.ensures i)) (int_cmp (out-Term c.args.a.now).constant (out-Term c.args.b.now).constant))
    ∙ sym (term_cmp_is c.args.a.now c.args.b.now)

pub compare-returns-then-len-others : goal.compare-returns-then-len-others
compare-returns-then-len-others t c =
    let inside : c.loop-index.index < length c.as_slice-others.result.now = grind arith in
    ap (λ rest. ordering_then rest (int_cmp (out-Term c.args.a.now).constant (out-Term c.args.b.now).constant))
    (sym (shorter mono_cmp c.as_slice-mono-items.result.now c.as_slice-others.result.now c.loop-index.index (record { coef = pos 0; atom = Var 0 }) c.loop-index-test.false inside))
    ∙ c.loop-index.invariant
