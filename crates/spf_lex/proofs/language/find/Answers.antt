use Rattle.std.proofs.Common.{sym, ◌∙◌}
use Rattle.spf_lex.proofs.Tables.{found_here, found_later}
use Rattle.spf_lex.proofs.language.find.Goals as goal

pub returns-then-eq : goal.returns-then-eq
returns-then-eq g c = sym (c.loop-entry.invariant ∙ found_here (λ e. (e.text.now, e.kind)) c.args.table.now c.args.text.now c.loop-entry.entry-index c.entry-item.result c.loop-entry-test.true c.entry-item.is (sym c.eq.ensures ∙ c.if-eq.true))

pub loop-entry-preserved : goal.loop-entry-preserved
loop-entry-preserved g c = c.loop-entry.invariant ∙ found_later (λ e. (e.text.now, e.kind)) c.args.table.now c.args.text.now c.loop-entry.entry-index c.entry-item.result c.loop-entry-test.true c.entry-item.is (sym c.eq.ensures ∙ c.if-eq.false)
