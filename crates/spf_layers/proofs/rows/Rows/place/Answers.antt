use Rattle.std.proofs.Common.{sym, ◌∙◌}
use Rattle.std.proofs.lemmas.Result.{on_ok_weaker}
use Rattle.spf_layers.specs.Flat.{parts}
use Rattle.spf_layers.proofs.Behind.{placed_join, placed_open}
use Rattle.spf_layers.proofs.Parts.{length-parts}
use Rattle.spf_layers.proofs.rows.Rows.place.Goals as goal

pub returns-then-joins_last-clause-placed : goal.returns-then-joins_last-clause-placed
returns-then-joins_last-clause-placed c =
    let now = c.args.self.now in
    on_ok_weaker c.join.result (λ joined. joined ∙ placed_join now.classes.items (parts now.units.items 0 now.ends.items) (c.requires.flat.classes ∙ sym (length-parts now.units.items 0 now.ends.items))
    c.args.start c.args.unit c.args.class (rw (← c.as_slice.ensures.value) (sym c.joins_last.ensures ∙ c.if-joins_last.true))) c.join.ensures.joined

pub returns-else-joins_last-clause-placed : goal.returns-else-joins_last-clause-placed
returns-else-joins_last-clause-placed c =
    let now = c.args.self.now in
    on_ok_weaker c.open.result (λ opened. opened ∙ placed_open now.classes.items (parts now.units.items 0 now.ends.items) (c.requires.flat.classes ∙ sym (length-parts now.units.items 0 now.ends.items))
    c.args.start c.args.unit c.args.class (rw (← c.as_slice.ensures.value) (sym c.joins_last.ensures ∙ c.if-joins_last.false)) c.requires.start) c.open.ensures.opened
