use Rattle.std.proofs.Common.{◌<◌, ◌∙◌, ℕ, [], ap, length, subst, sym, vec_items}
use Rattle.std.proofs.lemmas.List.{length-map}
use Rattle.std.specs.List.{AllPairs}
use Rattle.spf_core.proofs.Tiles.{row_read}
use Rattle.spf_core.proofs.order.Order.tiles_before.Goals as goal

pub returns-clause-ascending : goal.returns-clause-ascending
returns-clause-ascending c =
    let size = ap length c.self.view_is in
    let inside : c.args.tile < length c.self.inside.before.items = subst (λ n. c.args.tile < n) (sym (sym (length-map c.self.inside.before.items vec_items) ∙ size)) c.requires in
    let row = row_read c.self.inside.before.items c.args.tile c.index.result.now inside c.index.ensures in
    rw c.as_slice.ensures.value (subst (AllPairs (λ (a b : ℕ). a < b)) row
    (c.self.invariant.2 c.args.tile [] (subst (λ n. c.args.tile < n) (sym (length-map c.self.inside.before.items vec_items)) inside)))
