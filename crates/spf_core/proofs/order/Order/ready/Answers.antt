use Rattle.std.proofs.Common.{◌≡◌, ◌<◌, ◌∙◌, ℕ, List, [], ap, length, subst, sym, vec_items}
use Rattle.std.proofs.lemmas.List.{length-map}
use Rattle.std.specs.List.{All}
use Rattle.spf_core.proofs.Tiles.{row_read}
use Rattle.spf_core.proofs.order.Order.ready.Goals as goal

pub all_marked-requires : goal.all_marked-requires
all_marked-requires c =
    let size = sym (length-map c.self.inside.before.items vec_items) ∙ ap length c.self.view_is in
    let inside : c.args.tile < length c.self.inside.before.items = subst (λ n. c.args.tile < n) (sym size) c.requires.tile in
    let row = row_read c.self.inside.before.items c.args.tile c.index.result.now inside c.index.ensures in
    let marks : length c.args.published.now ≡ length c.self.inside.before.items = c.requires.marks ∙ sym size in
    rw (c.as_slice.ensures.value, marks) (subst (λ (l : List ℕ). All (λ a. a < length c.self.inside.before.items) l) row
    (c.self.invariant.1 c.args.tile [] (subst (λ n. c.args.tile < n) (sym (length-map c.self.inside.before.items vec_items)) inside)))
