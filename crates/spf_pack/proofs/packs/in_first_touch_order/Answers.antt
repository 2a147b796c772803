use Rattle.std.proofs.Common.{◌≡◌, ◌<◌, [], All, length, sym, ap, subst, ◌∙◌}
use Rattle.spf_perm.specs.Perm.{AreInverse}
use Rattle.spf_touch.specs.Listed.{all_listed}
use Rattle.spf_pack.specs.Packs.{touched_by}
use Rattle.spf_pack.proofs.Packed.{order_is, order_long, order_perm}
use Rattle.spf_pack.proofs.packs.in_first_touch_order.Goals as goal

pub put_units-requires-clause-members : goal.put_units-requires-clause-members
put_units-requires-clause-members c = rw (c.in_ok-listing.ensures.long, c.len.ensures) c.requires.members

pub returns-clause-order : goal.returns-clause-order
returns-clause-order c =
    let touched = touched_by c.args.touches.now c.args.arrays.now c.args.members.now c.args.units.now in
    let back = c.in_ok-made.field-0 in
    let inverse : AreInverse c.args.now.now back = rw c.in_ok-made.ensures.0 at c.inverse.ensures in
    let listed : c.put_all-2.new.self.order.items ≡ all_listed (all_listed [] touched) back =
    c.in_ok-put_all.ensures.order ∙ ap (λ l. all_listed l back) (c.in_ok-put_units.ensures.order ∙ ap (λ l. all_listed l touched) c.in_ok-listing.ensures.none) in
    order_is touched c.args.now.now back c.put_all-2.new.self.order.items c.in_ok-made.ensures.1 inverse listed

pub returns-clause-perm : goal.returns-clause-perm
returns-clause-perm c =
    let touched = touched_by c.args.touches.now c.args.arrays.now c.args.members.now c.args.units.now in
    let back = c.in_ok-made.field-0 in
    let inverse : AreInverse c.args.now.now back = rw c.in_ok-made.ensures.0 at c.inverse.ensures in
    let listed : c.put_all-2.new.self.order.items ≡ all_listed (all_listed [] touched) back =
    c.in_ok-put_all.ensures.order ∙ ap (λ l. all_listed l back) (c.in_ok-put_units.ensures.order ∙ ap (λ l. all_listed l touched) c.in_ok-listing.ensures.none) in
    let long : length c.put_all-2.new.self.flags.items ≡ length back =
    c.in_ok-put_all.ensures.still ∙ c.in_ok-put_units.ensures.still ∙ c.in_ok-listing.ensures.long ∙ c.len.ensures ∙ sym inverse.lengths in
    order_perm touched c.args.now.now back c.put_all-2.new.self.order.items c.in_ok-made.ensures.1 inverse listed (subst (λ n. All (λ x. x < n) c.put_all-2.new.self.order.items) long c.in_ok-put_all.ensures.kept.below)

pub returns-clause-long : goal.returns-clause-long
returns-clause-long c =
    let touched = touched_by c.args.touches.now c.args.arrays.now c.args.members.now c.args.units.now in
    let back = c.in_ok-made.field-0 in
    let inverse : AreInverse c.args.now.now back = rw c.in_ok-made.ensures.0 at c.inverse.ensures in
    let listed : c.put_all-2.new.self.order.items ≡ all_listed (all_listed [] touched) back =
    c.in_ok-put_all.ensures.order ∙ ap (λ l. all_listed l back) (c.in_ok-put_units.ensures.order ∙ ap (λ l. all_listed l touched) c.in_ok-listing.ensures.none) in
    let long : length c.put_all-2.new.self.flags.items ≡ length back =
    c.in_ok-put_all.ensures.still ∙ c.in_ok-put_units.ensures.still ∙ c.in_ok-listing.ensures.long ∙ c.len.ensures ∙ sym inverse.lengths in
    order_long touched c.args.now.now back c.put_all-2.new.self.order.items c.in_ok-made.ensures.1 inverse listed (subst (λ n. All (λ x. x < n) c.put_all-2.new.self.order.items) long c.in_ok-put_all.ensures.kept.below)
