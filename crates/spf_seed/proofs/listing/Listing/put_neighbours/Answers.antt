use Rattle.std.proofs.Common.{◌≡◌, refl, ◌∙◌, length, get_or, true, rules, arith}
use Rattle.std.proofs.lemmas.List.{get_or_default}
use Rattle.spf_touch.specs.Ordered.{is_in}
use Rattle.spf_seed.specs.View.{AreNeighbours, positions, touched}
use Rattle.spf_seed.proofs.Following.{order_below}
use Rattle.spf_seed.proofs.Keeping.{after_long, listing_alike, new_in, new_longer, new_underway}
use Rattle.spf_touch.proofs.Members.{in_at}
use Rattle.spf_seed.proofs.Rows.{all_below, row_there}
use Rattle.spf_seed.proofs.listing.Listing.put_neighbours.Goals as goal

pub put_elements-requires-clause-there : goal.put_elements-requires-clause-there
put_elements-requires-clause-there c k d lt =
    let view = c.args.view.now in
    let order = c.args.self.now.order.items in
    let member : c.index.result.now ≡ get_or order c.args.place 0 = c.index.ensures ∙ get_or_default order c.args.place c.index.result.now 0 c.requires.place in
    let below = order_below (AreNeighbours view) (positions view) order c.requires.underway.each c.args.place c.requires.place in
    let element = get_or c.touched-elements.result.now k d in
    let there : is_in (touched view c.index.result.now) element ≡ true = rw (← c.touched-elements.ensures) (in_at c.touched-elements.result.now k d lt) in
    row_there (touched view) (positions view) c.args.entries.now c.requires.entries.each element c.index.result.now (omega (arith, member, below)) there

pub put_elements-requires-clause-below : goal.put_elements-requires-clause-below
put_elements-requires-clause-below c k d lt =
    rw c.requires.kept.long (all_below (touched c.args.view.now) (positions c.args.view.now) c.args.entries.now c.requires.entries.each k d lt)

pub sort_from-requires : goal.sort_from-requires
sort_from-requires c =
    let view = c.args.view.now in
    let order = c.args.self.now.order.items in
    let member : c.index.result.now ≡ get_or order c.args.place 0 = c.index.ensures ∙ get_or_default order c.args.place c.index.result.now 0 c.requires.place in
    let long : c.len-from.result ≡ length order = search rules in
    let put = rw (c.touched-elements.ensures, member) at c.in_ok-put_elements.ensures.order in
    omega (arith, long, after_long view c.args.entries.now c.requires.entries order c.args.place c.requires.place c.requires.underway c.put_elements.new.self.order.items put)

pub returns : goal.returns
returns c =
    let view = c.args.view.now in
    let order = c.args.self.now.order.items in
    let after = c.put_elements.new.self.order.items in
    let new = c.sort_from.new.order.items in
    let member : c.index.result.now ≡ get_or order c.args.place 0 = c.index.ensures ∙ get_or_default order c.args.place c.index.result.now 0 c.requires.place in
    let long : c.len-from.result ≡ length order = search rules in
    let put = rw (c.touched-elements.ensures, member) at c.in_ok-put_elements.ensures.order in
    let front = rw long at c.sort_from.ensures.front in
    let moved = rw long at c.sort_from.ensures.moved in
    let sorted = rw long at c.sort_from.ensures.sorted in
    let alike = new_in view c.args.entries.now c.requires.entries order c.args.place c.requires.place c.requires.underway after put new front moved sorted in
    record {
      kept = listing_alike (positions view) c.args.entries.now c.put_elements.new.self _ (rw c.requires.kept.long at c.in_ok-put_elements.ensures.kept) refl refl alike;
      underway = new_underway view c.args.entries.now c.requires.entries order c.args.place c.requires.place c.requires.underway after put new front moved sorted;
      still = new_longer view c.args.entries.now c.requires.entries order c.args.place c.requires.place c.requires.underway after put new front moved sorted;
    }
