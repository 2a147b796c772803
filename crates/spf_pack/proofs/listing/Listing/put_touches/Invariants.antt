use Rattle.std.proofs.Common.{◌≡◌, length, drop}
use Rattle.spf_touch.specs.Listed.{all_listed}
use Rattle.spf_pack.specs.FirstTouch.{touched_places}
use Rattle.spf_pack.specs.Listings.{IsListing}
use Rattle.spf_pack.proofs.listing.Listing.put_touches.Given as goal

abbrev pub invariant-loop-touch : goal.invariant-loop-touch
invariant-loop-touch l = record {
  kept : IsListing l.self;
  still : length l.self.flags.items ≡ length l.fn.self.flags.items;
  order : all_listed l.self.order.items (touched_places l.arrays l.members (drop l.touch-index l.touches))
      ≡ all_listed l.fn.self.order.items (touched_places l.arrays l.members l.touches);
}
