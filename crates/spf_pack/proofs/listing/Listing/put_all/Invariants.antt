use Rattle.std.proofs.Common.{◌≡◌, length, drop}
use Rattle.spf_touch.specs.Listed.{all_listed}
use Rattle.spf_pack.specs.Listings.{IsListing}
use Rattle.spf_pack.proofs.listing.Listing.put_all.Given as goal

abbrev pub invariant-loop-position : goal.invariant-loop-position
invariant-loop-position l = record {
  kept : IsListing l.self;
  still : length l.self.flags.items ≡ length l.fn.self.flags.items;
  order : all_listed l.self.order.items (drop l.position l.places) ≡ all_listed l.fn.self.order.items l.places;
}
