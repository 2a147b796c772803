use Rattle.std.proofs.Common.{◌≡◌, length, drop}
use Rattle.spf_touch.specs.Listed.{all_listed}
use Rattle.spf_pack.specs.Listings.{IsListing}
use Rattle.spf_pack.specs.Packs.{touched_by}
use Rattle.spf_pack.proofs.listing.Listing.put_units.Given as goal

abbrev pub invariant-loop-unit : goal.invariant-loop-unit
invariant-loop-unit l = record {
  kept : IsListing l.self;
  still : length l.self.flags.items ≡ length l.fn.self.flags.items;
  order : all_listed l.self.order.items (touched_by l.touches l.arrays l.members (drop l.unit-index l.units))
      ≡ all_listed l.fn.self.order.items (touched_by l.touches l.arrays l.members l.units);
}
