use Rattle.std.proofs.Common.{◌≡◌, length, drop}
use Rattle.std.specs.List.{flat_map}
use Rattle.spf_seed.specs.Entries.{positions_in, row_of}
use Rattle.spf_touch.specs.Listed.{all_listed}
use Rattle.spf_seed.specs.Listings.{IsListing}
use Rattle.spf_seed.proofs.listing.Listing.put_elements.Given as goal

abbrev pub invariant-loop-element : goal.invariant-loop-element
invariant-loop-element l = record {
  kept : IsListing (length l.fn.self.flags.items) l.entries l.self;
  order : all_listed l.self.order.items (flat_map (λ e. positions_in (row_of l.entries e)) (drop l.element-index l.elements))
      ≡ all_listed l.fn.self.order.items (flat_map (λ e. positions_in (row_of l.entries e)) l.elements);
}
