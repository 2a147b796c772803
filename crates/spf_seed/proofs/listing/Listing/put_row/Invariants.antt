use Rattle.std.proofs.Common.{◌≡◌, length, drop}
use Rattle.spf_seed.specs.Entries.{positions_in}
use Rattle.spf_touch.specs.Listed.{all_listed}
use Rattle.spf_seed.specs.Listings.{AreFlags}
use Rattle.spf_seed.proofs.listing.Listing.put_row.Given as goal

abbrev pub invariant-loop-entry : goal.invariant-loop-entry
invariant-loop-entry l = record {
  flags : AreFlags l.self;
  still : length l.self.flags.items ≡ length l.fn.self.flags.items;
  done : l.self.done.items ≡ l.fn.self.done.items;
  order : all_listed l.self.order.items (positions_in (drop l.entry-index l.row)) ≡ all_listed l.fn.self.order.items (positions_in l.row);
}
