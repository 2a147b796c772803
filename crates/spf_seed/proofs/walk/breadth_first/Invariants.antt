use Rattle.std.proofs.Common.{◌≡◌, ◌<◌, ℕ, length, true}
use Rattle.spf_touch.specs.Ordered.{is_in}
use Rattle.spf_seed.specs.Listings.{IsListing, IsUnderway}
use Rattle.spf_seed.specs.View.{AreNeighbours, positions}
use Rattle.spf_seed.proofs.walk.breadth_first.Given as goal

abbrev pub invariant-loop-position : goal.invariant-loop-position
invariant-loop-position l = record {
  kept : IsListing (positions l.view) l.entries.items l.listing;
  underway : IsUnderway (AreNeighbours l.view) (positions l.view) l.listing.order.items (length l.listing.order.items);
  all : (y : ℕ) → y < l.position → is_in l.listing.order.items y ≡ true;
}
