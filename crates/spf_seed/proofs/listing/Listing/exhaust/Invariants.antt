use Rattle.std.proofs.Common.{◌≤◌, ◌-◌, length}
use Rattle.spf_seed.specs.Listings.{IsListing, IsLonger, IsUnderway}
use Rattle.spf_seed.specs.View.{AreNeighbours, positions}
use Rattle.spf_seed.proofs.listing.Listing.exhaust.Given as goal

abbrev pub invariant-loop-place : goal.invariant-loop-place
invariant-loop-place l = record {
  there : l.place ≤ length l.self.order.items;
  kept : IsListing (positions l.view) l.entries l.self;
  underway : IsUnderway (AreNeighbours l.view) (positions l.view) l.self.order.items l.place;
  still : IsLonger l.fn.self.order.items l.self.order.items;
}

abbrev pub decreases-loop-place : goal.decreases-loop-place
decreases-loop-place l = positions l.view - l.place
