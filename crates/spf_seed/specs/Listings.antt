-- What a breadth-first walk keeps.
use Rattle.std.specs.Prelude.{◌≡◌, ℕ, ◌<◌, ◌≤◌, true, false, List, length, slice_index, slice_index_or, take}
use Rattle.spf_seed.specs.BreadthFirst.{AreUsedUp, IsNext}
use Rattle.spf_seed.specs.Entries.{has_entry}
use Rattle.spf_touch.specs.Ordered.{is_in}
use Rattle.spf_seed.specs.declared.inverted.Entry.{Entry}
use Rattle.spf_seed.specs.declared.listing.Listing.{Listing}

-- the flags say what is listed
abbrev pub AreFlags : Listing → Type 0
AreFlags listing = (x : ℕ) → x < length listing.flags.items → slice_index_or listing.flags.items x false ≡ is_in listing.order.items x

-- moreover the positions of an element that was gone through are listed
pub record IsListing (count : ℕ) (entries : List Entry) (listing : Listing) : Type 0 where
  pub long : length listing.flags.items ≡ count
  pub flags : AreFlags listing
  pub long_done : length listing.done.items ≡ length entries
  pub done : (k j : ℕ) (d : Entry) → k < length entries → slice_index_or listing.done.items k false ≡ true →
      has_entry entries (slice_index_or entries k d).element j ≡ true → is_in listing.order.items j ≡ true

-- each listed number came next after those before it, and the first ones are used up
pub record IsUnderway (near : ℕ → ℕ → Type 0) (count : ℕ) (order : List ℕ) (first : ℕ) : Type 0 where
  pub each : (r : ℕ) → r < length order → IsNext near count (take r order) (slice_index order r)
  pub used : AreUsedUp near count order first

-- all that was listed is listed still
pub record IsLonger (old new : List ℕ) : Type 0 where
  pub long : length old ≤ length new
  pub all : (x : ℕ) → is_in old x ≡ true → is_in new x ≡ true
