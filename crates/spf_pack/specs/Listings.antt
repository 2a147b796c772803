-- Places with flags.
use Rattle.std.specs.Prelude.{ℕ, ◌≡◌, ◌<◌, false, All, length, slice_index_or}
use Rattle.spf_touch.specs.Ordered.{is_in}
use Rattle.spf_pack.specs.declared.listing.Listing.{Listing}

-- the flags say what is listed, and each listed place has one
pub record IsListing (listing : Listing) : Type 0 where
  pub flags : (x : ℕ) → x < length listing.flags.items → slice_index_or listing.flags.items x false ≡ is_in listing.order.items x
  pub below : All (λ x. x < length listing.flags.items) listing.order.items
