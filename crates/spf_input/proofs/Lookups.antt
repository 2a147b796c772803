-- Entries that are found by their names.
use Rattle.std.proofs.Common.{◌≡◌, ℕ, ◌+◌, Bool, true, false, not, cond, one-add, List, [], ◌∷◌, slice_get, refl}
use Rattle.std.specs.List.{position_or_len}
use Rattle.std.specs.Str.{bytes_eq}
use Rattle.spf_input.specs.Given.{Given, numbers_of}
use Rattle.spf_input.specs.Rules.{given_names}
use Rattle.spf_input.specs.Tested.{numbers_at}

-- the numbers of a name are those of the entry at the place of the name
pub numbers_found : (given : List Given) (name : List ℕ) → numbers_at (slice_get given (position_or_len (bytes_eq name) (given_names given))) ≡ numbers_of given name
numbers_found [] name = refl
numbers_found (entry ∷ entries) name = by (bytes_eq name entry.name) (numbers_found entries name) where
  place : ℕ
  place = position_or_len (bytes_eq name) (given_names entries)

  by : (here : Bool) → numbers_at (slice_get entries place) ≡ numbers_of entries name
      → numbers_at (slice_get (entry ∷ entries) (cond (not here) (1 + place) 0)) ≡ cond here entry.numbers (numbers_of entries name)
  by true behind = refl
  by false behind = rw (one-add place) behind
