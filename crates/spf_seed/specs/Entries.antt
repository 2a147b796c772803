-- The entries of a view: which elements are touched at which positions.
use Rattle.std.specs.Prelude.{◌≡◌, ℕ, Bool, ◌&&◌, ◌==◌, nat_lt, List, filter, map}
use Rattle.std.specs.List.{list_any}
use Rattle.std.specs.List.Sorted.{IsNonDecreasingBy}
use Rattle.spf_touch.specs.Ordered.{is_in}
use Rattle.spf_seed.specs.declared.inverted.Entry.{Entry}

abbrev pub entry_at : ℕ → ℕ → Entry
entry_at position element = record { element = element; position = position }

abbrev pub has_entry : List Entry → ℕ → ℕ → Bool
has_entry entries e j = list_any (λ (entry : Entry). (e == entry.element) && (j == entry.position)) entries

-- the entries are those of the positions below count
abbrev pub AreEntriesTo : (ℕ → List ℕ) → ℕ → List Entry → Type 0
AreEntriesTo touched count entries = (e j : ℕ) → has_entry entries e j ≡ (nat_lt j count && is_in (touched j) e)

-- the entries of an element
abbrev pub row_of : List Entry → ℕ → List Entry
row_of entries e = filter (λ (entry : Entry). e == entry.element) entries

abbrev pub positions_in : List Entry → List ℕ
positions_in entries = map (λ (entry : Entry). entry.position) entries

-- the entries of all positions, by their elements
pub record AreInverted (touched : ℕ → List ℕ) (count : ℕ) (entries : List Entry) : Type 0 where
  pub each : AreEntriesTo touched count entries
  pub sorted : IsNonDecreasingBy (λ (entry : Entry). entry.element) entries
