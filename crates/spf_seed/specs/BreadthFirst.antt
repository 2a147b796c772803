-- Breadth-first orders of the numbers below count, by a relation between them.
use Rattle.std.specs.Prelude.{◌≡◌, ℕ, ◌<◌, ◌≤◌, ◌⊎◌, false, List, length, slice_index, take}
use Rattle.spf_touch.specs.Ordered.{is_in}

-- below count, and not listed yet
pub record IsFree (count : ℕ) (listed : List ℕ) (x : ℕ) : Type 0 where
  pub below : x < count
  pub new : is_in listed x ≡ false

-- the least number of which P holds
pub record IsLeast (P : ℕ → Type 0) (x : ℕ) : Type 0 where
  pub holds : P x
  pub least : (y : ℕ) → P y → x ≤ y

-- none of the first listed numbers is near a free one
abbrev pub AreUsedUp : (ℕ → ℕ → Type 0) → ℕ → List ℕ → ℕ → Type 0
AreUsedUp near count listed first = (r y : ℕ) → r < first → IsFree count listed y → near (slice_index listed r) y → ⊥

-- the least free number near the first listed one that is near a free one, or where none is the least free number
abbrev pub IsNext : (ℕ → ℕ → Type 0) → ℕ → List ℕ → ℕ → Type 0
IsNext near count listed x =
    ((r : ℕ) × (r < length listed) × AreUsedUp near count listed r × IsLeast (λ y. IsFree count listed y × near (slice_index listed r) y) x)
    ⊎ (AreUsedUp near count listed (length listed) × IsLeast (IsFree count listed) x)

-- each number comes next after those before it
pub record IsBreadthFirst (near : ℕ → ℕ → Type 0) (count : ℕ) (order : List ℕ) : Type 0 where
  pub long : length order ≡ count
  pub each : (r : ℕ) → r < count → IsNext near count (take r order) (slice_index order r)
