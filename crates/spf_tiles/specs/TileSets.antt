-- Tables of sets of tiles.
use Rattle.std.specs.Prelude.{◌≡◌, ◌↔◌, ℕ, ◌+◌, ◌*◌, ◌/◌, ◌%◌, ◌<◌, ◌⊎◌, List, slice_index}
use Rattle.std.specs.Int.{bit_at}

-- row d of the table has tile c: a bit for each of 1,024 tiles, in 16 words
unfoldable pub Has : List ℕ → ℕ → ℕ → Type 0
Has table c d = bit_at (slice_index table (d * 16 + c / 64)) (c % 64) ≡ 1

-- these tiles were added to these rows
abbrev pub AreAdded : List ℕ → List ℕ → (ℕ → ℕ → Type 0) → Type 0
AreAdded old new R = (c d : ℕ) → c < 1024 → Has new c d ↔ (Has old c d ⊎ R c d)
