-- Which tiles come before which.
use Rattle.std.specs.Prelude.{◌≡◌, ◌≢◌, ℕ, zero, suc, ◌<◌, List, length, slice_index_or}
use Rattle.spf_touch.specs.Conflict.{Conflict}
use Rattle.spf_touch.specs.declared.touch.Touch.{Touch}

-- the tiles differ, and a unit of the first one conflicts with a later unit of the second one
pub record Link (touches : ℕ → List Touch) (tiles : List ℕ) (c d : ℕ) : Type 0 where
  pub first : ℕ
  pub second : ℕ
  pub differ : c ≢ d
  pub ascend : first < second
  pub inside : second < length tiles
  pub conflict : Conflict (touches first) (touches second)
  pub here : slice_index_or tiles first 0 ≡ c
  pub there : slice_index_or tiles second 0 ≡ d

-- a chain of so many links, and one more, leads from a to b
abbrev pub IsChain : (ℕ → ℕ → Type 0) → ℕ → ℕ → ℕ → Type 0
IsChain R zero a b = R a b
IsChain R (suc n) a b = (m : ℕ) × IsChain R n a m × R m b

-- a chain of one or more links leads from a to b
abbrev pub Leads : (ℕ → ℕ → Type 0) → ℕ → ℕ → Type 0
Leads R a b = (n : ℕ) × IsChain R n a b

-- tile a is before tile b, where the tiles of all units are these
abbrev pub Before : (ℕ → List Touch) → List ℕ → ℕ → ℕ → Type 0
Before touches tiles a b = Leads (Link touches tiles) a b
