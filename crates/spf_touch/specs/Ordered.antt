-- Orders in which units may be run.
use Rattle.std.specs.Prelude.{◌≡◌, ℕ, ◌<◌, Bool, true, false, List, [], ◌∷◌, filter, nat_eq}
use Rattle.std.specs.List.{list_any, range_with_len}
use Rattle.spf_touch.specs.Conflict.{Conflict}
use Rattle.spf_touch.specs.Frame.{Behavior}

-- whether the number stands in the list
abbrev pub is_in : List ℕ → ℕ → Bool
is_in xs n = list_any (nat_eq n) xs

-- the units below count that stand in the list, in ascending number
abbrev pub ascending : ℕ → List ℕ → List ℕ
ascending count us = filter (is_in us) (range_with_len 0 count)

-- no unit stands in the list twice, and of two that conflict the lesser stands in front
abbrev pub IsLegalOrder : Behavior → List ℕ → Type 0
IsLegalOrder units [] = Unit {0}
IsLegalOrder units (u ∷ us) =
    (u < units.count) × (is_in us u ≡ false) × ((v : ℕ) → is_in us v ≡ true → Conflict (units.touches u) (units.touches v) → u < v) × IsLegalOrder units us
