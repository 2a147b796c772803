-- Pairs of units whose numbers fall, and the first of them.
use Rattle.std.specs.Prelude.{◌≡◌, ℕ, ◌+◌, ◌<◌, ◌≤◌, true, false, List, Option, Some, None, length, if◌then◌else◌, nat_lt}
use Rattle.std.specs.List.{AllPairs}
use Rattle.spf_space.specs.Places.{number_of}
use Rattle.spf_space.specs.declared.places.Places.{Places}
use Rattle.spf_space.specs.declared.shape.Shape.{Shape}
use Rattle.spf_touch.specs.Conflict.{is_shared}
use Rattle.spf_touch.specs.Ordered.{is_in}
use Rattle.spf_layers.specs.Fits.{StandApart, StandsIn}
use Rattle.spf_layers.specs.Groups.{Group, group_at}

-- the number of a unit's place
abbrev pub number_in : Shape → Places → ℕ → ℕ
number_in shape places u = number_of shape.steps shape.loops places.tiles places.orders u

-- all units of the list are below count
abbrev pub AreBelow : ℕ → List ℕ → Type 0
AreBelow count us = (u : ℕ) → is_in us u ≡ true → u < count

-- the second unit is one of `after` and has a lesser number than the first one, which is one of `before`
pub record FallsBetween (number : ℕ → ℕ) (before after : List ℕ) (p q : ℕ) : Type 0 where
  pub here : is_in before p ≡ true
  pub there : is_in after q ≡ true
  pub falls : number q < number p

-- the units stand in neighbouring groups, of which the second one is before the group of this number
abbrev pub NeighboursFall : (ℕ → ℕ) → List Group → ℕ → ℕ → ℕ → Type 0
NeighboursFall number groups end p q = (n : ℕ) × (n + 1 < end) × FallsBetween number (group_at groups n).units (group_at groups (n + 1)).units p q

-- the later unit has the lesser number, and the units stand in different groups, whose classes aren't shared
pub record FallsApart (number : ℕ → ℕ) (groups : List Group) (p q : ℕ) : Type 0 where
  pub ascend : p < q
  pub apart : StandApart groups p q
  pub falls : number q < number p

-- of two pairs the one with the lesser second number, and with the greater first one where the second numbers are equal
abbrev pub earlier_pair : ℕ × ℕ → ℕ × ℕ → ℕ × ℕ
earlier_pair one other = if nat_lt one.1 other.1 then one else if nat_lt other.1 one.1 then other else if nat_lt one.0 other.0 then other else one

abbrev pub earlier_of : Option (ℕ × ℕ) → Option (ℕ × ℕ) → Option (ℕ × ℕ)
earlier_of None other = other
earlier_of (Some one) None = Some one
earlier_of (Some one) (Some other) = Some (earlier_pair one other)

-- the least of these units whose number is below the bound
abbrev pub IsFirstBelow : (ℕ → ℕ) → ℕ → List ℕ → Option ℕ → Type 0
IsFirstBelow number bound us None = (u : ℕ) → is_in us u ≡ true → bound ≤ number u
IsFirstBelow number bound us (Some q) = (is_in us q ≡ true) × (number q < bound) × ((u : ℕ) → is_in us u ≡ true → number u < bound → q ≤ u)

-- the greatest of these units whose number is above the bound
abbrev pub IsLastAbove : (ℕ → ℕ) → ℕ → List ℕ → Option ℕ → Type 0
IsLastAbove number bound us None = (u : ℕ) → is_in us u ≡ true → number u ≤ bound
IsLastAbove number bound us (Some p) = (is_in us p ≡ true) × (bound < number p) × ((u : ℕ) → is_in us u ≡ true → bound < number u → u ≤ p)

-- what legality asks of the groups of an element
pub record AreOrdered (count : ℕ) (groups : List Group) : Type 0 where
  pub ascending : (n : ℕ) → AllPairs (λ (u v : ℕ). u < v) (group_at groups n).units
  pub between : (m n u v : ℕ) → m < n → StandsIn groups m u → StandsIn groups n v → u < v
  pub inside : (n u : ℕ) → StandsIn groups n u → u < count
  pub filled : (n : ℕ) → n < length groups → 0 < length (group_at groups n).units
  pub changes : (n : ℕ) → n + 1 < length groups → is_shared (group_at groups n).class (group_at groups (n + 1)).class ≡ false
