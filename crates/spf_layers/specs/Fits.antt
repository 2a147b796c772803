-- What everything above asks of layers, however they are kept.
use Rattle.std.specs.Prelude.{◌≡◌, ◌≢◌, ◌↔◌, ℕ, ◌+◌, ◌<◌, true, false, List, Some, length}
use Rattle.std.specs.List.{AllPairs}
use Rattle.spf_touch.specs.Conflict.{Conflict, is_shared}
use Rattle.spf_touch.specs.Frame.{class_at}
use Rattle.spf_touch.specs.Ordered.{is_in}
use Rattle.spf_touch.specs.declared.class.Class.{Class}
use Rattle.spf_touch.specs.declared.class.Class.TheVariants.{Write}
use Rattle.spf_touch.specs.declared.touch.Touch.{Touch}
use Rattle.spf_layers.specs.Groups.{Group, element_groups, group_at}

-- the unit stands in the group of this number
abbrev pub StandsIn : List Group → ℕ → ℕ → Type 0
StandsIn groups n u = is_in (group_at groups n).units u ≡ true

-- the units don't clash at the element
abbrev pub AgreeAt : (ℕ → List Touch) → ℕ → ℕ → ℕ → Type 0
AgreeAt touches e u v = (c d : Class) → class_at (touches u) e ≡ Some c → class_at (touches v) e ≡ Some d → is_shared c d ≡ true

-- units stand in different groups, whose classes aren't shared
pub record StandApart (groups : List Group) (u v : ℕ) : Type 0 where
  pub first : ℕ
  pub second : ℕ
  pub differ : first ≢ second
  pub here : StandsIn groups first u
  pub there : StandsIn groups second v
  pub clash : is_shared (group_at groups first).class (group_at groups second).class ≡ false

-- the groups of one element fit what these units touch
pub record AreLayered (touches : ℕ → List Touch) (count e : ℕ) (groups : List Group) : Type 0 where
  pub ascending : (n : ℕ) → AllPairs (λ (u v : ℕ). u < v) (group_at groups n).units
  pub between : (m n u v : ℕ) → m < n → StandsIn groups m u → StandsIn groups n v → u < v
  pub inside : (n u : ℕ) → StandsIn groups n u → u < count
  pub filled : (n : ℕ) → n < length groups → 0 < length (group_at groups n).units
  pub alone : (n : ℕ) → (group_at groups n).class ≡ Write → length (group_at groups n).units ≡ 1
  pub changes : (n : ℕ) → n + 1 < length groups → is_shared (group_at groups n).class (group_at groups (n + 1)).class ≡ false
  pub agree : (n u v : ℕ) → StandsIn groups n u → StandsIn groups n v → u ≢ v → AgreeAt touches e u v

-- the layers fit what these units touch: two units conflict exactly where they stand apart at some element
pub record Fits (touches : ℕ → List Touch) (count : ℕ) (layers : List (List Group)) : Type 0 where
  pub groups : (e : ℕ) → AreLayered touches count e (element_groups layers e)
  pub conflicts : (u v : ℕ) → u < count → v < count → u ≢ v → Conflict (touches u) (touches v) ↔ ((e : ℕ) × StandApart (element_groups layers e) u v)
