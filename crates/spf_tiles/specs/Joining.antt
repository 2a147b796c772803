-- How some of these touches touch an element together.
use Rattle.std.specs.Prelude.{◌≡◌, ℕ, ◌-◌, ◌<◌, ◌==◌, ◌&&◌, Bool, true, false, List, Option, Some, None, length, slice_index_or}
use Rattle.std.specs.List.{list_any}
use Rattle.spf_touch.specs.declared.class.Class.{Class}
use Rattle.spf_touch.specs.declared.class.Class.TheVariants.{Read, Write, Add}
use Rattle.spf_touch.specs.declared.touch.Touch.{Touch}

-- the last of the touches is of the element
pub record EndsWith (touches : List Touch) (element : ℕ) : Type 0 where
  pub some : 0 < length touches
  pub last : (d : Touch) → (slice_index_or touches (length touches - 1) d).element ≡ element

abbrev pub is_same : Class → Class → Bool
is_same Read Read = true
is_same Write Write = true
is_same Add Add = true
is_same _ _ = false

abbrev pub is_touch : ℕ → Class → Touch → Bool
is_touch e c t = (t.element == e) && is_same c t.class

-- the class of all together, by whether there are touches that read, that write and that add
abbrev pub class_by : Bool → Bool → Bool → Option Class
class_by r true a = Some Write
class_by true false true = Some Write
class_by true false false = Some Read
class_by false false true = Some Add
class_by false false false = None

abbrev pub class_in : List Touch → ℕ → Option Class
class_in ts e = class_by (list_any (is_touch e Read) ts) (list_any (is_touch e Write) ts) (list_any (is_touch e Add) ts)
