-- A list of units that is run on a copy of what it touches.
use Rattle.std.specs.Prelude.{ℕ, ℤ, pos, List, [], ◌∷◌, Option, Some, None, if◌then◌else◌}
use Rattle.spf_touch.specs.Blend.{is_reduction, neutral}
use Rattle.spf_touch.specs.Conflict.{is_shared}
use Rattle.spf_touch.specs.Frame.{class_at}
use Rattle.spf_touch.specs.declared.class.Class.{Class}
use Rattle.spf_touch.specs.declared.class.Class.TheVariants.{Write}
use Rattle.spf_touch.specs.declared.touch.Touch.{Touch}

-- the one class of two, where they have one other than Write, and else Write
abbrev pub together : Class → Class → Class
together c d = if is_shared c d then c else Write

-- how two touch an element together
abbrev pub joined : Option Class → Option Class → Option Class
joined None d = d
joined (Some c) None = Some c
joined (Some c) (Some d) = Some (together c d)

-- how these units touch the element together
abbrev pub class_of : (ℕ → List Touch) → List ℕ → ℕ → Option Class
class_of touches [] e = None
class_of touches (u ∷ us) e = joined (class_at (touches u) e) (class_of touches us e)

-- what a copy has of an element: its value, or the neutral number of a reduction class, or nothing
abbrev pub copy_at : Option Class → ℤ → Option ℤ
copy_at None value = None
copy_at (Some c) value = Some (if is_reduction c then neutral c else value)

-- a copy as values: 0 where it has none
abbrev pub value_or_0 : Option ℤ → ℤ
value_or_0 None = pos 0
value_or_0 (Some value) = value

-- the copy of what is touched
abbrev pub copied : List Touch → (ℕ → ℤ) → ℕ → ℤ
copied touches values e = value_or_0 (copy_at (class_at touches e) (values e))
