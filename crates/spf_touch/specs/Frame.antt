-- What a unit of work does to the values of elements, and the law that all units keep.
use Rattle.std.specs.Prelude.{◌≡◌, ℕ, ◌<◌, ℤ, List, [], ◌∷◌, Option, Some, None, IsSome, ◌==◌, if◌then◌else◌, Bool, true, false, FitsSigned}
use Rattle.std.specs.Int.{w64}
use Rattle.spf_touch.specs.Blend.{blend, is_reduction}
use Rattle.spf_touch.specs.declared.class.Class.{Class}
use Rattle.spf_touch.specs.declared.class.Class.TheVariants.{Read, Write, Add}
use Rattle.spf_touch.specs.declared.touch.Touch.{Touch}

-- how the element is touched, if it is
abbrev pub class_at : List Touch → ℕ → Option Class
class_at [] e = None
class_at (t ∷ ts) e = if t.element == e then Some t.class else class_at ts e

abbrev pub IsTouched : List Touch → ℕ → Type 0
IsTouched touches e = IsSome (class_at touches e)

-- no element is named twice
abbrev pub IsOnce : List Touch → Type 0
IsOnce [] = Unit {0}
IsOnce (t ∷ ts) = (class_at ts t.element ≡ None) × IsOnce ts

-- an element that isn't touched keeps its value, and a touched one gets its class's blend with what is given
abbrev pub blend_at : Option Class → ℤ → ℤ → ℤ
blend_at None old new = old
blend_at (Some c) old new = blend c old new

-- the values after a unit that touches these elements and gives these numbers
abbrev pub effect : List Touch → (ℕ → ℤ) → (ℕ → ℤ) → ℕ → ℤ
effect touches given values e = blend_at (class_at touches e) (values e) (given e)

-- units: how many there are, what each touches, and what each gives, where the cells have these values: the value at an
-- element of class Write, and the amount at an element of a reduction class
pub record Behavior : Type 0 where
  pub count : ℕ
  pub touches : ℕ → List Touch
  pub given : ℕ → (ℕ → ℤ) → ℕ → ℤ

-- the classes at which a unit may look at the old value
abbrev pub is_seen : Option Class → Bool
is_seen None = false
is_seen (Some Read) = true
is_seen (Some Write) = true
is_seen (Some Add) = false

-- whether the class is a reduction class
abbrev pub is_reduced : Option Class → Bool
is_reduced None = false
is_reduced (Some c) = is_reduction c

-- the values agree wherever a unit may look at them
abbrev pub SeenAlike : List Touch → (ℕ → ℤ) → (ℕ → ℤ) → Type 0
SeenAlike touches values others = (e : ℕ) → is_seen (class_at touches e) ≡ true → values e ≡ others e

-- the frame law: a unit names each element at most once; what it gives depends on the values at its elements of class Read
-- and Write alone; and the amounts that it blends in are numbers of 64 bits
pub record FrameLaw (units : Behavior) : Type 0 where
  pub once : (u : ℕ) → u < units.count → IsOnce (units.touches u)
  pub frame : (u : ℕ) (values others : ℕ → ℤ) → u < units.count → SeenAlike (units.touches u) values others →
      (e : ℕ) → IsTouched (units.touches u) e → units.given u values e ≡ units.given u others e
  pub fits : (u : ℕ) (values : ℕ → ℤ) (e : ℕ) → u < units.count → is_reduced (class_at (units.touches u) e) ≡ true → FitsSigned w64 (units.given u values e)

-- the values after the unit
abbrev pub after_unit : Behavior → ℕ → (ℕ → ℤ) → ℕ → ℤ
after_unit units u values = effect (units.touches u) (units.given u values) values

-- the values after these units, one after another
abbrev pub after_units : Behavior → List ℕ → (ℕ → ℤ) → ℕ → ℤ
after_units units [] values = values
after_units units (u ∷ us) values = after_units units us (after_unit units u values)
