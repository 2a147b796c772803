-- Touch lists, made by noting one access behind the other.
use Rattle.std.specs.Prelude.{ℕ, List, [], ◌∷◌, if◌then◌else◌, ◌==◌}
use Rattle.spf_touch.specs.Copy.{together}
use Rattle.spf_touch.specs.declared.class.Class.{Class}
use Rattle.spf_touch.specs.declared.touch.Touch.{Touch}

-- the touches and one more access
abbrev pub noted : List Touch → ℕ → Class → List Touch
noted [] e c = record { element = e; class = c } ∷ []
noted (t ∷ ts) e c = if t.element == e then record { element = e; class = together t.class c } ∷ ts else t ∷ noted ts e c

-- the touches and these accesses
abbrev pub noted_all : List Touch → List (ℕ × Class) → List Touch
noted_all touches [] = touches
noted_all touches ((element, class) ∷ accesses) = noted_all (noted touches element class) accesses
