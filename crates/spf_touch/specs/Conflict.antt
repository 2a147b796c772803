-- When two units conflict.
use Rattle.std.specs.Prelude.{◌≡◌, List, Bool, true, false, Any}
use Rattle.spf_touch.specs.declared.class.Class.{Class}
use Rattle.spf_touch.specs.declared.class.Class.TheVariants.{Read, Add}
use Rattle.spf_touch.specs.declared.touch.Touch.{Touch}

-- the classes are one class other than Write
abbrev pub is_shared : Class → Class → Bool
is_shared Read Read = true
is_shared Add Add = true
is_shared _ _ = false

-- the touches are of one element, and haven't one class other than Write
abbrev pub Clash : Touch → Touch → Type 0
Clash s t = (s.element ≡ t.element) × (is_shared s.class t.class ≡ false)

-- some touch of the one list clashes with some touch of the other
abbrev pub Conflict : List Touch → List Touch → Type 0
Conflict a b = Any (λ s. Any (Clash s) b) a
