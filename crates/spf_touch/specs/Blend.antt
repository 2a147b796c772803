-- What a class makes of the old value of an element and a new one.
use Rattle.std.specs.Prelude.{ℤ, pos, ◌+ℤ◌, Bool, true, false}
use Rattle.spf_base.specs.Wrap.{wrap}
use Rattle.spf_touch.specs.declared.class.Class.{Class}
use Rattle.spf_touch.specs.declared.class.Class.TheVariants.{Read, Write, Add}

-- Read keeps the old value, Write takes the new one, and a reduction class joins the two
abbrev pub blend : Class → ℤ → ℤ → ℤ
blend Read old new = old
blend Write old new = new
blend Add old new = wrap (old +ℤ new)

-- the classes whose blends may be taken in any order
abbrev pub is_reduction : Class → Bool
is_reduction Read = false
is_reduction Write = false
is_reduction Add = true

-- the number whose blend changes nothing
abbrev pub neutral : Class → ℤ
neutral Read = pos 0
neutral Write = pos 0
neutral Add = pos 0
