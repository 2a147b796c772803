-- What happens, one event behind the other, while an iteration is carried out.
use Rattle.std.specs.Prelude.{ℕ, ℤ, List}
use Rattle.spf_kernel.specs.declared.tree.Assign.{Assign}
use Rattle.spf_term.specs.Value.{Entry}
use Rattle.spf_touch.specs.declared.class.Class.{Class}

pub data Event : Type 0 where
  -- a turn of a `for` begins
  Turn : Event
  -- a bound of a `for` has this value
  Bound : (site : ℕ) (value : ℤ) → Event
  -- an entry of an index array is read
  Read : (entry : Entry) → Event
  -- a data array is accessed at this place
  Access : (site : ℕ) (class : Class) (array : ℕ) (place : ℤ) → Event
  -- the assignment is carried out, where the variables have these values
  Store : (assign : Assign) (variables : List ℤ) → Event
