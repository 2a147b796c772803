-- The walk through one step, and its first fault.
use Rattle.std.specs.Prelude.{ℕ, ◌≡◌, ◌+◌, ◌*◌, ℤ, pos, neg_ℤ, Bool, true, false, ◌&&◌, ◌==◌, nat_lt, int_le, int_lt, if◌then◌else◌, List, [], ◌∷◌, length, map, slice_index_or, All, Option, Some, None}
use Rattle.std.specs.Option.{option_or}
use Rattle.spf_term.specs.Environment.{Environment}
use Rattle.spf_term.specs.Value.{table_at}
use Rattle.spf_kernel.specs.declared.tree.Tree.{Tree}
use Rattle.spf_space.specs.Units.{loops_units}
use Rattle.spf_space.specs.declared.shape.ArrayShape.{ArrayShape}
use Rattle.spf_space.specs.declared.unit.Unit.{Unit}
use Rattle.spf_store.specs.Event.{Event, Turn, Bound, Read, Access}
use Rattle.spf_store.specs.Shaped.{data_of, loops_of}
use Rattle.spf_store.specs.Source.{iteration_of, unit_trace}

pub data Fault : Type 0 where
  -- a site of a loop's iteration has a value that isn't allowed there
  Range : (loop_no : ℕ) (iteration : ℤ) (site : ℕ) (value : ℤ) → Fault
  -- there are more visits, in all steps together, than there may be
  Visits : (count : ℕ) → Fault

-- the most visits of all steps together, and the greatest bound of a `for`
abbrev pub visit_limit : ℕ
visit_limit = 16777216

abbrev pub bound_limit : ℕ
bound_limit = 4194304

-- each turn of a `for` and each access is a visit
abbrev pub is_visit : Event → Bool
is_visit Turn = true
is_visit (Access site class array place) = true
is_visit _ = false

-- the visits up to and with an event, and up to and with the last of a list
abbrev pub counted : ℕ → Event → ℕ
counted count event = if is_visit event then count + 1 else count

abbrev pub counted_all : ℕ → List Event → ℕ
counted_all count [] = count
counted_all count (event ∷ events) = counted_all (counted count event) events

-- the site and its value, where the value is outside: it is below the lower end, or not below the upper one
abbrev pub unless_between : ℤ → ℤ → ℕ → ℤ → Option (ℕ × ℤ)
unless_between low high site value = if int_le low value && int_lt value high then None else Some (site, value)

module _ (env : Environment) (arrays : List ArrayShape) where
  abbrev pub data_length : ℕ → ℕ
  data_length array = slice_index_or (map (λ (shape : ArrayShape). shape.length) arrays) array 0

  -- the site and its value, where that isn't allowed there
  abbrev pub outside_in : Event → Option (ℕ × ℤ)
  outside_in (Bound site value) = unless_between (neg_ℤ (pos bound_limit)) (pos (bound_limit + 1)) site value
  outside_in (Read entry) = unless_between (pos 0) (pos (length (table_at env entry.table))) entry.site entry.place
  outside_in (Access site class array place) = unless_between (pos 0) (pos (data_length array)) site place
  outside_in _ = None

module _ (env : Environment) (tree : Tree) where
  -- the same for the arrays of a kernel
  abbrev pub outside : Event → Option (ℕ × ℤ)
  outside = outside_in env (data_of env tree)

  -- each value on a unit's way is allowed
  abbrev pub IsInRange : Unit → Type 0
  IsInRange unit = All (λ event. outside event ≡ None) (unit_trace env tree unit)

  -- and so on each unit's way
  abbrev pub AreInRange : Type 0
  AreInRange = All IsInRange (loops_units 0 0 (loops_of env tree))

  module _ (steps : ℕ) where
    -- what the walk goes through at a unit: where there are no steps it doesn't take place
    abbrev pub walked : Unit → List Event
    walked unit = if steps == 0 then [] else unit_trace env tree unit

    abbrev pub range_fault : Unit → Option (ℕ × ℤ) → Option Fault
    range_fault unit None = None
    range_fault unit (Some (site, value)) = Some (Range unit.loop_no (iteration_of env tree unit) site value)

    -- the fault of an event with which there are so many visits: a visit is counted before its value is compared
    abbrev pub event_fault : Unit → ℕ → Event → Option Fault
    event_fault unit count event =
        if is_visit event && nat_lt visit_limit (count * steps) then Some (Visits (count * steps)) else range_fault unit (outside event)

    -- the first fault of a unit's events, before which there were so many visits
    abbrev pub events_fault : Unit → ℕ → List Event → Option Fault
    events_fault unit count [] = None
    events_fault unit count (event ∷ events) =
        option_or (event_fault unit (counted count event) event) (events_fault unit (counted count event) events)

    abbrev pub units_fault : ℕ → List Unit → Option Fault
    units_fault count [] = None
    units_fault count (unit ∷ units) =
        option_or (events_fault unit count (walked unit)) (units_fault (counted_all count (walked unit)) units)

    -- the first fault of the walk, which goes through the units of one step in textual order
    unfoldable pub first_fault : Option Fault
    first_fault = units_fault 0 (loops_units 0 0 (loops_of env tree))
