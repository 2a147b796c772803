-- How far a walk has come among the units of a step.
use Rattle.std.specs.Prelude.{◌≡◌, ℕ, ℤ, ◌<◌, List, [], ◌∷◌, ◌++◌, map, Option, None, Result, Ok, Err}
use Rattle.spf_term.specs.Environment.{Environment}
use Rattle.spf_kernel.specs.declared.tree.Tree.{Tree}
use Rattle.spf_touch.specs.declared.touch.Touch.{Touch}
use Rattle.spf_space.specs.declared.unit.Unit.{Unit}
use Rattle.spf_store.specs.Accesses.{touches_in, touches_of}
use Rattle.spf_store.specs.FirstFault.{Fault, counted_all, events_fault, first_fault, units_fault, walked}
use Rattle.spf_store.specs.Shaped.{data_of, starts_of}
use Rattle.spf_store.specs.Source.{unit_trace}
use Rattle.spf_access.specs.Answer.{IsFault}
use Rattle.spf_access.specs.Progress.{Progress}
use Rattle.spf_access.specs.declared.access_fault.AccessFault.{AccessFault}
use Rattle.spf_access.specs.declared.access_fault.AccessFault.TheVariants as fault
use Rattle.spf_access.specs.declared.stop.Stop.{Stop}
use Rattle.spf_access.specs.declared.stop.Stop.TheVariants as stop

-- the fault of an iteration in which the walk stopped
abbrev pub fault_of : ℕ → ℤ → Stop → AccessFault
fault_of loop_no iteration (stop.Range site value) = fault.Range loop_no iteration site value
fault_of loop_no iteration (stop.Visits count) = fault.Visits count
fault_of loop_no iteration stop.Memory = fault.Memory

module _ (env : Environment) (tree : Tree) where
  -- the touch list of a unit
  abbrev pub list_of : ℕ → Unit → List Touch
  list_of steps unit = touches_in (starts_of env tree) (walked env tree steps unit)

  -- the fault of a unit, if there were so many visits before
  abbrev pub unit_fault : Progress → Unit → Option Fault
  unit_fault before unit = events_fault env tree before.steps unit before.visits (unit_trace env tree unit)

  -- a unit was gone through, or has this fault
  abbrev pub IsUnitWalked : {A : Type 0} → Unit → Progress → Result A AccessFault → Progress → Type 0
  IsUnitWalked unit before (Ok done) after = (unit_fault before unit ≡ None) × (after ≡ record before {
    closed = before.closed ++ touches_in (starts_of env tree) (unit_trace env tree unit) ∷ [];
    visits = counted_all before.visits (unit_trace env tree unit);
  })
  IsUnitWalked unit before (Err fault) after = IsFault (unit_fault before unit) fault

  -- these units are still to come: the rest of the walk has its first fault, and the lists are those so far and theirs
  pub record AmongUnits (progress : Progress) (rest : List Unit) : Type 0 where
    pub some : 0 < progress.steps
    pub fault : first_fault env tree progress.steps ≡ units_fault env tree progress.steps progress.visits rest
    pub lists : touches_of env tree progress.steps ≡ progress.closed ++ map (list_of progress.steps) rest
    pub fresh : progress.current ≡ []
    pub arrays : progress.arrays ≡ data_of env tree

  -- the walk has come so far, or has its first fault
  abbrev pub Comes : {A : Type 0} → Progress → Result A AccessFault → Progress → List Unit → Type 0
  Comes before (Ok done) after rest = AmongUnits after rest × (after.steps ≡ before.steps)
  Comes before (Err fault) after rest = IsFault (first_fault env tree before.steps) fault
