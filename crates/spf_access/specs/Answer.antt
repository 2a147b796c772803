-- What `accesses` answers.
use Rattle.std.specs.Prelude.{◌≡◌, ℕ, List, Option, Some, None, Result, Ok, Err, ⊤}
use Rattle.spf_term.specs.Environment.{Environment}
use Rattle.spf_touch.specs.declared.touch.Touch.{Touch}
use Rattle.spf_kernel.specs.declared.tree.Tree.{Tree}
use Rattle.spf_store.specs.Accesses.{touches_of}
use Rattle.spf_store.specs.FirstFault as first
use Rattle.spf_access.specs.declared.access_fault.AccessFault.{AccessFault}
use Rattle.spf_access.specs.declared.access_fault.AccessFault.TheVariants.{Range, Visits, Memory}

-- the fault is this one, or memory ran out
abbrev pub IsFault : Option first.Fault → AccessFault → Type 0
IsFault fault (Range loop_no iteration site value) = fault ≡ Some (first.Range loop_no iteration site value)
IsFault fault (Visits count) = fault ≡ Some (first.Visits count)
IsFault fault Memory = ⊤

-- the touch lists, where the walk has no fault; or its first fault
abbrev pub IsAccessAnswer : Environment → Tree → ℕ → Result (List (List Touch)) AccessFault → Type 0
IsAccessAnswer env tree steps (Ok touches) = (first.first_fault env tree steps ≡ None) × (touches ≡ touches_of env tree steps)
IsAccessAnswer env tree steps (Err fault) = IsFault (first.first_fault env tree steps) fault
