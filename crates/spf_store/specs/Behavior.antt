-- The units of all steps of a kernel, in textual order.
use Rattle.std.specs.Prelude.{◌≡◌, ℕ, ◌<◌, List, length, slice_index_or}
use Rattle.spf_term.specs.Environment.{Environment}
use Rattle.spf_touch.specs.Copy.{copied}
use Rattle.spf_touch.specs.Frame.{Behavior}
use Rattle.spf_touch.specs.Repeated.{touches_at}
use Rattle.spf_touch.specs.declared.touch.Touch.{Touch}
use Rattle.spf_kernel.specs.declared.tree.Tree.{Tree}
use Rattle.spf_space.specs.Units.{units_of}
use Rattle.spf_space.specs.declared.shape.Shape.{Shape}
use Rattle.spf_space.specs.declared.unit.Unit.{Unit}
use Rattle.spf_store.specs.Accepted.{IsAccepted}
use Rattle.spf_store.specs.Accesses.{touches_of}
use Rattle.spf_store.specs.FirstFault.{AreInRange}
use Rattle.spf_store.specs.Shaped.{IsShapeOf, loops_of}
use Rattle.spf_store.specs.Source.{unit_effect}

module _ (env : Environment) (tree : Tree) (steps : ℕ) where
  -- the unit of this ordinal
  abbrev pub unit_at : ℕ → Unit
  unit_at ordinal = slice_index_or (units_of steps (loops_of env tree)) ordinal (record { step = 0; loop_no = 0; position = 0 })

  -- each touches what its iteration does, and gives its effect on a copy of what it touches
  abbrev pub source_behavior : Behavior
  source_behavior = record {
    count = length (units_of steps (loops_of env tree));
    touches = touches_at (touches_of env tree steps);
    given = λ u values. unit_effect env tree (unit_at u) (copied (touches_at (touches_of env tree steps) u) values);
  }

-- a kernel, what it is run with, and how often
pub record Sourced : Type 0 where
  pub env : Environment
  pub tree : Tree
  pub steps : ℕ

-- the numbers, the shape and the touch lists are those of the kernel, and where there is a step all values are allowed
pub record AreSourced (env : Environment) (tree : Tree) (shape : Shape) (touches : List (List Touch)) : Type 0 where
  pub accepted : IsAccepted env tree
  pub shape_is : IsShapeOf env tree shape
  pub range : 0 < shape.steps → AreInRange env tree
  pub touches_are : touches ≡ touches_of env tree shape.steps
