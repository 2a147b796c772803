-- How large a kernel's loops and arrays are under an environment.
use Rattle.std.specs.Prelude.{ℕ, ◌≡◌, ◌+◌, ◌*◌, ◌<◌, ℤ, pos, List, [], ◌∷◌, map, Result, Ok, Err, ⊤}
use Rattle.std.specs.Int.{int_gap}
use Rattle.std.specs.List.{flat_map, sum_by}
use Rattle.spf_term.specs.Environment.{Environment}
use Rattle.spf_term.specs.Value.{value}
use Rattle.spf_term.specs.declared.term.Term.{Term}
use Rattle.spf_kernel.specs.declared.tree.Decl.{Decl}
use Rattle.spf_kernel.specs.declared.tree.Decl.TheVariants.{Values}
use Rattle.spf_kernel.specs.declared.tree.DataDecl.{DataDecl}
use Rattle.spf_kernel.specs.declared.tree.Loop.{Loop}
use Rattle.spf_kernel.specs.declared.tree.Tree.{Tree}
use Rattle.spf_space.specs.Layout.{iterations, limit}
use Rattle.spf_space.specs.declared.shape.ArrayShape.{ArrayShape}
use Rattle.spf_space.specs.declared.shape.LoopShape.{LoopShape}
use Rattle.spf_space.specs.declared.shape.Shape.{Shape}
use Rattle.spf_store.specs.declared.shapes.ShapeFault.{ShapeFault}
use Rattle.spf_store.specs.declared.shapes.ShapeFault.TheVariants.{Units, Memory}

-- the data arrays that a declaration names
abbrev pub data_in : Decl → List DataDecl
data_in (Values arrays) = arrays
data_in _ = []

module _ (env : Environment) where
  -- the value of an expression in which no variable stands
  abbrev pub outer_value : Term → ℤ
  outer_value = value env []

  -- the same as a natural number, where it isn't below 0
  abbrev pub size : Term → ℕ
  size term = int_gap (pos 0) (outer_value term)

  -- a loop runs from its lower bound up to its upper one, and not at all where the upper isn't above the lower
  abbrev pub loop_shape : Loop → LoopShape
  loop_shape each = record { name = each.name; lower = outer_value each.low; extent = int_gap (outer_value each.low) (outer_value each.high) }

  -- arrays lie one behind the other, the first one from this element on
  abbrev pub array_shapes : ℕ → List DataDecl → List ArrayShape
  array_shapes from [] = []
  array_shapes from (array ∷ arrays) =
      record { name = array.name; start = from; length = size array.size } ∷ array_shapes (from + size array.size) arrays

  -- how many cells the arrays have together
  abbrev pub sizes : List DataDecl → ℕ
  sizes arrays = sum_by (λ (array : DataDecl). size array.size) arrays

  abbrev pub loops_of : Tree → List LoopShape
  loops_of tree = map loop_shape tree.loops

  abbrev pub data_of : Tree → List ArrayShape
  data_of tree = array_shapes 0 (flat_map data_in tree.decls)

  abbrev pub starts_of : Tree → List ℕ
  starts_of tree = map (λ (array : ArrayShape). array.start) (data_of tree)

  -- the shape is that of the kernel
  pub record IsShapeOf (tree : Tree) (shape : Shape) : Type 0 where
    pub steps : shape.steps ≡ size tree.steps
    pub loops : shape.loops ≡ loops_of tree
    pub arrays : shape.arrays ≡ data_of tree

  -- it has more units than there may be, and so many
  pub record HasTooManyUnits (tree : Tree) (count : ℕ) : Type 0 where
    pub units : count ≡ size tree.steps * iterations (loops_of tree)
    pub many : limit < count

  -- the shape, or how many units there are, where those are too many
  abbrev pub IsShapeAnswer : Tree → Result Shape ShapeFault → Type 0
  IsShapeAnswer tree (Ok shape) = IsShapeOf tree shape
  IsShapeAnswer tree (Err (Units count)) = HasTooManyUnits tree count
  IsShapeAnswer tree (Err Memory) = ⊤
