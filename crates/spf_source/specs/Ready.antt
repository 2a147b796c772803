-- What running a kernel's loops asks.
use Rattle.std.specs.Prelude.{ℕ, ◌≡◌, ◌<◌, ℤ, pos, Bool, true, List, Option, Some, None, map, slice_get}
use Rattle.std.specs.List.{range_with_len}
use Rattle.spf_term.specs.Environment.{Environment}
use Rattle.spf_kernel.specs.Bounded.{IsBoundedTree}
use Rattle.spf_kernel.specs.declared.tree.Loop.{Loop}
use Rattle.spf_kernel.specs.declared.tree.Tree.{Tree}
use Rattle.spf_space.specs.Layout.{cells_in}
use Rattle.spf_space.specs.declared.unit.Unit.{Unit}
use Rattle.spf_store.specs.Accepted.{IsAccepted}
use Rattle.spf_store.specs.Shaped.{data_of, loop_shape, outer_value, starts_of}

module _ (env : Environment) (tree : Tree) where
  -- the numbers are those of the kernel
  pub record IsReady (starts : List ℕ) : Type 0 where
    pub accepted : IsAccepted env tree
    pub bounded : IsBoundedTree tree
    pub starts_are : starts ≡ starts_of env tree

  -- the cells own the elements of its arrays
  abbrev pub OwnsCells : (ℕ → Bool) → Type 0
  OwnsCells own = (e : ℕ) → e < cells_in (data_of env tree) → own e ≡ true

  abbrev pub lower_of : Option Loop → ℤ
  lower_of None = pos 0
  lower_of (Some each) = outer_value env each.low

  abbrev pub extent_of : Option Loop → ℕ
  extent_of None = 0
  extent_of (Some each) = (loop_shape env each).extent

  -- the units of a loop in the first step
  abbrev pub loop_units : ℕ → List Unit
  loop_units number = map (λ position. record { step = 0; loop_no = number; position = position }) (range_with_len 0 (extent_of (slice_get tree.loops number)))
