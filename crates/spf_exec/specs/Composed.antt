-- The terms of a program: those of the source in the new positions of loops and the packed places of arrays.
use Rattle.std.specs.Prelude.{ℕ, ◌+◌, pos, Bool, if◌then◌else◌, Option, None, List, [], ◌∷◌, length, slice_index_or}
use Rattle.std.specs.Option.{is_some}
use Rattle.spf_term.specs.Normal.{normal}
use Rattle.spf_term.specs.Substitution.{substituted}
use Rattle.spf_term.specs.declared.term.Atom.{Atom, Var, App}
use Rattle.spf_term.specs.declared.term.Term.{Term, out-Term, roll-Term}
use Rattle.spf_kernel.specs.Named.{counts_in}
use Rattle.spf_kernel.specs.declared.tree.Loop.{Loop}
use Rattle.spf_kernel.specs.declared.tree.Tree.{Tree}
use Rattle.spf_exec.specs.declared.program.Moved.{Moved}

-- ---- functions

-- index arrays come first, then one function for each loop, from position to iteration, and one for each data array, from place
-- to packed place
abbrev pub order_of : Tree → ℕ → ℕ
order_of tree loop_no = (counts_in tree.decls).tables + loop_no

abbrev pub first_packing : Tree → ℕ
first_packing tree = (counts_in tree.decls).tables + length tree.loops

abbrev pub packing_of : Tree → ℕ → ℕ
packing_of tree array = first_packing tree + array

-- ---- terms

abbrev pub term_of : Atom → Term
term_of atom = roll-Term (record { monos = record { coef = pos 1; atom = atom } ∷ []; constant = pos 0 })

abbrev pub variable : ℕ → Term
variable number = term_of (Var number)

abbrev pub applied : ℕ → Term → Term
applied fun arg = term_of (App fun arg)

-- the position and the lower bound
abbrev pub from_lower : Term → Term
from_lower lower = roll-Term (record { monos = record { coef = pos 1; atom = Var 0 } ∷ (out-Term lower).monos; constant = (out-Term lower).constant })

-- there is a permutation of this number
abbrev pub is_moved : List (Option (List ℕ)) → ℕ → Bool
is_moved moves number = is_some (slice_index_or moves number None)

-- the iteration at a position
abbrev pub iteration_by : Bool → ℕ → Term → Term
iteration_by moved order lower = if moved then applied order (variable 0) else from_lower lower

-- the packed place of a place
abbrev pub packed_by : Bool → ℕ → Term → Term
packed_by moved packing place = if moved then applied packing place else place

-- the iteration stands in place of the outer variable
abbrev pub composed : Term → Term → Term
composed iteration term = normal (substituted 0 iteration term)

-- the source's outer and inner variable, as terms of the position and the inner variable
abbrev pub sources : Term → List Term
sources iteration = iteration ∷ variable 1 ∷ []

-- ---- the terms of a program

module _ (tree : Tree) (moved : Moved) where
  abbrev pub iteration_in : ℕ → Loop → Term
  iteration_in loop_no loop = iteration_by (is_moved moved.loops loop_no) (order_of tree loop_no) loop.low

  abbrev pub composed_in : ℕ → Loop → Term → Term
  composed_in loop_no loop = composed (iteration_in loop_no loop)

  abbrev pub packed_in : ℕ → Term → Term
  packed_in array = packed_by (is_moved moved.arrays array) (packing_of tree array)
