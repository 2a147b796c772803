-- Index expressions that the calls on relations compose within the number rule, and parts of a kernel that have such alone.
use Rattle.std.specs.Prelude.{◌+◌, ◌<◌, ◌^◌, ⊤}
use Rattle.spf_term.specs.declared.term.Term.{Term}
use Rattle.spf_rel.specs.Graph.{IsWithinSize}
use Rattle.spf_rel.specs.Renumbering.{Variables}
use Rattle.spf_kernel.specs.Kept.{Property}
use Rattle.spf_kernel.specs.declared.tree.Factor.{Factor}
use Rattle.spf_kernel.specs.declared.tree.Factor.TheVariants as factor_is
use Rattle.spf_exec.specs.Rewritten.{Rewriting, composing_by}
use Rattle.spf_exec.specs.declared.rewriting.Placing.{Placing}

-- as large as an index expression may be, of the outer and the inner variable
pub record IsPlaceable (term : Term) : Type 0 where
  pub within : IsWithinSize 64 (2 ^ 34 + 2 ^ 30) (2 ^ 26) term
  pub variables : Variables (λ number. number < 2) term

-- as large as a lower bound and the position together, of the position and the inner variable
pub record IsIteration (term : Term) : Type 0 where
  pub within : IsWithinSize 65 (2 ^ 34 + 2 ^ 30 + 1) (2 ^ 26 + 1) term
  pub variables : Variables (λ number. number < 2) term

abbrev pub HasPlaceable : Factor → Type 0
HasPlaceable (factor_is.Var number) = number < 2
HasPlaceable (factor_is.Index array sub) = IsPlaceable sub
HasPlaceable (factor_is.Cell array sub) = (array < 64) × IsPlaceable sub
HasPlaceable factor = ⊤

abbrev pub placeable : Property
placeable = record { ix = IsPlaceable; leaf = HasPlaceable; array = λ array. array < 64 }

-- ---- what parts are rewritten by

-- with a term that is an iteration, and functions for 64 arrays
pub record CanPlace (placing : Placing) : Type 0 where
  pub iteration : IsIteration placing.iteration.now
  pub packings : placing.packings + 64 < 2 ^ 32

abbrev pub rewriting_of : Placing → Rewriting
rewriting_of placing = composing_by placing.iteration.now placing.arrays.now placing.packings
