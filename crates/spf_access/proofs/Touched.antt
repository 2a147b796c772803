-- What the units of a walk without a fault touch: cells alone, as their lists say.
use Rattle.std.proofs.Common.{◌≡◌, ℕ, zero, suc, ◌<◌, ◌%◌, List, [], ◌∷◌, length, All, ◌==◌, ◌∙◌, None, subst, inl, inr}
use Rattle.std.specs.Prelude.{slice_index_or}
use Rattle.std.specs.List.{AllByRecursion}
use Rattle.std.proofs.lemmas.Bool.{cases_Bool, eqb-true}
use Rattle.std.proofs.lemmas.List.{length-map}
use Rattle.std.proofs.lemmas.List.Elements.{recursion_from_All}
use Rattle.spf_term.specs.Environment.{Environment}
use Rattle.spf_kernel.specs.declared.tree.Tree.{Tree}
use Rattle.spf_space.specs.Layout.{cells_in, iterations}
use Rattle.spf_space.specs.Units.{loops_units}
use Rattle.spf_space.proofs.Standing.{step_length}
use Rattle.spf_store.specs.Accesses.{touches_in, touches_of}
use Rattle.spf_store.specs.FirstFault.{first_fault, walked}
use Rattle.spf_store.specs.Shaped.{data_of, loops_of, starts_of}
use Rattle.spf_touch.specs.Frame.{IsTouched}
use Rattle.spf_touch.specs.Repeated.{touches_at}
use Rattle.spf_touch.specs.declared.touch.Touch.{Touch}
use Rattle.spf_access.proofs.InRange.{touched_cells}

-- there is a touch list for each iteration
pub lists_of : (env : Environment) (tree : Tree) (steps : ℕ) → length (touches_of env tree steps) ≡ iterations (loops_of env tree)
unfolding touches_of
lists_of env tree steps = length-map (loops_units 0 0 (loops_of env tree)) (λ unit. touches_in (starts_of env tree) (walked env tree steps unit)) ∙ step_length 0 0 (loops_of env tree)

AreBelow : ℕ → List Touch → Type 0
AreBelow cells touches = AllByRecursion (λ (touch : Touch). touch.element < cells) touches

touched_below : (cells : ℕ) (touches : List Touch) (e : ℕ) → AreBelow cells touches → IsTouched touches e → e < cells
unfolding AreBelow
touched_below cells [] e below touched = absurd cc
touched_below cells (t ∷ ts) e below touched = elim (cases_Bool (t.element == e)) [
  | inl here ↦ subst (λ (n : ℕ). n < cells) (eqb-true t.element e here) below.0
  | inr other ↦ touched_below cells ts e below.1 (rw other at touched)
]

list_below : (cells : ℕ) (lists : List (List Touch)) (k : ℕ) → AllByRecursion (AreBelow cells) lists → AreBelow cells (slice_index_or lists k [])
unfolding AreBelow
list_below cells [] k below = tt
list_below cells (list ∷ lists) zero below = below.0
list_below cells (list ∷ lists) (suc k) below = list_below cells lists k below.1

all_below : (cells : ℕ) (lists : List (List Touch)) → AllByRecursion (All (λ (touch : Touch). touch.element < cells)) lists → AllByRecursion (AreBelow cells) lists
unfolding AreBelow
all_below cells [] all = tt
all_below cells (list ∷ lists) all = (recursion_from_All (λ (touch : Touch). touch.element < cells) list all.0, all_below cells lists all.1)

-- each unit touches cells alone
pub inside_of : (env : Environment) (tree : Tree) (steps : ℕ) → first_fault env tree steps ≡ None
    → (u e : ℕ) → IsTouched (touches_at (touches_of env tree steps) u) e → e < cells_in (data_of env tree)
inside_of env tree steps none u e touched =
    let lists = touches_of env tree steps in
    let cells = cells_in (data_of env tree) in
    let all = recursion_from_All (All (λ (touch : Touch). touch.element < cells)) lists (touched_cells env tree steps none) in
    touched_below cells (touches_at lists u) e (list_below cells lists (u % length lists) (all_below cells lists all)) touched
