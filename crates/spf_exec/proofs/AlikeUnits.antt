-- The executor does at a unit's new position, on packed cells, what the unit does.
use Rattle.std.proofs.Common.{◌≡◌, ℕ, ℤ, pos, ◌+ℤ◌, Bool, true, None, Option, Some, List, [], ◌∷◌, All, slice_get, ap, sym, subst}
use Rattle.std.specs.List.{AllByRecursion}
use Rattle.std.proofs.lemmas.List.Elements.{All-from_recursion, recursion_from_All}
use Rattle.spf_term.specs.Environment.{Environment}
use Rattle.spf_term.specs.Normal.{normal}
use Rattle.spf_term.specs.Substitution.{IsReplaced, substituted}
use Rattle.spf_term.specs.Value.{value}
use Rattle.spf_term.specs.declared.term.Term.{Term}
use Rattle.spf_touch.specs.Renaming.{Renaming}
use Rattle.spf_kernel.specs.declared.tree.Loop.{Loop}
use Rattle.spf_kernel.specs.declared.tree.Tree.{Tree}
use Rattle.spf_space.specs.declared.unit.Unit.{Unit}
use Rattle.spf_store.specs.Accesses.{accesses_of}
use Rattle.spf_store.specs.Event.{Event, Turn, Bound, Read, Access, Store}
use Rattle.spf_store.specs.FirstFault.{IsInRange, outside}
use Rattle.spf_store.specs.Needs.{Allows, OwnsAll}
use Rattle.spf_store.specs.Shaped.{outer_value, starts_of}
use Rattle.spf_store.specs.Source.{items_of, position_iteration, unit_trace}
use Rattle.spf_store.specs.Trace.{items_trace}
use Rattle.spf_exec.specs.Executor.{executor_env, new_position}
use Rattle.spf_exec.specs.Meaning.{AreBound, IsUnit, executor_trace, items_at, position_trace}
use Rattle.spf_exec.specs.Rewritten.{executor_items}
use Rattle.spf_exec.specs.declared.program.Moved.{Moved}
use Rattle.spf_exec.proofs.Alike.{Alike, May}
use Rattle.spf_exec.proofs.Following.{iteration_alike}

-- events that may come on cells that own all, may come on cells that own what they access
pub allowed : (starts : List ℕ) (owns : ℕ → Bool) (events : List Event) → AllByRecursion (May starts) events →
    AllByRecursion (λ access. owns access.0 ≡ true) (accesses_of starts events) → AllByRecursion (Allows starts owns) events
allowed starts owns [] may own = tt
allowed starts owns (Turn ∷ events) may own = (tt, allowed starts owns events may.1 own)
allowed starts owns (Bound site value ∷ events) may own = (may.0, allowed starts owns events may.1 own)
allowed starts owns (Read entry ∷ events) may own = (tt, allowed starts owns events may.1 own)
allowed starts owns (Access site class array place ∷ events) may own = (record { placed = may.0.placed; own = own.0 }, allowed starts owns events may.1 own.1)
allowed starts owns (Store assign variables ∷ events) may own = (tt, allowed starts owns events may.1 own)

module _ (env : Environment) (tree : Tree) (moved : Moved) (orders packings : List (List ℤ)) (unit : Unit) (loop : Loop) (at : slice_get tree.loops unit.loop_no ≡ Some loop) where
  pub mine_is : executor_trace env tree moved orders packings unit
      ≡ items_trace (executor_env env orders packings) (pos (new_position moved unit.loop_no unit.position) ∷ []) 1 (executor_items tree moved unit.loop_no loop)
  unfolding position_trace
  mine_is =
      ap (λ (of : Option Loop). items_trace (executor_env env orders packings) (pos (new_position moved unit.loop_no unit.position) ∷ []) 1 (items_at env tree moved orders packings unit.loop_no of)) at

  theirs_are : unit_trace env tree unit ≡ items_trace env ((outer_value env loop.low +ℤ pos unit.position) ∷ []) 1 loop.items
  unfolding unit_trace
  theirs_are = ap (λ (of : Option Loop). items_trace env (position_iteration env tree of unit.position ∷ []) 1 (items_of env tree of)) at

module _ (normal_keeps : (env : Environment) (variables : List ℤ) (term : Term) → value env variables (normal term) ≡ value env variables term)
    (substitution_keeps : (env : Environment) (before after : List ℤ) (var : ℕ) (by term : Term) → IsReplaced var (value env before by) before after → value env before (substituted var by term) ≡ value env after term)
    (env : Environment) (tree : Tree) (moved : Moved) (orders packings : List (List ℤ)) (renaming : Renaming) (unit : Unit)
    (bound : AreBound env tree moved orders packings renaming) (is_unit : IsUnit env tree unit) (range : IsInRange env tree unit) where
  abbrev mine : List Event
  mine = executor_trace env tree moved orders packings unit

  abbrev InRange : Event → Type 0
  InRange event = outside env tree event ≡ None

  pub unit_alike : Alike (executor_env env orders packings) env (starts_of env tree) renaming mine (unit_trace env tree unit)
  unit_alike =
      let theirs = theirs_are env tree moved orders packings unit is_unit.loop is_unit.there in
      subst (λ (events : List Event). Alike (executor_env env orders packings) env (starts_of env tree) renaming events (unit_trace env tree unit)) (sym (mine_is env tree moved orders packings unit is_unit.loop is_unit.there))
      (subst (Alike (executor_env env orders packings) env (starts_of env tree) renaming
      (items_trace (executor_env env orders packings) (pos (new_position moved unit.loop_no unit.position) ∷ []) 1 (executor_items tree moved unit.loop_no is_unit.loop))) (sym theirs)
      (iteration_alike normal_keeps substitution_keeps env tree moved orders packings renaming bound unit.loop_no is_unit.loop unit.position is_unit.there (bound.positions unit.loop_no is_unit.loop unit.position is_unit.there is_unit.inside)
      (subst (AllByRecursion InRange) theirs (recursion_from_All InRange (unit_trace env tree unit) range))))

  pub unit_allowed : (owns : ℕ → Bool) → OwnsAll owns (accesses_of (starts_of env tree) mine) → All (Allows (starts_of env tree) owns) mine
  unit_allowed owns own =
      All-from_recursion (Allows (starts_of env tree) owns) mine
      (allowed (starts_of env tree) owns mine unit_alike.may (recursion_from_All (λ access. owns access.0 ≡ true) (accesses_of (starts_of env tree) mine) own))
