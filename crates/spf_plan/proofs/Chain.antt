-- Steps taken one after another.
use Rattle.std.proofs.Common.{◌≡◌, ℕ, suc, ◌+◌, ◌<◌, ◌≤◌, true, false, inl, inr, List, ◌∷◌, drop, get_or, length, slice_get, Some, Result, Ok, Err, refl, sym, ap, ◌∙◌, subst, arith, add-one, drop-cons}
use Rattle.std.proofs.lemmas.Option.{get_or_from_slice_get, slice_get_within}
use Rattle.std.specs.Result.{IsErrAnd}
use Rattle.spf_touch.specs.declared.touch.Touch.{Touch}
use Rattle.spf_space.specs.declared.shape.Shape.{Shape}
use Rattle.spf_script.specs.Resolved.{TilesOnce, is_tiling}
use Rattle.spf_script.specs.declared.resolved.Step.{Step}
use Rattle.spf_script.specs.declared.resolved.Step.TheVariants.{Cpack, LexGroup, LexSort, Bucket, Tile, TilePack}
use Rattle.spf_plan.specs.Planned.{Planned}
use Rattle.spf_plan.specs.Taken.{Takes, TakesAll, TakesOrder}
use Rattle.spf_plan.specs.declared.plan_fault.PlanFault.{PlanFault}

rest_at : {A : Type 0} (xs : List A) (n : ℕ) (x : A) → slice_get xs n ≡ Some x → drop n xs ≡ x ∷ drop (n + 1) xs
rest_at xs n x there =
    let within = slice_get_within xs n x there in
    rw (add-one, drop-cons xs n x) (ap (λ y. y ∷ drop (suc n) xs) (get_or_from_slice_get xs n x x there))

module _ (touches : List (List Touch)) (shape : Shape) (whole : Result Planned PlanFault → Type 0) (steps : List Step) (index : ℕ) (step : Step) (plan : Planned) where
  -- what the rest of the steps make of this plan is what all steps make
  abbrev Remains : Type 0
  Remains = (result : Result Planned PlanFault) → TakesAll touches shape (index + 1) (drop index steps) plan result → whole result

  pub taken_further : (next : Planned) → Remains → slice_get steps index ≡ Some step → Takes touches shape (index + 1) plan (Ok tt) next step
      → (result : Result Planned PlanFault) → TakesAll touches shape (index + 1 + 1) (drop (index + 1) steps) next result → whole result
  taken_further next remains there takes = λ result all. remains result (rw (rest_at steps index step there) (inl (next, takes, all)))

  pub refused_here : (fault : PlanFault) → Remains → slice_get steps index ≡ Some step → Takes touches shape (index + 1) plan (Err fault) plan step → whole (Err fault)
  refused_here fault remains there takes = remains (Err fault) (rw (rest_at steps index step there) (inr (fault, takes, refl)))

-- what holds of the fault holds of the result that passes it on
pub passed_on : (Q : Result Planned PlanFault → Type 0) (fault : PlanFault) (result : Result Planned PlanFault) → IsErrAnd result (λ given. given ≡ fault) → Q (Err fault) → Q result
passed_on Q fault (Ok plan) known holds = absurd known
passed_on Q fault (Err given) known holds = subst (λ (f : PlanFault). Q (Err f)) (sym known) holds

-- there is one tile where a tiling stands at this place or a later one
abbrev pub IsUntiled : List Step → ℕ → ℕ → Type 0
IsUntiled steps index count = (j : ℕ) (d : Step) → index ≤ j → j < length steps → is_tiling (get_or steps j d) ≡ true → count ≡ 1

module _ (touches : List (List Touch)) (shape : Shape) (number : ℕ) (plan next : Planned) where
  order_keeps_count : (of : ℕ) (key : ℕ → List ℕ) → TakesOrder touches shape number plan (Ok tt) next of key → next.count ≡ plan.count
  order_keeps_count of key (inl refused) = let ok = refused.0 in cc
  order_keeps_count of key (inr (order, new, (is, legal))) = ap (λ (p : Planned). p.count) is

  -- a step that isn't a tiling leaves the number of tiles
  count_stays : (step : Step) → is_tiling step ≡ false → Takes touches shape number plan (Ok tt) next step → next.count ≡ plan.count
  count_stays (Cpack arrays by) other takes = ap (λ (p : Planned). p.count) takes.after_is
  count_stays (LexGroup of by) other takes = order_keeps_count of _ takes
  count_stays (LexSort of by) other takes = order_keeps_count of _ takes
  count_stays (Bucket of by size) other takes = order_keeps_count of _ takes
  count_stays (Tile of at seed parts) other takes = cc
  count_stays (TilePack arrays) other takes = ap (λ (p : Planned). p.count) takes.after_is

  pub untiled_further : (steps : List Step) (index : ℕ) (step : Step) → TilesOnce steps → slice_get steps index ≡ Some step → Takes touches shape number plan (Ok tt) next step
      → IsUntiled steps index plan.count → IsUntiled steps (index + 1) next.count
  untiled_further steps index step once there takes untiled j d low within tiling = elim (is_tiling step) as (λ b. is_tiling step ≡ b → next.count ≡ 1) [
    | true ↦ λ first. let here = ap is_tiling (get_or_from_slice_get steps index step d there) ∙ first in let none = once index j d (omega arith) within here in cc
    | false ↦ λ other. count_stays step other takes ∙ untiled j d (omega arith) within tiling
  ] refl
