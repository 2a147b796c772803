-- A loop of a plan gets another order.
use Rattle.std.proofs.Common.{◌≡◌, ℕ, ◌<◌, ◌⊎◌, inl, inr, List, [], length, slice_set, arith, sym, ap, ◌∙◌, subst, length-set, get_or-set_other}
use Rattle.std.proofs.lemmas.Bool.{cases_eq}
use Rattle.std.proofs.lemmas.Grind.{get_or-set_at}
use Rattle.spf_perm.specs.Perm.{IsPerm}
use Rattle.spf_touch.specs.declared.touch.Touch.{Touch}
use Rattle.spf_space.specs.Places.{ArePlacesOf, order_of}
use Rattle.spf_space.specs.declared.shape.LoopShape.{LoopShape}
use Rattle.spf_space.specs.declared.shape.Shape.{Shape}
use Rattle.spf_plan.specs.Planned.{AreLegal, IsPlanOf, Planned, reordered}
use Rattle.spf_plan.proofs.InPlace.{reordered_in_place}

-- the order of a loop, where one has been replaced
order_there : (orders : List (List ℕ)) (of n : ℕ) (order : List ℕ) → of < length orders
    → ((n ≡ of) × (order_of (slice_set orders of order) n ≡ order)) ⊎ (order_of (slice_set orders of order) n ≡ order_of orders n)
order_there orders of n order lt = elim (cases_eq n of) [
  | inl e ↦ inl (e, get_or-set_at orders of n order [] e lt)
  | inr ne ↦ inr (get_or-set_other orders of n order [] ne)
]

pub places_reordered : (steps : ℕ) (loops : List LoopShape) (tiles : List ℕ) (orders : List (List ℕ)) (of : ℕ) (order : List ℕ)
    → ArePlacesOf steps loops tiles orders → of < length loops → IsPerm order → length order ≡ length (order_of orders of)
    → ArePlacesOf steps loops tiles (slice_set orders of order)
places_reordered steps loops tiles orders of order places lt perm same =
    let there : of < length orders = omega (arith, places.each_loop) in
    record {
      each_unit = places.each_unit;
      each_loop = length-set orders of order ∙ places.each_loop;
      extents = λ n loop is. elim (order_there orders of n order there) [
        | inl (e, new) ↦ ap length new ∙ (same ∙ (ap (λ (k : ℕ). length (order_of orders k)) (sym e) ∙ places.extents n loop is))
        | inr old ↦ ap length old ∙ places.extents n loop is
      ];
      perms = λ n within. elim (order_there orders of n order there) [
        | inl (e, new) ↦ subst IsPerm (sym new) perm
        | inr old ↦ subst IsPerm (sym old) (places.perms n (omega (arith, within, length-set orders of order)))
      ];
    }

pub plan_reordered : (touches : List (List Touch)) (shape : Shape) (plan : Planned) (of : ℕ) (order : List ℕ) → IsPlanOf touches shape plan
    → of < length shape.loops → IsPerm order → length order ≡ length (order_of plan.orders of) → AreLegal touches shape plan.tiles (slice_set plan.orders of order)
    → IsPlanOf touches shape (reordered of order plan)
plan_reordered touches shape plan of order is lt perm same legal = record {
  places = places_reordered shape.steps shape.loops plan.tiles plan.orders of order is.places lt perm same;
  legal = legal;
  below = is.below;
  some = is.some;
  few = is.few;
  packed = is.packed;
  each_loop = length-set plan.moved_loops of _ ∙ is.each_loop;
  each_array = is.each_array;
  loops_in_place = reordered_in_place plan.moved_loops plan.orders of order is.loops_in_place;
  arrays_in_place = is.arrays_in_place;
}
