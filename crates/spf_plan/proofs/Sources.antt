-- The source order is legal: units are run in textual order.
use Rattle.std.proofs.Common.{◌≡◌, ℕ, false, ◌<◌, ◌^◌, inr, List, [], ◌∷◌, length, map, replicate, get_or, slice_get, slice_index_or, Some, arith, sym, zero-add, ap, ◌∙◌, subst}
use Rattle.std.specs.List.{range_with_len, sum_by}
use Rattle.std.specs.Option.{option_map}
use Rattle.std.proofs.lemmas.List.{get_or-replicate, length-map, length-replicate}
use Rattle.std.proofs.lemmas.List.FromFn.{get_or-range_with_len, length-range_with_len}
use Rattle.std.proofs.lemmas.List.Sums.{get_or-le-sum_by}
use Rattle.std.proofs.lemmas.Option.{get_or_from_slice_get, slice_get-get_or, slice_get-map}
use Rattle.spf_perm.specs.Perm.{at, IsPerm}
use Rattle.spf_perm.proofs.Bijections.{identity_is_perm}
use Rattle.spf_touch.specs.declared.touch.Touch.{Touch}
use Rattle.spf_space.specs.Layout.{IsLayout, iterations}
use Rattle.spf_space.specs.Places.{ArePlacesOf, moved, order_of, place_of, unit_of}
use Rattle.spf_space.specs.Units.{IsEarlier, IsUnitOf}
use Rattle.spf_space.specs.declared.shape.ArrayShape.{ArrayShape}
use Rattle.spf_space.specs.declared.shape.LoopShape.{LoopShape}
use Rattle.spf_space.specs.declared.shape.Shape.{Shape}
use Rattle.spf_space.specs.declared.unit.Unit.{Unit}
use Rattle.spf_space.proofs.Placed.{unit_is, unit_there}
use Rattle.spf_space.proofs.Textual.{follows}
use Rattle.spf_plan.proofs.InPlace.{identities_in_place}
use Rattle.spf_space.specs.InOrder.{units_in}
use Rattle.spf_plan.specs.Planned.{AreLegal, IsPlanOf, source_orders, source_plan}

-- identities of these sizes
abbrev identities : {A : Type 0} → (A → ℕ) → List A → List (List ℕ)
identities size xs = map (λ x. range_with_len 0 (size x)) xs

identity_at : {A : Type 0} (size : A → ℕ) (xs : List A) (n : ℕ) (x : A) → slice_get xs n ≡ Some x → slice_index_or (identities size xs) n [] ≡ range_with_len 0 (size x)
identity_at size xs n x there =
    get_or_from_slice_get (identities size xs) n (range_with_len 0 (size x)) [] (slice_get-map (λ y. range_with_len 0 (size y)) xs n ∙ ap (option_map (λ y. range_with_len 0 (size y))) there)

identities_are_perms : {A : Type 0} (size : A → ℕ) (xs : List A) → sum_by size xs < 2 ^ 32 → (n : ℕ) → n < length (identities size xs) → IsPerm (slice_index_or (identities size xs) n [])
identities_are_perms size [] few n lt = absurd (omega arith)
identities_are_perms size (x ∷ xs) few n lt =
    let within : n < length (x ∷ xs) = rw length-map at lt in
    let there = slice_get-get_or (x ∷ xs) n x within in
    subst IsPerm (sym (identity_at size (x ∷ xs) n (get_or (x ∷ xs) n x) there)) (identity_is_perm (size (get_or (x ∷ xs) n x)) (omega (arith, few, get_or-le-sum_by size (x ∷ xs) n x within)))

module _ (shape : Shape) where
  abbrev loops : List LoopShape
  loops = shape.loops

  pub source_places : iterations loops < 2 ^ 32 → ArePlacesOf shape.steps loops (replicate (units_in shape) 0) (source_orders loops)
  source_places few = record {
    each_unit = length-replicate (units_in shape) 0;
    each_loop = length-map loops (λ (each : LoopShape). range_with_len 0 each.extent);
    extents = λ n loop there. ap length (identity_at (λ (each : LoopShape). each.extent) loops n loop there) ∙ length-range_with_len 0 loop.extent;
    perms = identities_are_perms (λ (each : LoopShape). each.extent) loops few;
  }

  -- the source's orders move no unit
  stays : (u : Unit) → IsUnitOf shape.steps loops u → moved (source_orders loops) u ≡ u
  stays u is =
      let order = identity_at (λ (each : LoopShape). each.extent) loops u.loop_no is.loop is.there in
      let same : at (order_of (source_orders loops) u.loop_no) u.position ≡ u.position =
      ap (λ (list : List ℕ). at list u.position) order ∙ (get_or-range_with_len 0 is.loop.extent u.position 0 is.position ∙ zero-add u.position) in
      ap (λ (position : ℕ). record u { position = position }) same

  pub source_legal : (touches : List (List Touch)) → AreLegal touches shape (replicate (units_in shape) 0) (source_orders loops)
  unfolding place_of
  source_legal touches = λ p q lt within conflict.
      let first : p < units_in shape = omega (arith, lt, within) in
      let u = unit_of shape.steps loops p in
      let v = unit_of shape.steps loops q in
      let earlier = (follows shape.steps loops u v p q (unit_there shape.steps loops p first) (unit_there shape.steps loops q within)).0 lt in
      inr (
        get_or-replicate (units_in shape) p 0 0 first ∙ sym (get_or-replicate (units_in shape) q 0 0 within),
        subst (λ (w : Unit). IsEarlier w (moved (source_orders loops) v)) (sym (stays u (unit_is shape.steps loops p first)))
            (subst (IsEarlier u) (sym (stays v (unit_is shape.steps loops q within))) earlier),
      )

  pub source_is_plan : (touches : List (List Touch)) → IsLayout shape.steps shape.loops shape.arrays → IsPlanOf touches shape (source_plan shape)
  source_is_plan touches layout = record {
    places = source_places layout.per_step;
    legal = source_legal touches;
    below = λ n other lt. let l : n < units_in shape = rw length-replicate at lt in rw (get_or-replicate (units_in shape) n 0 other l) (omega arith);
    some = omega arith;
    few = omega arith;
    packed = record {
      each_array = length-map shape.arrays (λ (array : ArrayShape). range_with_len 0 array.length);
      lengths = λ n array there. ap length (identity_at (λ (array : ArrayShape). array.length) shape.arrays n array there) ∙ length-range_with_len 0 array.length;
      perms = identities_are_perms (λ (array : ArrayShape). array.length) shape.arrays layout.cells;
    };
    each_loop = length-replicate (length shape.loops) false;
    each_array = length-replicate (length shape.arrays) false;
    loops_in_place = λ n off. identities_in_place (λ (each : LoopShape). each.extent) loops n;
    arrays_in_place = λ n off. identities_in_place (λ (array : ArrayShape). array.length) shape.arrays n;
  }
