-- What a seed sees of a loop.
use Rattle.std.proofs.Common.{◌≡◌, ℕ, zero, suc, ◌+◌, ◌-◌, ◌<◌, ◌≤◌, ◌^◌, false, nat_eq, List, [], ◌∷◌, ◌++◌, length, get_or, flat_map, slice_get, Some, arith, refl, sym, ap, ◌∙◌}
use Rattle.std.specs.List.{range_with_len}
use Rattle.std.proofs.lemmas.Bool.{eq-eqb, ne_eqb}
use Rattle.std.proofs.lemmas.List.{flat_map_more, length-append, length-map}
use Rattle.std.proofs.lemmas.List.FromFn.{get_or-map-range_with_len, length-map-range_with_len, map-range_with_len_more}
use Rattle.std.proofs.lemmas.List.Sorted.{IsNonDecreasingBy-from_default}
use Rattle.std.proofs.lemmas.List.Sums.{position_or_len_is}
use Rattle.spf_perm.specs.Perm.{at, AreInverse, IsPerm}
use Rattle.spf_perm.proofs.Bijections.{range_more}
use Rattle.spf_touch.specs.declared.touch.Touch.{Touch}
use Rattle.spf_space.specs.Units.{units_of}
use Rattle.spf_space.specs.declared.shape.LoopShape.{LoopShape}
use Rattle.spf_space.specs.declared.shape.Shape.{Shape}
use Rattle.spf_space.proofs.Standing.{reach_in_step, units_length}
use Rattle.spf_seed.specs.View.{IsView}
use Rattle.spf_grow.specs.Growth.{Falls, first_unit}
use Rattle.spf_plan.specs.Planned.{by_iteration, iteration_at}
use Rattle.spf_plan.specs.Seeded.{elements_at, elements_before, starts_before, view_of}

-- two units along which a seed falls are units of the shape
pub fall_there : (steps : ℕ) (loops : List LoopShape) (step of : ℕ) → step < steps → of < length loops → (order list : List ℕ)
    → ((each : LoopShape) → slice_get loops of ≡ Some each → length order ≡ each.extent) → (touches : ℕ → List Touch) (p q : ℕ)
    → Falls touches (first_unit loops step of) (by_iteration order list) p q → (p < length (units_of steps loops)) × (q < length (units_of steps loops))
fall_there steps loops step of low there order list is touches p q fall =
    let ascend = fall.ascend in
    let inside = fall.inside in
    let within : q < length (units_of steps loops) = rw units_length (omega (
      arith,
      length-map order (at list),
      reach_in_step steps loops step of (length order) low there is,
    )) in
    (omega arith, within)

-- the permutation that leads back has the source position of each position
pub iteration_read : (order back : List ℕ) → IsPerm order → AreInverse order back → (position : ℕ) → position < length order → at back position < length order
    → iteration_at order position ≡ at back position
iteration_read order back perm inverse position lt within = position_or_len_is (nat_eq position) order (at back position) 0 (omega arith) before (λ inside. eq-eqb position _ (sym (inverse.reaches position lt)))
  where
    before : (k : ℕ) → k < at back position → nat_eq position (get_or order k 0) ≡ false
    before k less = ne_eqb position (at order k) (λ same.
        let both : k ≡ at back position = perm.distinct k (at back position) (omega arith) within (sym same ∙ sym (inverse.reaches position lt)) in omega arith)

module _ (touches : List (List Touch)) (shape : Shape) (of : ℕ) (order : List ℕ) where
  abbrev before : ℕ → List ℕ
  before = elements_before touches shape of order

  pub elements_more : (n : ℕ) → before n ++ elements_at touches shape of order n ≡ before (n + 1)
  elements_more n = flat_map_more (elements_at touches shape of order) [] (range_with_len 0 n) n ∙ ap (flat_map (elements_at touches shape of order)) (sym (range_more n))

  starts_more : (n : ℕ) → starts_before touches shape of order n ++ length (before n) ∷ [] ≡ starts_before touches shape of order (n + 1)
  starts_more n = sym (map-range_with_len_more (λ position. length (before position)) 0 n n (omega arith))

  pub starts_pushed : (starts new elements : List ℕ) (start n : ℕ) → new ≡ starts ++ start ∷ [] → start ≡ length elements → elements ≡ before n
      → starts ≡ starts_before touches shape of order n → new ≡ starts_before touches shape of order (n + 1)
  starts_pushed starts new elements start n pushed is same have = pushed ∙ rw (is, same, have) (starts_more n)

  rises : (i k j : ℕ) → i + k ≡ j → length (before i) ≤ length (before j)
  rises i zero j is = let same : i ≡ j = omega arith in rw same (omega arith)
  rises i (suc k) j is =
      let same : i + k + 1 ≡ j = omega arith in
      rw (← same) (omega (arith, rises i k (i + k) refl, ap length (elements_more (i + k)), length-append (before (i + k)) (elements_at touches shape of order (i + k))))

  start_at : (j d : ℕ) → j < length order + 1 → get_or (starts_before touches shape of order (length order + 1)) j d ≡ length (before j)
  start_at j d lt = get_or-map-range_with_len (λ position. length (before position)) 0 (length order + 1) j j d lt (omega arith)

  pub view_is : (parts : ℕ) → 1 ≤ parts → length order < 2 ^ 32 → length (before (length order)) < 2 ^ 32 → IsView (view_of touches shape of order parts)
  view_is parts some few few_elements =
      let long : length (starts_before touches shape of order (length order + 1)) ≡ length order + 1 = length-map-range_with_len (λ position. length (before position)) 0 (length order + 1) in
      record {
        some = some;
        begun = omega arith;
        first = start_at 0 0 (omega arith);
        rising = IsNonDecreasingBy-from_default (λ n. n) (starts_before touches shape of order (length order + 1)) 0
            (λ i j le lt. omega (arith, start_at i 0 (omega arith), start_at j 0 (omega arith), rises i (j - i) j (omega arith)));
        last = (let end : length (starts_before touches shape of order (length order + 1)) - 1 ≡ length order = omega arith in rw end (start_at (length order) 0 (omega arith)));
        few_positions = omega arith;
        few_elements = few_elements;
      }
