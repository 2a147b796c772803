-- How a breadth-first order grows.
use Rattle.std.proofs.Common.{◌≡◌, ◌≢◌, ℕ, zero, suc, ◌+◌, ◌/◌, ◌<◌, ◌≤◌, true, false, ◌||◌, List, [], ◌∷◌, ◌++◌, length, get_or, take, inl, inr, refl, sym, ap, ◌∙◌, eqb, append_assoc, length-append, arith}
use Rattle.std.specs.List.{AllPairs, range_with_len}
use Rattle.std.proofs.lemmas.Bool.{cases_lt, cases_order, eqb-true, ne_eqb, or_cases, or_from, or_parts, or_right, true_from_ne_false}
use Rattle.std.proofs.lemmas.List.{append-nil, get_or_append_left, get_or_at, get_or-take, length-take-le, take-append-le, take_at}
use Rattle.std.specs.Cmp.{nat_eq_equiv}
use Rattle.std.proofs.Math.Seq.{take-suc}
use Rattle.std.proofs.lemmas.Bool.Decides.{Decides-eqb}
use Rattle.std.proofs.lemmas.List.{get_or_default, take_all}
use Rattle.std.proofs.lemmas.List.FromFn.{get_or-range_with_len, length-range_with_len}
use Rattle.std.proofs.lemmas.Map.Made.{IsDistinct-from_AllPairs, length-le_from_is_member}
use Rattle.std.proofs.lemmas.Map.Steps.{length-le_from_distinct_below}
use Rattle.spf_seed.specs.BreadthFirst.{AreUsedUp, IsBreadthFirst, IsFree, IsLeast, IsNext}
use Rattle.spf_touch.specs.Ordered.{is_in}
use Rattle.spf_seed.specs.Listings.{IsUnderway}
use Rattle.spf_seed.specs.Spread.{IsSpread, per_part}
use Rattle.spf_seed.specs.View.{AreNeighbours, positions}
use Rattle.spf_seed.specs.declared.view.SeedView.{SeedView}
use Rattle.std.proofs.lemmas.Grind.{same_number_lists}
use Rattle.spf_touch.proofs.Members.{in_append, in_at, pairs_cons, place_in}

module _ (near : ℕ → ℕ → Type 0) (count : ℕ) where
  abbrev IsGrown : List ℕ → Type 0
  IsGrown order = (r : ℕ) → r < length order → IsNext near count (take r order) (get_or order r 0)

  next_free : (listed : List ℕ) (x : ℕ) → IsNext near count listed x → IsFree count listed x
  next_free listed x (inl next) = next.3.holds.0
  next_free listed x (inr next) = next.1.holds

  pub grown_more : (order : List ℕ) (x : ℕ) → IsGrown order → IsNext near count order x → IsGrown (order ++ x ∷ [])
  grown_more order x grown next r lt = elim (cases_lt r (length order)) [
    | inl less ↦ rw (take-append-le r order (x ∷ []) (omega arith), get_or_append_left order (x ∷ []) 0 r less) (grown r less)
    | inr more ↦
        let e : r ≡ length order = omega (arith, length-append order (x ∷ [])) in
        rw (e, take_at order (x ∷ []) (length order) refl, get_or_at order x [] 0 (length order) refl) next
  ]

  free_before : (base more : List ℕ) (y : ℕ) → IsFree count (base ++ more) y → IsFree count base y
  free_before base more y free = record { below = free.below; new = (or_parts (is_in base y) (is_in more y) (sym (in_append base more y) ∙ free.new)).0 }

  pub used_before : (base more : List ℕ) (first : ℕ) → first ≤ length base → AreUsedUp near count base first → AreUsedUp near count (base ++ more) first
  used_before base more first short used r y lt free n =
      used r y lt (free_before base more y free) (rw (get_or_append_left base more 0 r (omega arith)) at n)

  -- all free neighbours of the first number that isn't used up follow in ascending order
  pub neighbours_follow : (ts base : List ℕ) (first : ℕ) → first < length base → IsGrown base → AreUsedUp near count base first → AllPairs (λ (x y : ℕ). x < y) ts →
      ((y : ℕ) → is_in ts y ≡ true → IsFree count base y × near (get_or base first 0) y) → ((y : ℕ) → IsFree count base y → near (get_or base first 0) y → is_in ts y ≡ true) →
      IsUnderway near count (base ++ ts) (first + 1)
  neighbours_follow [] base first lt grown used ascend free all = rw (append-nil base) (record {
    each = grown;
    used = λ r y below is n. elim (cases_lt r first) [
      | inl less ↦ used r y less is n
      | inr more ↦ let e : r ≡ first = omega arith in let none : false ≡ true = all y is (rw e at n) in cc
    ];
  })
  neighbours_follow (t ∷ ts) base first lt grown used ascend free all =
      rw (← append_assoc base (t ∷ []) ts) (neighbours_follow ts (base ++ t ∷ []) first (omega (arith, length-append base (t ∷ [])))
      (grown_more base t grown next) (used_before base (t ∷ []) first (omega arith) used) (λ i j d less in'. ascend (suc i) (suc j) d (omega arith) (omega arith))
      (λ y h. rw here (record { below = (free y (in_tail y h)).0.below; new = in_append base (t ∷ []) y ∙ or_from (is_in base y) (eqb y t || false) (free y (in_tail y h)).0.new (or_from (eqb y t) false (ne_eqb y t (λ e. omega (arith, above y h))) refl) }, (free y (in_tail y h)).1))
      (λ y is n. elim (or_cases (eqb y t) (is_in ts y) (all y (free_before base (t ∷ []) y is) (rw here at n))) [
        | inl same ↦ let parts = or_parts (is_in base y) (eqb y t || false) (sym (in_append base (t ∷ []) y) ∙ is.new) in let off = (or_parts (eqb y t) false parts.1).0 in cc
        | inr later ↦ later
      ]))
    where
      here : get_or (base ++ t ∷ []) first 0 ≡ get_or base first 0
      here = get_or_append_left base (t ∷ []) 0 first lt

      in_tail : (y : ℕ) → is_in ts y ≡ true → is_in (t ∷ ts) y ≡ true
      in_tail y h = or_right (eqb y t) (is_in ts y) h

      above : (y : ℕ) → is_in ts y ≡ true → t < y
      above y h = let p = place_in ts y h in rw (← p.2 0) (ascend 0 (suc p.0) 0 (omega arith) (omega (arith, p.1)))

      next : IsNext near count base t
      next = inl (
        first,
        lt,
        used,
        record {
          holds = free t (in_at (t ∷ ts) 0 0 (omega arith));
          least = λ y is. elim (or_cases (eqb y t) (is_in ts y) (all y is.0 is.1)) [
            | inl same ↦ omega (arith, eqb-true y t same)
            | inr later ↦ omega (arith, above y later)
          ];
        },
      )

  below_count : (order : List ℕ) → IsGrown order → (y : ℕ) → is_in order y ≡ true → y < count
  below_count order grown y h = let p = place_in order y h in rw (← p.2 0) ((next_free (take p.0 order) (get_or order p.0 0) (grown p.0 p.1)).below)

  pub order_below : (order : List ℕ) → IsGrown order → (r : ℕ) → r < length order → get_or order r 0 < count
  order_below order grown r lt = (next_free (take r order) (get_or order r 0) (grown r lt)).below

  pub order_apart : (order : List ℕ) → IsGrown order → (r s : ℕ) → r < s → s < length order → get_or order r 0 ≢ get_or order s 0
  order_apart order grown r s less lt same =
      let new = (next_free (take s order) (get_or order s 0) (grown s lt)).new in
      let old : is_in (take s order) (get_or order r 0) ≡ true = rw (get_or-take s order r 0 less) at (in_at (take s order) r 0 (omega (arith, length-take-le s order (omega arith)))) in
      let both : is_in (take s order) (get_or order s 0) ≡ true = rw same at old in
      cc

  order_pairs : (order : List ℕ) → IsGrown order → AllPairs (λ x y. x ≢ y) order
  order_pairs order grown i j d less lt same = order_apart order grown i j less lt (get_or_default order i 0 d (omega arith) ∙ same ∙ get_or_default order j d 0 lt)

  -- an order has no more numbers than there are, and where all are listed no fewer
  pub order_short : (order : List ℕ) → IsGrown order → length order ≤ count
  order_short order grown = length-le_from_distinct_below order count (IsDistinct-from_AllPairs Decides-eqb order (order_pairs order grown)) (below_count order grown)

  pub order_whole : (order : List ℕ) → IsGrown order → ((y : ℕ) → y < count → is_in order y ≡ true) → IsBreadthFirst near count order
  order_whole order grown all = record { long = long; each = λ r lt. grown r (omega (arith, long)) }
    where
      every : (q : ℕ) → is_in (range_with_len 0 count) q ≡ true → is_in order q ≡ true
      every q h = let p = place_in (range_with_len 0 count) q h in all q (omega (arith, p.1, p.2 0, length-range_with_len 0 count, get_or-range_with_len 0 count p.0 0 (omega (arith, p.1, length-range_with_len 0 count))))

      pairs : AllPairs (λ x y. x ≢ y) (range_with_len 0 count)
      pairs i j d less lt same = omega (arith, same, get_or-range_with_len 0 count i d (omega (arith, length-range_with_len 0 count)), get_or-range_with_len 0 count j d (omega (arith, length-range_with_len 0 count)))

      long : length order ≡ count
      long = omega (arith, order_short order grown, length-range_with_len 0 count, length-le_from_is_member nat_eq_equiv (range_with_len 0 count) order (IsDistinct-from_AllPairs Decides-eqb (range_with_len 0 count) pairs) every)

  -- in a whole order all stand
  pub order_reaches : (order : List ℕ) → IsBreadthFirst near count order → (y : ℕ) → y < count → is_in order y ≡ true
  order_reaches order whole y lt = true_from_ne_false (is_in order y) (λ missing.
      omega (
        arith,
        whole.long,
        length-le_from_distinct_below (y ∷ order) count
            (IsDistinct-from_AllPairs Decides-eqb (y ∷ order) (pairs_cons (λ x y. x ≢ y) y order (λ x h same. let there : is_in order y ≡ true = rw same h in cc) (order_pairs order grown)))
            (λ q h. elim (or_cases (eqb q y) (is_in order q) h) [ inl same ↦ omega (arith, eqb-true q y same) | inr later ↦ below_count order grown q later ]),
      ))
    where
      grown : IsGrown order
      grown r in' = whole.each r (omega (arith, whole.long))

  least_once : (P : ℕ → Type 0) (x y : ℕ) → IsLeast P x → IsLeast P y → x ≡ y
  least_once P x y a b = omega (arith, a.least y b.holds, b.least x a.holds)

  next_once : (listed : List ℕ) (x y : ℕ) → IsNext near count listed x → IsNext near count listed y → x ≡ y
  next_once listed x y (inl a) (inl b) = elim (cases_order a.0 b.0) [
    | inl same ↦ least_once (λ y. IsFree count listed y × near (get_or listed a.0 0) y) x y a.3 (rw (sym same) at b.3)
    | inr (inl less) ↦ absurd (b.2 a.0 x less a.3.holds.0 a.3.holds.1)
    | inr (inr more) ↦ absurd (a.2 b.0 y more b.3.holds.0 b.3.holds.1)
  ]
  next_once listed x y (inl a) (inr b) = absurd (b.0 a.0 x a.1 a.3.holds.0 a.3.holds.1)
  next_once listed x y (inr a) (inl b) = absurd (a.0 b.0 y b.1 b.3.holds.0 b.3.holds.1)
  next_once listed x y (inr a) (inr b) = least_once (IsFree count listed) x y a.1 b.1

  pub one_order : (a b : List ℕ) → IsBreadthFirst near count a → IsBreadthFirst near count b → a ≡ b
  one_order a b first second = sym (take_all count a (omega (arith, first.long))) ∙ fronts count (omega arith) ∙ take_all count b (omega (arith, second.long))
    where
      fronts : (r : ℕ) → r ≤ count → take r a ≡ take r b
      fronts zero le = refl
      fronts (suc r) le =
          let before = fronts r (omega arith) in
          let next : get_or a r 0 ≡ get_or b r 0 = next_once (take r a) (get_or a r 0) (get_or b r 0) (first.each r (omega arith)) (rw (← before) at (second.each r (omega arith))) in
          take-suc a r 0 (omega (arith, first.long)) ∙ ap (λ (l : List ℕ). l ++ get_or a r 0 ∷ []) before ∙ ap (λ (n : ℕ). take r b ++ n ∷ []) next ∙ sym (take-suc b r 0 (omega (arith, second.long)))

-- a view has one list of parts along its order
pub one_spread : (view : SeedView) (a b : List ℕ) → IsSpread view a → IsSpread view b → a ≡ b
one_spread view a b first second = same_number_lists a b (omega (arith, first.long, second.long)) (λ k lt.
    let near = AreNeighbours view in
    let same = one_order near (positions view) first.order second.order first.breadth_first second.breadth_first in
    let at = place_in first.order k (order_reaches near (positions view) first.order first.breadth_first k (omega (arith, first.long))) in
    let inside : at.0 < positions view = omega (arith, at.1, first.breadth_first.long) in
    let mine : get_or a k 0 ≡ at.0 / per_part view = rw at.2 at (first.each at.0 inside) in
    let other : get_or b k 0 ≡ at.0 / per_part view = rw (← same, at.2) at (second.each at.0 inside) in
    mine ∙ sym other)
