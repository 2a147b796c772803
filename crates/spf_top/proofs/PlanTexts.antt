-- Texts of plans: how they grow line by line, and that a plan has one.
use Rattle.std.proofs.Common.{◌≡◌, ℕ, zero, suc, ◌+◌, ◌*◌, ◌<◌, ◌≤◌, true, false, List, [], ◌∷◌, ◌++◌, length, take, get_or, inl, inr, refl, sym, ap, subst, ◌∙◌, eqb, append_assoc, arith}
use Rattle.std.specs.Fmt.{signed_decimal}
use Rattle.std.specs.Prelude.{◌↔◌, ◌+ℤ◌, codes, flat_map, nat_eq, pos, slice_range}
use Rattle.std.specs.List.{AllPairs, range_with_len}
use Rattle.std.proofs.lemmas.Bool.{eq-eqb, eqb-true, false_from_ne_true, or_cases, or_left, or_right}
use Rattle.std.proofs.lemmas.List.{flat_map_more, get_or_default, same_lists}
use Rattle.std.proofs.lemmas.List.Elements.{All-get_or}
use Rattle.std.proofs.Math.Nat.{mul-le-mul_right}
use Rattle.std.proofs.lemmas.List.Sums.{position_or_len_is, sum_by_more, sum_by_more_le}
use Rattle.spf_perm.specs.Perm.{AreInverse, IsPerm, at}
use Rattle.spf_plan.specs.Planned.{Planned, iteration_at}
use Rattle.spf_space.proofs.Standing.{units_length}
use Rattle.spf_space.specs.Layout.{iterations}
use Rattle.spf_space.specs.Units.{units_of}
use Rattle.spf_space.specs.declared.shape.LoopShape.{LoopShape}
use Rattle.spf_space.specs.declared.shape.Shape.{Shape}
use Rattle.spf_touch.specs.Ordered.{is_in}
use Rattle.spf_touch.specs.Repeated.{touches_at}
use Rattle.spf_touch.specs.declared.touch.Touch.{Touch}
use Rattle.spf_top.specs.Outcome.{loop_at}
use Rattle.spf_top.specs.PlanText.{IsOrderOf, IsPlanText, loop_line, plan_text, tiles_at}

-- ---- texts of numbers below a count

range_more : (a n : ℕ) → range_with_len a (n + 1) ≡ range_with_len a n ++ (a + n) ∷ []
range_more a zero = let none : a ≡ a + 0 = omega arith in ap (λ (k : ℕ). k ∷ []) none
range_more a (suc n) =
    let one : n + 1 ≡ suc n = omega arith in
    let two : suc n + 1 ≡ suc (suc n) = omega arith in
    let moved : a + 1 + n ≡ a + suc n = omega arith in
    let longer = ap (range_with_len (a + 1)) (sym one) ∙ range_more (a + 1) n in
    ap (range_with_len a) two ∙ ap (λ (ks : List ℕ). a ∷ ks) (longer ∙ ap (λ (k : ℕ). range_with_len (a + 1) n ++ k ∷ []) moved)

-- a text that has the lines of the numbers below n grows by the next one
pub grown : (line : ℕ → List ℕ) (front text new part : List ℕ) (n : ℕ) → text ≡ front ++ flat_map line (range_with_len 0 n) → new ≡ text ++ part → part ≡ line n → new ≡ front ++ flat_map line (range_with_len 0 (n + 1))
grown line front text new part n so_far adds is =
    let none : 0 + n ≡ n = omega arith in
    let more : range_with_len 0 (n + 1) ≡ range_with_len 0 n ++ n ∷ [] = range_more 0 n ∙ ap (λ (k : ℕ). range_with_len 0 n ++ k ∷ []) none in
    adds ∙ (λ i. so_far i ++ is i) ∙ flat_map_more line front (range_with_len 0 n) n ∙ ap (λ (ks : List ℕ). front ++ flat_map line ks) (sym more)

-- an entry of a list that is another one
pub entry_of : {X : Type 0} (xs ys : List X) (x d : X) (n : ℕ) → xs ≡ ys → n < length xs → x ≡ get_or xs n x → x ≡ get_or ys n d
entry_of xs ys x d n same lt is = is ∙ get_or_default xs n x d lt ∙ ap (λ (zs : List _). get_or zs n d) same

-- lines that are alike at each number
pub same_over : (f g : ℕ → List ℕ) (a n : ℕ) → ((k : ℕ) → a ≤ k → k < a + n → f k ≡ g k) → flat_map f (range_with_len a n) ≡ flat_map g (range_with_len a n)
same_over f g a zero alike = refl
same_over f g a (suc n) alike =
    let here : f a ≡ g a = alike a (omega arith) (omega arith) in
    let rest = same_over f g (a + 1) n (λ k low lt. alike k (omega arith) (omega arith)) in
    λ i. here i ++ rest i

-- ---- units of a step

-- the tiles of a loop's units end within those of all units
pub within_units : (steps step : ℕ) (loops : List LoopShape) (tiles : List ℕ) (n : ℕ) (each : LoopShape) → step < steps → length tiles ≡ length (units_of steps loops) → n < length loops → each ≡ get_or loops n each →
    step * iterations loops + iterations (take n loops) + each.extent ≤ length tiles
within_units steps step loops tiles n each below count lt is =
    let more : iterations (take n loops) + each.extent ≤ iterations loops = subst (λ (loop : LoopShape). iterations (take n loops) + loop.extent ≤ iterations loops) (sym is) (sum_by_more_le (λ (loop : LoopShape). loop.extent) loops n each lt) in
    let all : (step + 1) * iterations loops ≤ steps * iterations loops = mul-le-mul_right (iterations loops) (omega arith) in
    omega (arith, more, all, count, units_length steps loops)

-- where the tiles of the next loop begin
pub next_first : (step : ℕ) (loops : List LoopShape) (n first : ℕ) (each : LoopShape) → n < length loops → each ≡ get_or loops n each → first ≡ step * iterations loops + iterations (take n loops) →
    first + each.extent ≡ step * iterations loops + iterations (take (n + 1) loops)
next_first step loops n first each lt is at_first =
    let more : iterations (take (n + 1) loops) ≡ iterations (take n loops) + each.extent = sum_by_more (λ (loop : LoopShape). loop.extent) loops n each lt ∙ ap (λ (loop : LoopShape). iterations (take n loops) + loop.extent) (sym is) in
    omega (arith, more, at_first)

-- the tiles of a loop's units
pub tiles_are : (step : ℕ) (loops : List LoopShape) (tiles : List ℕ) (n first : ℕ) (each : LoopShape) → n < length loops → each ≡ get_or loops n each → first ≡ step * iterations loops + iterations (take n loops) →
    slice_range tiles first (first + each.extent) ≡ tiles_at loops tiles step n
tiles_are step loops tiles n first each lt is at_first =
    let none : LoopShape = record { name = []; lower = pos 0; extent = 0 } in
    let same : first ≡ step * iterations loops + iterations (take n loops) + 0 = omega (arith, at_first) in
    let loop : each ≡ loop_at loops n = is ∙ get_or_default loops n each none lt in
    λ i. slice_range tiles (same i) (same i + (loop i).extent)

-- ---- orders of loops

-- the permutation that leads back has the iteration at each position
pub iteration_is : (order back : List ℕ) (position : ℕ) → AreInverse order back → IsPerm back → position < length order → at back position ≡ iteration_at order position
iteration_is order back position inverse perm lt =
    let inside : at back position < length order = omega (arith, inverse.lengths, perm.below position (omega (arith, inverse.lengths))) in
    sym (position_or_len_is (nat_eq position) order (at back position) 0 (omega arith) (λ k before. not_yet k (omega arith) before) (λ there. eq-eqb position (at order (at back position)) (sym (inverse.reaches position lt)))) where
      not_yet : (k : ℕ) → k < length order → k < at back position → nat_eq position (at order k) ≡ false
      not_yet k within before = false_from_ne_true (nat_eq position (at order k)) (λ same.
          let back_here : at back position ≡ k = ap (at back) (eqb-true position (at order k) same) ∙ inverse.returns k within in
          omega arith)

-- a text that got a loop's line, part by part
pub loop_is : (each : LoopShape) (order back : List ℕ) (text headed named filled ended : List ℕ) → AreInverse order back → IsPerm back → length order ≡ each.extent → headed ≡ text ++ codes "loop " → named ≡ headed ++ each.name →
    filled ≡ named ++ flat_map (λ position. 32 ∷ signed_decimal (each.lower +ℤ pos (at back position))) (range_with_len 0 (length back)) → ended ≡ filled ++ 10 ∷ [] → ended ≡ text ++ loop_line each order
loop_is each order back text headed named filled ended inverse perm extent heads names fills ends =
    let line = λ (iteration : ℕ). 32 ∷ signed_decimal (each.lower +ℤ pos iteration) in
    let all : flat_map (λ position. line (at back position)) (range_with_len 0 (length back)) ≡ flat_map (λ position. line (iteration_at order position)) (range_with_len 0 each.extent) =
    same_over (λ position. line (at back position)) (λ position. line (iteration_at order position)) 0 (length back) (λ k low lt. ap line (iteration_is order back k inverse perm (omega (arith, inverse.lengths))))
    ∙ ap (λ n. flat_map (λ position. line (iteration_at order position)) (range_with_len 0 n)) (inverse.lengths ∙ extent) in
    ends ∙ ap (λ (t : List ℕ). t ++ 10 ∷ []) (fills ∙ (λ i. (names ∙ ap (λ (t : List ℕ). t ++ each.name) heads) i ++ all i)) ∙ simp append_assoc

-- ---- the order of tiles

abbrev IsRising : List ℕ → Type 0
IsRising xs = AllPairs (λ (a b : ℕ). a < b) xs

-- the entries behind the first are above it, and rise
above : (x : ℕ) (xs : List ℕ) → IsRising (x ∷ xs) → (n : ℕ) → is_in xs n ≡ true → x < n
above x [] rising n there = cc
above x (y ∷ xs) rising n there = elim (or_cases (eqb n y) (is_in xs n) there) [
  | inl here ↦ let is = eqb-true n y here in let lt = rising 0 1 0 (omega arith) (omega arith) in omega arith
  | inr later ↦ above x xs (λ i j d lt inside. skip i j d lt inside) n later
] where
  skip : (i j d : ℕ) → i < j → j < length (x ∷ xs) → get_or (x ∷ xs) i d < get_or (x ∷ xs) j d
  skip zero zero d lt inside = absurd (omega arith)
  skip zero (suc j) d lt inside = rising 0 (suc (suc j)) d (omega arith) (omega arith)
  skip (suc i) zero d lt inside = absurd (omega arith)
  skip (suc i) (suc j) d lt inside = rising (suc (suc i)) (suc (suc j)) d (omega arith) (omega arith)

rest_rises : (x : ℕ) (xs : List ℕ) → IsRising (x ∷ xs) → IsRising xs
rest_rises x xs rising i j d lt inside = rising (suc i) (suc j) d (omega arith) (omega arith)

-- what stands in the one list and isn't its first entry stands behind the other's first entry
behind : (x : ℕ) (xs ys : List ℕ) (n : ℕ) → IsRising (x ∷ xs) → (is_in (x ∷ xs) n ≡ true → is_in (x ∷ ys) n ≡ true) → is_in xs n ≡ true → is_in ys n ≡ true
behind x xs ys n rising into there = elim (or_cases (eqb n x) (is_in ys n) (into (or_right (eqb n x) (is_in xs n) there))) [
  | inl here ↦ let is = eqb-true n x here in let lt = above x xs rising n there in absurd (omega arith)
  | inr later ↦ later
]

first_least : (x y : ℕ) (xs ys : List ℕ) → IsRising (y ∷ ys) → (is_in (x ∷ xs) x ≡ true → is_in (y ∷ ys) x ≡ true) → y ≤ x
first_least x y xs ys rising into = elim (or_cases (eqb x y) (is_in ys x) (into (or_left (eqb x x) (is_in xs x) (eq-eqb x x refl)))) [
  | inl here ↦ let is = eqb-true x y here in omega arith
  | inr later ↦ let lt = above y ys rising x later in omega arith
]

-- ascending lists with the same members are one list
one_rising : (xs ys : List ℕ) → IsRising xs → IsRising ys → ((n : ℕ) → (is_in xs n ≡ true) ↔ (is_in ys n ≡ true)) → xs ≡ ys
one_rising [] [] first second same = refl
one_rising [] (y ∷ ys) first second same = let there = (same y).1 (or_left (eqb y y) (is_in ys y) (eq-eqb y y refl)) in absurd cc
one_rising (x ∷ xs) [] first second same = let there = (same x).0 (or_left (eqb x x) (is_in xs x) (eq-eqb x x refl)) in absurd cc
one_rising (x ∷ xs) (y ∷ ys) first second same =
    let low = first_least x y xs ys second (λ h. (same x).0 h) in
    let high = first_least y x ys xs first (λ h. (same y).1 h) in
    let heads : x ≡ y = omega arith in
    let other : IsRising (x ∷ ys) = subst (λ (z : ℕ). IsRising (z ∷ ys)) (sym heads) second in
    let alike : (n : ℕ) → (is_in (x ∷ xs) n ≡ true) ↔ (is_in (x ∷ ys) n ≡ true) = subst (λ (z : ℕ). (n : ℕ) → (is_in (x ∷ xs) n ≡ true) ↔ (is_in (z ∷ ys) n ≡ true)) (sym heads) same in
    let tails = one_rising xs ys (rest_rises x xs first) (rest_rises y ys second) (λ n. (behind x xs ys n first (alike n).0, behind x ys xs n other (alike n).1)) in
    λ i. heads i ∷ tails i

-- a plan's tiles have one order
one_order : (touches : ℕ → List Touch) (tiles : List ℕ) (count : ℕ) (order other : List (List ℕ)) → IsOrderOf touches tiles count order → IsOrderOf touches tiles count other → order ≡ other
one_order touches tiles count order other is is_too =
    same_lists order other (is.each_tile ∙ sym is_too.each_tile) (λ t d lt.
    let there : t < length other = omega (arith, is.each_tile, is_too.each_tile) in
    one_rising (get_or order t d) (get_or other t d) (All-get_or IsRising order t d lt is.ascending) (All-get_or IsRising other t d there is_too.ascending) (λ a. members a t d lt there)) where
      members : (a t : ℕ) (d : List ℕ) → t < length order → t < length other → (is_in (get_or order t d) a ≡ true) ↔ (is_in (get_or other t d) a ≡ true)
      members a t d lt there =
          let both : (is_in (get_or order t []) a ≡ true) ↔ (is_in (get_or other t []) a ≡ true) = (λ h. (is_too.before a t).1 ((is.before a t).0 h), λ h. (is.before a t).1 ((is_too.before a t).0 h)) in
          rw (get_or_default order t d [] lt, get_or_default other t d [] there) both

pub one_plan_text : (touches : List (List Touch)) (shape : Shape) (plan : Planned) (text other : List ℕ) → IsPlanText touches shape plan text → IsPlanText touches shape plan other → text ≡ other
one_plan_text touches shape plan text other (order, is, text_is) (order', is', other_is) =
    text_is ∙ ap (plan_text shape plan) (one_order (touches_at touches) plan.tiles plan.count order order' is is') ∙ sym other_is
