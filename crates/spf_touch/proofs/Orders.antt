-- Any legal order of units does what their ascending order does.
use Rattle.std.proofs.Common.{◌≡◌, ℕ, zero, suc, ◌+◌, ◌<◌, ◌≤◌, ℤ, Bool, true, false, ◌||◌, List, [], ◌∷◌, ◌++◌, drop, length, get_or, inl, inr, refl, sym, ap, ◌∙◌, cond, eqb, ltb, arith}
use Rattle.std.proofs.lemmas.Bool.{and_parts, cases_Bool, cases_order, eq-eqb, lt-ltb, le-ltb, ltb-true, ne_eqb, or_cases, or_from, false_from_ne_true}
use Rattle.std.proofs.lemmas.List.{at_drop_more}
use Rattle.std.specs.List.{filter, range_with_len}
use mathlib.Core.Path.{fun_ext}
use Rattle.spf_touch.specs.Conflict.{Conflict}
use Rattle.spf_touch.specs.Frame.{Behavior, FrameLaw, after_unit, after_units}
use Rattle.spf_touch.specs.Ordered.{IsLegalOrder, ascending, is_in}
use Rattle.spf_touch.proofs.Members.{in_append, in_filter, in_head, in_tail}
use Rattle.spf_touch.proofs.Classes.{conflict_turned}
use Rattle.spf_touch.proofs.Swaps.{swapped}

-- u put in front of the first number that isn't below it
put_in : ℕ → List ℕ → List ℕ
put_in u [] = u ∷ []
put_in u (v ∷ vs) = cond (ltb v u) (v ∷ put_in u vs) (u ∷ v ∷ vs)

abbrev FreeBelow : Behavior → ℕ → List ℕ → Type 0
FreeBelow units u vs = (v : ℕ) → is_in vs v ≡ true → v < u →
    (v < units.count) × (Conflict (units.touches u) (units.touches v) → ⊥) × (Conflict (units.touches v) (units.touches u) → ⊥)

-- a unit that conflicts with no lesser one of the list may run where put_in puts it
put_in_late : (units : Behavior) → FrameLaw units → (u : ℕ) (vs : List ℕ) (values : ℕ → ℤ) → u < units.count → FreeBelow units u vs →
    after_units units (put_in u vs) values ≡ after_units units vs (after_unit units u values)
unfolding put_in
put_in_late units law u [] values b free = refl
put_in_late units law u (v ∷ vs) values b free = elim (cases_Bool (ltb v u)) [
  | inl below ↦
      let at = free v (in_head v vs) (ltb-true v u below) in
      rw below (put_in_late units law u vs (after_unit units v values) b (λ w k. free w (in_tail v vs w k)) ∙
      ap (after_units units vs) (swapped units law v u values at.0 b at.2 at.1))
  | inr above ↦ rw above refl
]

-- in a list of numbers above u, u is put in front
put_in_front : (p : ℕ → Bool) (u a n : ℕ) → u < a → put_in u (filter p (range_with_len a n)) ≡ u ∷ filter p (range_with_len a n)
unfolding put_in
put_in_front p u a zero h = refl
put_in_front p u a (suc n) h = elim (cases_Bool (p a)) [
  | inl keep ↦ rw (keep, le-ltb a u (omega arith)) refl
  | inr leave ↦ rw leave (put_in_front p u (a + 1) n (omega arith))
]

-- above u it makes no difference whether u is kept
filter_above : (p : ℕ → Bool) (u a n : ℕ) → u < a → filter (λ v. eqb v u || p v) (range_with_len a n) ≡ filter p (range_with_len a n)
filter_above p u a zero h = refl
filter_above p u a (suc n) h = rw (ne_eqb a u (omega arith)) (ap (λ rest. cond (p a) (a ∷ rest) rest) (filter_above p u (a + 1) n (omega arith)))

put_in_range : (p : ℕ → Bool) (u a n : ℕ) → p u ≡ false → a ≤ u → u < a + n →
    put_in u (filter p (range_with_len a n)) ≡ filter (λ v. eqb v u || p v) (range_with_len a n)
unfolding put_in
put_in_range p u a zero out low high = absurd (omega arith)
put_in_range p u a (suc n) out low high = elim (cases_order a u) [
  | inl here ↦ rw (here, out, eq-eqb u u refl) (put_in_front p u (u + 1) n (omega arith) ∙ ap (λ rest. u ∷ rest) (sym (filter_above p u (u + 1) n (omega arith))))
  | inr (inl below) ↦
      let rest = put_in_range p u (a + 1) n out (omega arith) (omega arith) in
      elim (cases_Bool (p a)) [
        | inl keep ↦ rw (keep, lt-ltb a u below, ne_eqb a u (omega arith)) (ap (λ l. a ∷ l) rest)
        | inr not ↦ rw (not, ne_eqb a u (omega arith)) rest
      ]
  | inr (inr above) ↦ absurd (omega arith)
]

filter_none : (a n : ℕ) → filter (is_in []) (range_with_len a n) ≡ []
filter_none a zero = refl
filter_none a (suc n) = filter_none (a + 1) n

free_below : (units : Behavior) (u : ℕ) (us : List ℕ) → IsLegalOrder units (u ∷ us) → FreeBelow units u (ascending units.count us)
free_below units u us legal v k below =
    let there = (and_parts _ _ (sym (in_filter (is_in us) (range_with_len 0 units.count) v) ∙ k)).0 in
    let b : u < units.count = legal.0 in (
      omega arith,
      λ clash. let above = legal.2 v there clash in omega arith,
      λ clash. let above = legal.2 v there (conflict_turned _ _ clash) in omega arith,
    )

-- any legal order of units does what their ascending order does
pub reordered : (units : Behavior) → FrameLaw units → (us : List ℕ) (values : ℕ → ℤ) → IsLegalOrder units us →
    after_units units us values ≡ after_units units (ascending units.count us) values
reordered units law [] values legal = rw (filter_none 0 units.count) refl
reordered units law (u ∷ us) values legal =
    let b : u < 0 + units.count = let l : u < units.count = legal.0 in omega arith in
    reordered units law us (after_unit units u values) legal.3 ∙
    sym (put_in_late units law u (ascending units.count us) values legal.0 (free_below units u us legal)) ∙
    ap (λ l. after_units units l values) (put_in_range (is_in us) u 0 units.count legal.1 (omega arith) b)

pub units-append : (units : Behavior) (us vs : List ℕ) (values : ℕ → ℤ) → after_units units (us ++ vs) values ≡ after_units units vs (after_units units us values)
units-append units [] vs values = refl
units-append units (u ∷ us) vs values = units-append units us vs (after_unit units u values)

-- two legal orders, of different units, of which those of the first may stand in front
pub legal_append : (units : Behavior) (us vs : List ℕ) → IsLegalOrder units us → IsLegalOrder units vs →
    ((u v : ℕ) → is_in us u ≡ true → is_in vs v ≡ true → (u ≡ v → ⊥) × (Conflict (units.touches u) (units.touches v) → u < v)) →
    IsLegalOrder units (us ++ vs)
legal_append units [] vs p q apart = q
legal_append units (u ∷ us) vs p q apart = (
  p.0,
  in_append us vs u ∙ or_from (is_in us u) (is_in vs u) p.1 (false_from_ne_true (is_in vs u) (λ k. (apart u u (in_head u us) k).0 refl)),
  λ v k clash. elim (or_cases (is_in us v) (is_in vs v) (sym (in_append us vs v) ∙ k)) [
    | inl first ↦ p.2 v first clash
    | inr second ↦ (apart u v (in_head u us) second).1 clash
  ],
  legal_append units us vs p.3 q (λ w v i j. apart w v (in_tail u us w i) j),
)

filter_all : (p : ℕ → Bool) (a n : ℕ) → ((v : ℕ) → a ≤ v → v < a + n → p v ≡ true) → filter p (range_with_len a n) ≡ range_with_len a n
filter_all p a zero all = refl
filter_all p a (suc n) all = rw (all a (omega arith) (omega arith)) (ap (λ l. a ∷ l) (filter_all p (a + 1) n (λ v low high. all v (omega arith) (omega arith))))

-- where every unit stands in the list, the ascending order is that of all units
pub ascending_all : (count : ℕ) (us : List ℕ) → ((u : ℕ) → u < count → is_in us u ≡ true) → ascending count us ≡ range_with_len 0 count
ascending_all count us all = filter_all (is_in us) 0 count (λ u low high. all u (omega arith))

-- one unit more of those that are left to run
pub run_more : (units : Behavior) (us : List ℕ) (i d : ℕ) (before after all : ℕ → ℤ) → i < length us →
    ((e : ℕ) → after e ≡ after_unit units (get_or us i d) before e) → after_units units (drop i us) before ≡ all → after_units units (drop (i + 1) us) after ≡ all
run_more units us i d before after all inside step rest =
    ap (after_units units (drop (i + 1) us)) (fun_ext step) ∙ sym (at_drop_more (λ l. after_units units l before) us i d inside) ∙ rest
