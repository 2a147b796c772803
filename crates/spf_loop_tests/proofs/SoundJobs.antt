-- A test of small jobs: where it computes to true, the job is sound.
use Rattle.std.proofs.Common.{◌≡◌, ℕ, zero, suc, ◌<◌, ◌≤◌, Bool, true, false, ◌&&◌, ◌||◌, not, Option, None, Some, List, [], ◌∷◌, length, get_or, inl, inr, refl, sym, ◌∙◌, arith, eqb, ltb, leb}
use Rattle.std.proofs.lemmas.Bool.{and_parts, cases_eq, cases_lt, eq-eqb, eqb-true, false≢true, leb-true, ltb-true, ne_eqb, not-true, or_cases, or_left, or_right, both_ways}
use Rattle.std.proofs.lemmas.List.{get_or_past}
use Rattle.std.specs.List.{AllPairs}
use Rattle.std.specs.Prelude.{Any}
use Rattle.spf_touch.specs.Conflict.{Clash, Conflict, is_shared}
use Rattle.spf_touch.specs.Copy.{class_of}
use Rattle.spf_touch.specs.Frame.{Behavior, class_at}
use Rattle.spf_touch.specs.Ordered.{IsLegalOrder, is_in}
use Rattle.spf_core.specs.History.{is_before}
use Rattle.spf_core.specs.SoundJob.{IsFoot, IsSound}
use Rattle.spf_core.specs.Tiling.{Tiling, foot_of, list_of, tile_class}
use Rattle.spf_touch.specs.declared.class.Class.{Class}
use Rattle.spf_touch.specs.declared.class.Class.TheVariants.{Read, Write, Add}
use Rattle.spf_touch.specs.declared.touch.Touch.{Touch}

abbrev all_in : (ℕ → Bool) → List ℕ → Bool
all_in p [] = true
all_in p (x ∷ xs) = p x && all_in p xs

all_in_at : (p : ℕ → Bool) (xs : List ℕ) (n : ℕ) → all_in p xs ≡ true → is_in xs n ≡ true → p n ≡ true
all_in_at p [] n h k = cc
all_in_at p (x ∷ xs) n h k =
    let parts = and_parts (p x) (all_in p xs) h in
    elim (or_cases (eqb n x) (is_in xs n) k) [
      | inl here ↦ rw (eqb-true n x here) parts.0
      | inr later ↦ all_in_at p xs n parts.1 later
    ]

abbrev all_below : (ℕ → Bool) → ℕ → Bool
all_below p zero = true
all_below p (suc n) = p n && all_below p n

below_at : (p : ℕ → Bool) (n k : ℕ) → all_below p n ≡ true → k < n → p k ≡ true
below_at p zero k h b = absurd (omega arith)
below_at p (suc n) k h b =
    let parts = and_parts (p n) (all_below p n) h in
    elim (cases_eq k n) [ inl here ↦ rw here parts.0 | inr other ↦ below_at p n k parts.1 (omega arith) ]

abbrev some : (Touch → Bool) → List Touch → Bool
some p [] = false
some p (t ∷ ts) = p t || some p ts

some_found : (P : Touch → Type 0) (p : Touch → Bool) → ((t : Touch) → P t → p t ≡ true) → (ts : List Touch) → Any P ts → some p ts ≡ true
some_found P p h [] (k, x, inside, at, q) = absurd (omega arith)
some_found P p h (t ∷ ts) (zero, x, inside, at, q) = or_left (p t) (some p ts) (rw at (h x q))
some_found P p h (t ∷ ts) (suc k, x, inside, at, q) = or_right (p t) (some p ts) (some_found P p h ts (k, x, omega arith, at, q))

abbrev clash : Touch → Touch → Bool
clash s t = eqb s.element t.element && not (is_shared s.class t.class)

abbrev conflicts : List Touch → List Touch → Bool
conflicts a b = some (λ s. some (clash s) b) a

clash_found : (s t : Touch) → Clash s t → clash s t ≡ true
clash_found s t h = rw (eq-eqb s.element t.element h.0, h.1) refl

conflict_found : (a b : List Touch) → Conflict a b → conflicts a b ≡ true
conflict_found a b h = some_found (λ s. Any (Clash s) b) (λ s. some (clash s) b) (λ s k. some_found (Clash s) (clash s) (clash_found s) b k) a h

-- this holds, or the units don't conflict
abbrev or_free : Behavior → Bool → ℕ → ℕ → Bool
or_free units this u v = this || not (conflicts (units.touches u) (units.touches v))

or_free_at : (units : Behavior) (this : Bool) (u v : ℕ) → or_free units this u v ≡ true → Conflict (units.touches u) (units.touches v) → this ≡ true
or_free_at units this u v h k = elim (or_cases this (not (conflicts (units.touches u) (units.touches v))) h) [
  | inl yes' ↦ yes'
  | inr free ↦ absurd (both_ways _ (not-true _ free) (conflict_found (units.touches u) (units.touches v) k))
]

abbrev fine : Behavior → ℕ → ℕ → Bool
fine units u v = or_free units (ltb u v) u v

abbrev legal_test : Behavior → List ℕ → Bool
legal_test units [] = true
legal_test units (u ∷ us) = (ltb u units.count && not (is_in us u)) && (all_in (fine units u) us && legal_test units us)

legal_from : (units : Behavior) (us : List ℕ) → legal_test units us ≡ true → IsLegalOrder units us
legal_from units [] h = tt
legal_from units (u ∷ us) h =
    let parts = and_parts (ltb u units.count && not (is_in us u)) (all_in (fine units u) us && legal_test units us) h in
    let front = and_parts (ltb u units.count) (not (is_in us u)) parts.0 in
    let rest = and_parts (all_in (fine units u) us) (legal_test units us) parts.1 in
    (ltb-true u units.count front.0, not-true (is_in us u) front.1, λ v k clash'. ltb-true u v (or_free_at units (ltb u v) u v (all_in_at (fine units u) us v rest.0 k) clash'), legal_from units us rest.1)

abbrev all_touches : (Touch → Bool) → List Touch → Bool
all_touches p [] = true
all_touches p (t ∷ ts) = p t && all_touches p ts

touch_at : (p : Touch → Bool) (ts : List Touch) (k : ℕ) (d : Touch) → all_touches p ts ≡ true → k < length ts → p (get_or ts k d) ≡ true
touch_at p [] k d h b = absurd (omega arith)
touch_at p (t ∷ ts) zero d h b = (and_parts (p t) (all_touches p ts) h).0
touch_at p (t ∷ ts) (suc k) d h b = touch_at p ts k d (and_parts (p t) (all_touches p ts) h).1 (omega arith)

abbrev rising_test : List Touch → Bool
rising_test [] = true
rising_test (t ∷ ts) = all_touches (λ s. ltb t.element s.element) ts && rising_test ts

rising_from : (ts : List Touch) → rising_test ts ≡ true → AllPairs (λ a b. a.element < b.element) ts
rising_from [] h i j d below inside = absurd (omega arith)
rising_from (t ∷ ts) h i zero d below inside = absurd (omega arith)
rising_from (t ∷ ts) h zero (suc j) d below inside =
    ltb-true t.element _ (touch_at (λ s. ltb t.element s.element) ts j d (and_parts (all_touches (λ s. ltb t.element s.element) ts) (rising_test ts) h).0 (omega arith))
rising_from (t ∷ ts) h (suc i) (suc j) d below inside = rising_from ts (and_parts (all_touches (λ s. ltb t.element s.element) ts) (rising_test ts) h).1 i j d (omega arith) (omega arith)

abbrev bounded : ℕ → List Touch → Bool
bounded n ts = all_touches (λ t. ltb t.element n) ts

bounded_none : (n : ℕ) (ts : List Touch) (e : ℕ) → bounded n ts ≡ true → n ≤ e → class_at ts e ≡ None
bounded_none n [] e h k = refl
bounded_none n (t ∷ ts) e h k =
    let parts = and_parts (ltb t.element n) (bounded n ts) h in
    let low = ltb-true t.element n parts.0 in
    rw (ne_eqb t.element e (omega arith)) (bounded_none n ts e parts.1 k)

class_none : (touches : ℕ → List Touch) (n : ℕ) (us : List ℕ) (e : ℕ) → all_in (λ u. bounded n (touches u)) us ≡ true → n ≤ e → class_of touches us e ≡ None
class_none touches n [] e h k = refl
class_none touches n (u ∷ us) e h k =
    let parts = and_parts (bounded n (touches u)) (all_in (λ v. bounded n (touches v)) us) h in
    rw (bounded_none n (touches u) e parts.0 k) (class_none touches n us e parts.1 k)

abbrev same_class : Option Class → Option Class → Bool
same_class None None = true
same_class (Some Read) (Some Read) = true
same_class (Some Write) (Some Write) = true
same_class (Some Add) (Some Add) = true
same_class _ _ = false

same_class_at : (c d : Option Class) → same_class c d ≡ true → c ≡ d
same_class_at None None h = refl
same_class_at None (Some d) h = cc
same_class_at (Some Read) None h = cc
same_class_at (Some Write) None h = cc
same_class_at (Some Add) None h = cc
same_class_at (Some Read) (Some Read) h = refl
same_class_at (Some Read) (Some Write) h = cc
same_class_at (Some Read) (Some Add) h = cc
same_class_at (Some Write) (Some Read) h = cc
same_class_at (Some Write) (Some Write) h = refl
same_class_at (Some Write) (Some Add) h = cc
same_class_at (Some Add) (Some Read) h = cc
same_class_at (Some Add) (Some Write) h = cc
same_class_at (Some Add) (Some Add) h = refl

abbrev foot_test : Behavior → Tiling → ℕ → Bool
foot_test units job t =
    (rising_test (foot_of job t) && bounded (length job.cells) (foot_of job t)) &&
    (all_in (λ u. bounded (length job.cells) (units.touches u)) (list_of job t) &&
    all_below (λ e. same_class (class_at (foot_of job t) e) (tile_class units job t e)) (length job.cells))

foot_from : (units : Behavior) (job : Tiling) (t : ℕ) → foot_test units job t ≡ true → IsFoot units job t
foot_from units job t h =
    let parts = and_parts (rising_test (foot_of job t) && bounded (length job.cells) (foot_of job t)) _ h in
    let front = and_parts (rising_test (foot_of job t)) (bounded (length job.cells) (foot_of job t)) parts.0 in
    let rest = and_parts (all_in (λ u. bounded (length job.cells) (units.touches u)) (list_of job t)) _ parts.1 in
    record {
      rising = rising_from (foot_of job t) front.0;
      classes = λ e. elim (cases_lt e (length job.cells)) [
        | inl inside ↦ same_class_at _ _ (below_at _ (length job.cells) e rest.1 inside)
        | inr past ↦ bounded_none (length job.cells) (foot_of job t) e front.1 past ∙ sym (class_none units.touches (length job.cells) (list_of job t) e rest.0 past)
      ];
      places = λ e k. elim (cases_lt e (length job.cells)) [
        | inl inside ↦ inside
        | inr past ↦ let none = bounded_none (length job.cells) (foot_of job t) e front.1 past in cc
      ];
    }

in_tile : (job : Tiling) (s u : ℕ) → is_in (list_of job s) u ≡ true → s < length job.lists
in_tile job s u h = elim (cases_lt s (length job.lists)) [ inl inside ↦ inside | inr past ↦ absurd (false≢true (rw get_or_past at h)) ]

in_order : (order : List (List ℕ)) (a b : ℕ) → is_before order a b ≡ true → b < length order
in_order order a b h = elim (cases_lt b (length order)) [ inl inside ↦ inside | inr past ↦ absurd (false≢true (rw get_or_past at h)) ]

-- the list of u is that of tile home u
abbrev homes : Behavior → Tiling → (ℕ → ℕ) → Bool
homes units job home = all_below (λ u. is_in (list_of job (home u)) u) units.count && all_below (λ s. all_in (λ u. eqb (home u) s) (list_of job s)) (length job.lists)

abbrev sizes : Tiling → Bool
sizes job = (leb 1 (length job.lists) && leb (length job.lists) 1024) && (eqb (length job.order) (length job.lists) && eqb (length job.feet) (length job.lists))

-- of two units in different lists that conflict, the lesser stands in the list that is before the other
abbrev ordered_pair : Behavior → Tiling → ℕ → ℕ → ℕ → ℕ → Bool
ordered_pair units job s t u v = or_free units ((eqb s t || is_before job.order s t) || ltb v u) u v

abbrev ordered_test : Behavior → Tiling → Bool
ordered_test units job = all_below (λ s. all_below (λ t. all_in (λ u. all_in (ordered_pair units job s t u) (list_of job t)) (list_of job s)) (length job.lists)) (length job.lists)

abbrev order_test : List (List ℕ) → Bool
order_test order = all_below (λ b. all_in (λ a. ltb a b && all_in (λ c. is_before order c b) (get_or order a [])) (get_or order b [])) (length order)

pub sound_from : (units : Behavior) (job : Tiling) (home : ℕ → ℕ) → sizes job ≡ true → homes units job home ≡ true →
    all_below (λ t. legal_test units (list_of job t)) (length job.lists) ≡ true → ordered_test units job ≡ true → order_test job.order ≡ true →
    all_below (foot_test units job) (length job.lists) ≡ true → IsSound units job
sound_from units job home size at legal ordered order feet =
    let sizes' = and_parts (leb 1 (length job.lists) && leb (length job.lists) 1024) _ size in
    let tiles = and_parts (leb 1 (length job.lists)) (leb (length job.lists) 1024) sizes'.0 in
    let rows = and_parts (eqb (length job.order) (length job.lists)) (eqb (length job.feet) (length job.lists)) sizes'.1 in
    let homes' = and_parts (all_below (λ u. is_in (list_of job (home u)) u) units.count) _ at in
    let home_is : (s u : ℕ) → is_in (list_of job s) u ≡ true → home u ≡ s = λ s u h.
    eqb-true (home u) s (all_in_at (λ v. eqb (home v) s) (list_of job s) u (below_at (λ r. all_in (λ v. eqb (home v) r) (list_of job r)) (length job.lists) s homes'.1 (in_tile job s u h)) h) in
    let before : (a b : ℕ) → is_before job.order a b ≡ true → (ltb a b && all_in (λ c. is_before job.order c b) (get_or job.order a [])) ≡ true = λ a b h.
    all_in_at (λ x. ltb x b && all_in (λ c. is_before job.order c b) (get_or job.order x [])) (get_or job.order b []) a
    (below_at (λ y. all_in (λ x. ltb x y && all_in (λ c. is_before job.order c y) (get_or job.order x [])) (get_or job.order y [])) (length job.order) b order (in_order job.order a b h)) h in
    record {
      tiles = (leb-true 1 (length job.lists) tiles.0, leb-true (length job.lists) 1024 tiles.1);
      orders = eqb-true _ _ rows.0;
      footings = eqb-true _ _ rows.1;
      somewhere = λ u b. let there = below_at (λ v. is_in (list_of job (home v)) v) units.count u homes'.0 b in (home u, in_tile job (home u) u there, there);
      nowhere_else = λ s t u h k. sym (home_is s u h) ∙ home_is t u k;
      legal = λ t b. legal_from units (list_of job t) (below_at (λ r. legal_test units (list_of job r)) (length job.lists) t legal b);
      ordered = λ s t u v h k apart clash' below.
          let pair = all_in_at (ordered_pair units job s t u) (list_of job t) v
          (all_in_at (λ x. all_in (ordered_pair units job s t x) (list_of job t)) (list_of job s) u
          (below_at (λ y. all_in (λ x. all_in (ordered_pair units job s y x) (list_of job y)) (list_of job s)) (length job.lists) t
          (below_at (λ z. all_below (λ y. all_in (λ x. all_in (ordered_pair units job z y x) (list_of job y)) (list_of job z)) (length job.lists)) (length job.lists) s ordered (in_tile job s u h))
          (in_tile job t v k)) h) k in
          elim (or_cases (eqb s t || is_before job.order s t) (ltb v u) (or_free_at units _ u v pair clash')) [
            | inl front ↦ elim (or_cases (eqb s t) (is_before job.order s t) front) [
              | inl same ↦ absurd (apart (eqb-true s t same))
              | inr yes' ↦ yes'
            ]
            | inr above ↦ let above' = ltb-true v u above in absurd (omega arith)
          ];
      transitive = λ a b c h k. all_in_at (λ x. is_before job.order x c) (get_or job.order b []) a (and_parts (ltb b c) _ (before b c k)).1 h;
      upward = λ a b h. ltb-true a b (and_parts (ltb a b) _ (before a b h)).0;
      feet = λ t b. foot_from units job t (below_at (foot_test units job) (length job.lists) t feet b);
    }
