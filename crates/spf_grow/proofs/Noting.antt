-- One more number in the greatest ones.
use Rattle.std.proofs.Common.{◌≡◌, ℕ, ◌+◌, ◌<◌, ◌≤◌, false, List, length, get_or, set, All, inl, inr, refl, sym, arith}
use Rattle.std.proofs.lemmas.Bool.{cases_eq, cases_lt}
use Rattle.std.proofs.lemmas.List.{get_or-set_other, get_or-set_same, length-set}
use Rattle.spf_touch.specs.Conflict.{is_shared}
use Rattle.spf_touch.specs.declared.class.Class.{Class}
use Rattle.spf_touch.specs.declared.class.Class.TheVariants.{Read, Write, Add}
use Rattle.spf_touch.specs.declared.touch.Touch.{Touch}
use Rattle.spf_grow.specs.Bounds.{IsNoted, against_of, extreme_of, extremes_at, nothing, with_number}
use Rattle.spf_grow.specs.declared.extremes.Extremes.{Extremes}

pub against_above : (x : Extremes) (c d : Class) → is_shared c d ≡ false → extreme_of x c ≤ against_of x d
against_above x Read Read h = cc
against_above x Read Write h = omega arith
against_above x Read Add h = omega arith
against_above x Write Read h = omega arith
against_above x Write Write h = omega arith
against_above x Write Add h = omega arith
against_above x Add Read h = omega arith
against_above x Add Write h = omega arith
against_above x Add Add h = cc

pub against_least : (x : Extremes) (d : Class) (n : ℕ) → ((c : Class) → is_shared c d ≡ false → extreme_of x c ≤ n) → against_of x d ≤ n
against_least x Read n h = omega (arith, h Write refl, h Add refl)
against_least x Write n h = omega (arith, h Read refl, h Write refl, h Add refl)
against_least x Add n h = omega (arith, h Read refl, h Write refl)

with_kept : (x : Extremes) (c d : Class) (n : ℕ) → extreme_of x d ≤ extreme_of (with_number x c n) d
with_kept x Read Read n = omega arith
with_kept x Read Write n = omega arith
with_kept x Read Add n = omega arith
with_kept x Write Read n = omega arith
with_kept x Write Write n = omega arith
with_kept x Write Add n = omega arith
with_kept x Add Read n = omega arith
with_kept x Add Write n = omega arith
with_kept x Add Add n = omega arith

with_reached : (x : Extremes) (c : Class) (n : ℕ) → n ≤ extreme_of (with_number x c n) c
with_reached x Read n = omega arith
with_reached x Write n = omega arith
with_reached x Add n = omega arith

with_least : (x : Extremes) (c d : Class) (n y : ℕ) → extreme_of x d ≤ y → (c ≡ d → n ≤ y) → extreme_of (with_number x c n) d ≤ y
with_least x Read Read n y low h = omega (arith, h refl)
with_least x Read Write n y low h = low
with_least x Read Add n y low h = low
with_least x Write Read n y low h = low
with_least x Write Write n y low h = omega (arith, h refl)
with_least x Write Add n y low h = low
with_least x Add Read n y low h = low
with_least x Add Write n y low h = low
with_least x Add Add n y low h = omega (arith, h refl)

-- the numbers with those of the first touches
pub record IsNotedTo (before : List Extremes) (touches : List Touch) (end n : ℕ) (after : List Extremes) : Type 0 where
  pub len : length after ≡ length before
  pub kept : (e : ℕ) (c : Class) → extreme_of (extremes_at before e) c ≤ extreme_of (extremes_at after e) c
  pub reached : (k : ℕ) (d : Touch) → k < end → k < length touches → n ≤ extreme_of (extremes_at after (get_or touches k d).element) (get_or touches k d).class
  pub least : (e : ℕ) (c : Class) (x : ℕ) → extreme_of (extremes_at before e) c ≤ x → All (λ (t : Touch). t.element ≡ e → t.class ≡ c → n ≤ x) touches →
      extreme_of (extremes_at after e) c ≤ x

module _ (before now : List Extremes) (touches : List Touch) (k n : ℕ) where
  pub noted_none : now ≡ before → IsNotedTo before touches 0 n now
  noted_none same = rw same (record {
    len = refl;
    kept = λ e c. omega arith;
    reached = λ j d low inside. absurd (omega arith);
    least = λ e c x low h. low;
  })

  module _ (t : Touch) (is : (d : Touch) → get_or touches k d ≡ t) (there : k < length touches) (inside : t.element < length now) where
    abbrev next : List Extremes
    next = set now t.element (with_number (extremes_at now t.element) t.class n)

    here : (e : ℕ) → e ≡ t.element → extremes_at next e ≡ with_number (extremes_at now t.element) t.class n
    here e same = rw same (get_or-set_same now t.element _ nothing inside)

    elsewhere : (e : ℕ) → (e ≡ t.element → ⊥) → extremes_at next e ≡ extremes_at now e
    elsewhere e other = get_or-set_other now t.element e _ nothing other

    step_kept : (e : ℕ) (c : Class) → extreme_of (extremes_at now e) c ≤ extreme_of (extremes_at next e) c
    step_kept e c = elim (cases_eq e t.element) [
      | inl same ↦ rw (here e same) (rw same (with_kept (extremes_at now t.element) t.class c n))
      | inr other ↦ rw (elsewhere e other) (omega arith)
    ]

    step_least : (e : ℕ) (c : Class) (x : ℕ) → extreme_of (extremes_at now e) c ≤ x → (t.element ≡ e → t.class ≡ c → n ≤ x) → extreme_of (extremes_at next e) c ≤ x
    step_least e c x low h = elim (cases_eq e t.element) [
      | inl same ↦ rw (here e same) (with_least (extremes_at now t.element) t.class c n x (rw same at low) (h (sym same)))
      | inr other ↦ rw (elsewhere e other) low
    ]

    pub noted_more : IsNotedTo before touches k n now → IsNotedTo before touches (k + 1) n next
    noted_more old = record {
      len = rw length-set old.len;
      kept = λ e c. omega (arith, old.kept e c, step_kept e c);
      reached = λ j d low in'. elim (cases_lt j k) [
        | inl less ↦ omega (arith, old.reached j d less in', step_kept (get_or touches j d).element (get_or touches j d).class)
        | inr more ↦
            let same : j ≡ k = omega arith in
            rw (same, is d, here t.element refl) (with_reached (extremes_at now t.element) t.class n)
      ];
      least = λ e c x low h. step_least e c x (old.least e c x low h) (rw (is t) at (h k t there));
    }

  pub noted_all : length touches ≤ k → IsNotedTo before touches k n now → IsNoted before touches n now
  noted_all past to = record { kept = to.kept; reached = λ j d in'. to.reached j d (omega arith) in'; least = to.least }
