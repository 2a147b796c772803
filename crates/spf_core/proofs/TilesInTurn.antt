-- The tiles in ascending order.
use Rattle.std.proofs.Common.{◌≡◌, ℕ, zero, suc, ◌+◌, ◌<◌, ◌≤◌, ℤ, true, [], ◌∷◌, ◌++◌, length, inl, inr, refl, sym, ap, ◌∙◌, subst, arith, eqb, add-one, zero-add}
use Rattle.std.proofs.lemmas.Bool.{cases_eq, eq-eqb, eqb-true, false_from_ne_true, or_cases, or_left, or_right}
use Rattle.std.proofs.lemmas.List.{append-nil, map-id}
use Rattle.std.proofs.lemmas.List.FromFn.{map-range_with_len_more}
use Rattle.std.specs.List.{range_with_len}
use Rattle.spf_touch.specs.Frame.{Behavior, FrameLaw, after_units}
use Rattle.spf_touch.specs.Ordered.{IsLegalOrder, is_in}
use Rattle.spf_touch.proofs.Orders.{reordered, units-append}
use Rattle.spf_core.specs.History.{is_before}
use Rattle.spf_core.specs.SoundJob.{IsSound}
use Rattle.spf_core.specs.Tiling.{Tiling, list_of, units_of}
use Rattle.spf_core.proofs.Induction.{all_units}
use Rattle.spf_core.proofs.Unordered.{legal_more, units_of-append}

pub range_more : (a n : ℕ) → range_with_len a (n + 1) ≡ range_with_len a n ++ (a + n) ∷ []
range_more a n = sym (map-id (range_with_len a (n + 1))) ∙ map-range_with_len_more (λ x. x) a n (a + n) refl ∙ ap (λ l. l ++ (a + n) ∷ []) (map-id (range_with_len a n))

pub in_range : (a n t : ℕ) → a ≤ t → t < a + n → is_in (range_with_len a n) t ≡ true
in_range a zero t low high = absurd (omega arith)
in_range a (suc n) t low high = elim (cases_eq t a) [
  | inl here ↦ or_left (eqb t a) (is_in (range_with_len (a + 1) n) t) (eq-eqb t a here)
  | inr other ↦ or_right (eqb t a) (is_in (range_with_len (a + 1) n) t) (in_range (a + 1) n t (omega arith) (omega arith))
]

range_below : (a n t : ℕ) → is_in (range_with_len a n) t ≡ true → t < a + n
range_below a zero t h = cc
range_below a (suc n) t h = elim (or_cases (eqb t a) (is_in (range_with_len (a + 1) n) t) h) [
  | inl here ↦ let e = eqb-true t a here in omega arith
  | inr later ↦ let b = range_below (a + 1) n t later in omega arith
]

module _ (units : Behavior) (law : FrameLaw units) (job : Tiling) (sound : IsSound units job) where
  legal_tiles : (n : ℕ) → n ≤ length job.lists → IsLegalOrder units (units_of job (range_with_len 0 n))
  legal_tiles zero h = tt
  legal_tiles (suc n) h =
      let longer : range_with_len 0 (suc n) ≡ range_with_len 0 n ++ (0 + n) ∷ [] = rw add-one at (range_more 0 n) in
      subst (λ ts. IsLegalOrder units (units_of job ts)) (sym longer) (legal_more units job sound (range_with_len 0 n) (0 + n) (omega arith) (legal_tiles n (omega arith)) (λ s k.
      let below = range_below 0 n s k in
      (λ same. omega arith, false_from_ne_true (is_before job.order (0 + n) s) (λ b. let up = sound.upward (0 + n) s b in omega arith))))

  pub serial_result : (values : ℕ → ℤ) → after_units units (units_of job (range_with_len 0 (length job.lists))) values ≡ after_units units (range_with_len 0 units.count) values
  serial_result values =
      reordered units law (units_of job (range_with_len 0 (length job.lists))) values (legal_tiles (length job.lists) (omega arith)) ∙
      ap (λ us. after_units units us values) (all_units units law job sound (range_with_len 0 (length job.lists)) (λ t b. in_range 0 (length job.lists) t (omega arith) (omega arith)))

-- a loop over the tiles, one step on
pub serial_more : (units : Behavior) (job : Tiling) (n : ℕ) (before after start : ℕ → ℤ) → after ≡ after_units units (list_of job n) before →
    before ≡ after_units units (units_of job (range_with_len 0 n)) start → after ≡ after_units units (units_of job (range_with_len 0 (n + 1))) start
serial_more units job n before after start step so_far =
    step ∙ ap (after_units units (list_of job n)) so_far ∙ sym (units-append units (units_of job (range_with_len 0 n)) (list_of job n) start) ∙
    ap (λ us. after_units units us start) (ap (λ l. units_of job (range_with_len 0 n) ++ l) (sym (append-nil (list_of job n))) ∙ sym (units_of-append job (range_with_len 0 n) (n ∷ [])) ∙
    ap (units_of job) (sym (rw zero-add at (range_more 0 n))))
