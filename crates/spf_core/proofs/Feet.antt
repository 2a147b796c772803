-- A loop over a foot, one step on.
use Rattle.std.proofs.Common.{◌≡◌, ℕ, zero, suc, ◌+◌, ◌<◌, ℤ, pos, Option, Some, None, List, [], ◌∷◌, ◌++◌, take, length, get_or, set, inl, inr, refl, sym, ap, ◌∙◌, arith, eqb}
use Rattle.std.proofs.lemmas.Bool.{cases_Bool, cases_eq, eq-eqb, ne_eqb}
use Rattle.std.proofs.lemmas.List.{get_or-set_other, get_or-set_same, get_or-take, get_or_default, length-take-le, take_more}
use Rattle.std.specs.List.{AllPairs}
use Rattle.spf_touch.specs.Blend.{blend}
use Rattle.spf_touch.specs.Copy.{copy_at, value_or_0}
use Rattle.spf_touch.specs.Frame.{IsTouched, blend_at, class_at}
use Rattle.spf_core.specs.Copies.{value_in}
use Rattle.spf_core.specs.Replay.{values_of}
use Rattle.spf_touch.specs.declared.touch.Touch.{Touch}

absent : (ts : List Touch) (e : ℕ) → ((k : ℕ) (d : Touch) → k < length ts → (get_or ts k d).element ≡ e → ⊥) → class_at ts e ≡ None
absent [] e h = refl
absent (t ∷ ts) e h = rw (ne_eqb t.element e (h 0 t (omega arith))) (absent ts e (λ k d inside. h (suc k) d (omega arith)))

class_at-push_new : (ts : List Touch) (t : Touch) → class_at ts t.element ≡ None → class_at (ts ++ t ∷ []) t.element ≡ Some t.class
class_at-push_new [] t h = rw (eq-eqb t.element t.element refl) refl
class_at-push_new (s ∷ ts) t h = elim (cases_Bool (eqb s.element t.element)) [
  | inl here ↦ let never : Some s.class ≡ None = rw here at h in cc
  | inr other ↦ rw other (class_at-push_new ts t (rw other at h))
]

class_at-push_other : (ts : List Touch) (t : Touch) (e : ℕ) → (t.element ≡ e → ⊥) → class_at (ts ++ t ∷ []) e ≡ class_at ts e
class_at-push_other [] t e n = rw (ne_eqb t.element e n) refl
class_at-push_other (s ∷ ts) t e n = elim (cases_Bool (eqb s.element e)) [
  | inl here ↦ rw here refl
  | inr other ↦ rw other (class_at-push_other ts t e n)
]

-- the element of a touch of the foot is touched
pub class_read : (ts : List Touch) (i : ℕ) (d : Touch) → i < length ts → IsTouched ts (get_or ts i d).element
class_read [] i d h = absurd (omega arith)
class_read (t ∷ ts) zero d h = rw (eq-eqb t.element t.element refl) refl
class_read (t ∷ ts) (suc i) d h = elim (cases_Bool (eqb t.element (get_or ts i d).element)) [
  | inl here ↦ rw here refl
  | inr other ↦ rw other (class_read ts i d (omega arith))
]

abbrev Rising : List Touch → Type 0
Rising foot = AllPairs (λ a b. a.element < b.element) foot

module _ (foot : List Touch) (rising : Rising foot) (i : ℕ) (d : Touch) (inside : i < length foot) where
  -- no touch in front of i is of its element
  new_element : class_at (take i foot) (get_or foot i d).element ≡ None
  new_element = absent (take i foot) (get_or foot i d).element (λ k d' h same.
      let at : k < i = let l : length (take i foot) ≡ i = length-take-le i foot (omega arith) in omega arith in
      let below : (get_or foot k d).element < (get_or foot i d).element = rising k i d at inside in
      let one : (get_or (take i foot) k d') ≡ get_or foot k d = get_or-take i foot k d' at ∙ get_or_default foot k d' d (omega arith) in
      let same' : (get_or foot k d).element ≡ (get_or foot i d).element = ap (λ t. t.element) (sym one) ∙ same in
      omega arith)

  class_now : class_at (take (i + 1) foot) (get_or foot i d).element ≡ Some (get_or foot i d).class
  class_now = ap (λ l. class_at l (get_or foot i d).element) (take_more foot i d inside) ∙ class_at-push_new (take i foot) (get_or foot i d) new_element

  class_other : (e : ℕ) → ((get_or foot i d).element ≡ e → ⊥) → class_at (take (i + 1) foot) e ≡ class_at (take i foot) e
  class_other e n = ap (λ l. class_at l e) (take_more foot i d inside) ∙ class_at-push_other (take i foot) (get_or foot i d) e n

  pub copy_more : (cells : List ℤ) (old new : List (Option ℤ)) (v : ℤ) → (get_or foot i d).element < length old → new ≡ set old (get_or foot i d).element (Some v) →
      Some v ≡ copy_at (Some (get_or foot i d).class) (values_of cells (get_or foot i d).element) →
      ((e : ℕ) → value_in old e ≡ copy_at (class_at (take i foot) e) (values_of cells e)) →
      (e : ℕ) → value_in new e ≡ copy_at (class_at (take (i + 1) foot) e) (values_of cells e)
  copy_more cells old new v room set v_is inv e = elim (cases_eq e (get_or foot i d).element) [
    | inl here ↦ rw (set, here, class_now) (get_or-set_same old (get_or foot i d).element (Some v) None room ∙ v_is)
    | inr other ↦ rw (set, class_other e (λ same. other (sym same))) (get_or-set_other old (get_or foot i d).element e (Some v) None other ∙ inv e)
  ]

  pub merge_more : (start cells new : List ℤ) (copied : List (Option ℤ)) (v : ℤ) → (get_or foot i d).element < length cells → new ≡ set cells (get_or foot i d).element v →
      v ≡ blend (get_or foot i d).class (values_of cells (get_or foot i d).element) (value_or_0 (value_in copied (get_or foot i d).element)) →
      ((e : ℕ) → values_of cells e ≡ blend_at (class_at (take i foot) e) (values_of start e) (value_or_0 (value_in copied e))) →
      (e : ℕ) → values_of new e ≡ blend_at (class_at (take (i + 1) foot) e) (values_of start e) (value_or_0 (value_in copied e))
  merge_more start cells new copied v room set v_is inv e = elim (cases_eq e (get_or foot i d).element) [
    | inl here ↦
        let kept : values_of cells (get_or foot i d).element ≡ values_of start (get_or foot i d).element =
        inv (get_or foot i d).element ∙ ap (λ c. blend_at c (values_of start (get_or foot i d).element) (value_or_0 (value_in copied (get_or foot i d).element))) new_element in
        rw (set, here, class_now) (get_or-set_same cells (get_or foot i d).element v (pos 0) room ∙ v_is ∙
        ap (λ old. blend (get_or foot i d).class old (value_or_0 (value_in copied (get_or foot i d).element))) kept)
    | inr other ↦ rw (set, class_other e (λ same. other (sym same))) (get_or-set_other cells (get_or foot i d).element e v (pos 0) other ∙ inv e)
  ]
