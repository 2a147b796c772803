-- A list of touches and one more access.
use Rattle.std.proofs.Common.{◌≡◌, ℕ, zero, suc, ◌+◌, ◌<◌, ◌≤◌, List, [], ◌∷◌, ◌++◌, length, get_or, set, inl, inr, refl, sym, ◌∙◌, ap, arith, eqb}
use Rattle.std.proofs.lemmas.Bool.{cases_Bool, eq-eqb, ne_eqb}
use Rattle.std.proofs.lemmas.List.{get_or_read}
use Rattle.spf_touch.specs.Copy.{together}
use Rattle.spf_touch.specs.Noted.{noted, noted_all}
use Rattle.spf_touch.specs.declared.class.Class.{Class}
use Rattle.spf_touch.specs.declared.touch.Touch.{Touch}

-- no touch in front of i is of the element
abbrev pub NotBefore : List Touch → ℕ → ℕ → Type 0
NotBefore ts i e = (k : ℕ) (d : Touch) → k < i → (get_or ts k d).element ≡ e → ⊥

pub noted_at : (ts : List Touch) (i e : ℕ) (c : Class) (d : Touch) → i < length ts → NotBefore ts i e → (get_or ts i d).element ≡ e →
    noted ts e c ≡ set ts i (record { element = e; class = together (get_or ts i d).class c })
noted_at [] i e c d inside not at = absurd (omega arith)
noted_at (t ∷ ts) zero e c d inside not at = rw (eq-eqb t.element e at) refl
noted_at (t ∷ ts) (suc i) e c d inside not at =
    rw (ne_eqb t.element e (not 0 t (omega arith))) (ap (λ l. t ∷ l) (noted_at ts i e c d (omega arith) (λ k d' h. not (suc k) d' (omega arith)) at))

pub noted_new : (ts : List Touch) (e : ℕ) (c : Class) → NotBefore ts (length ts) e → noted ts e c ≡ ts ++ record { element = e; class = c } ∷ []
noted_new [] e c not = refl
noted_new (t ∷ ts) e c not = rw (ne_eqb t.element e (not 0 t (omega arith))) (ap (λ l. t ∷ l) (noted_new ts e c (λ k d h. not (suc k) d (omega arith))))

pub length_noted : (ts : List Touch) (e : ℕ) (c : Class) → length (noted ts e c) ≤ length ts + 1
length_noted [] e c = omega arith
length_noted (t ∷ ts) e c = elim (cases_Bool (eqb t.element e)) [
  | inl here ↦ rw here (omega arith)
  | inr other ↦ rw other (let h = length_noted ts e c in omega arith)
]

pub length_all : (ts : List Touch) (accesses : List (ℕ × Class)) → length (noted_all ts accesses) ≤ length ts + length accesses
length_all ts [] = omega arith
length_all ts ((e, c) ∷ accesses) = let h = length_noted ts e c in let k = length_all (noted ts e c) accesses in omega arith

-- what the code writes at a touch that it found
pub noted_hit : (now ts : List Touch) (i e : ℕ) (c j : Class) (x y : Touch) → now ≡ ts → NotBefore ts i e → i < length ts →
    x.element ≡ e → x ≡ get_or now i x → y ≡ get_or now i y → j ≡ together y.class c → set now i (record { element = e; class = j }) ≡ noted ts e c
noted_hit now ts i e c j x y same not inside here at at' class =
    let y_is : y ≡ get_or ts i y = rw same at at' in
    let x_is : x ≡ get_or ts i y = get_or_read ts i x inside (rw same at at) y in
    rw (same, class) (ap (λ t. set ts i (record { element = e; class = together t.class c })) y_is ∙ sym (noted_at ts i e c y inside not (ap (λ t. t.element) (sym x_is) ∙ here)))
