-- What the number rule says of the monomials of a term.
use Rattle.std.proofs.Common.{◌≡◌, ℕ, ◌*◌, ◌-◌, ◌<◌, ◌≤◌, ◌^◌, ℤ, pos, ◌*ℤ◌, List, [], ◌∷◌, Bool, true, false, Option, None, Some, if◌then◌else◌, nat_lt, min, length, refl, ap, sym, ◌∙◌, subst, arith, unsigned_abs}
use Rattle.std.proofs.lemmas.Bool.Decides.{nat_tests}
use Rattle.std.proofs.lemmas.Int.{unsigned_abs-mul}
use Rattle.std.proofs.lemmas.List.Folds.{find-append}
use Rattle.std.proofs.lemmas.Nat.{mul-le}
use Rattle.std.specs.List.{AllByRecursion, find}
use Rattle.std.specs.Option.{option_or}
use Rattle.spf_term.specs.Bounded.{IsWithin, atom_monomials, monomials}
use Rattle.spf_term.specs.NumberRule.{AtomKeepsRule, atom_numbers, excess, is_outside, mono_numbers, numbers}
use Rattle.spf_term.specs.declared.term.Atom.{Atom, Var, Param, App}
use Rattle.spf_term.specs.declared.term.Mono.{Mono}
use Rattle.spf_term.specs.declared.term.Term.{Term, out-Term}
use Rattle.spf_term.proofs.Numbers.{list_monomials, list_numbers, monomials_are, numbers_are}

pub times_within : {a b : ℕ} (x y : ℤ) → IsWithin a x → IsWithin b y → IsWithin (a * b) (x *ℤ y)
times_within x y p q = rw (unsigned_abs-mul x y) (mul-le _ _ _ _ p q)

few_by : (many : Bool) (count : ℕ) (told : Option ℤ) → nat_lt 16384 count ≡ many → (if many then Some (pos (min count (2 ^ 64 - 1))) else told) ≡ None → (count ≤ 16384) × (told ≡ None)
few_by true count told is none = cc
few_by false count told is none = let few : count ≤ 16384 = grind (arith, nat_tests) in (few, none)

pub few_and_small : (term : Term) → excess term ≡ None → (monomials term ≤ 16384) × (find is_outside (numbers term) ≡ None)
few_and_small term none = few_by (nat_lt 16384 (monomials term)) (monomials term) (find is_outside (numbers term)) refl none

keeps_rule : (term : Term) → monomials term ≤ 16384 → find is_outside (numbers term) ≡ None → excess term ≡ None
keeps_rule term few none =
    let is : nat_lt 16384 (monomials term) ≡ false = grind (arith, nat_tests) in
    ap (λ many. if many then Some (pos (min (monomials term) (2 ^ 64 - 1))) else find is_outside (numbers term)) is ∙ none

both_none : (first second : Option ℤ) → option_or first second ≡ None → (first ≡ None) × (second ≡ None)
both_none None second is = (refl, is)
both_none (Some number) second is = cc

first_by : (outside : Bool) (number : ℤ) (rest : Option ℤ) → (if outside then Some number else rest) ≡ None → (outside ≡ false) × (rest ≡ None)
first_by true number rest is = cc
first_by false number rest is = (refl, is)

within : (number : ℤ) → is_outside number ≡ false → IsWithin (2 ^ 62) number
within number is = grind (arith, nat_tests)

atom_keeps : (atom : Atom) → atom_monomials atom ≤ 16384 → find is_outside (atom_numbers atom) ≡ None → AtomKeepsRule atom
atom_keeps (Var number) few none = tt
atom_keeps (Param number) few none = tt
atom_keeps (App fun arg) few none = keeps_rule arg few none

abbrev pub IsSmallMono : Mono → Type 0
IsSmallMono mono = IsWithin (2 ^ 62) mono.coef × AtomKeepsRule mono.atom

abbrev pub AreSmall : List Mono → Type 0
AreSmall monos = AllByRecursion IsSmallMono monos

small_list : (monos : List Mono) (constant : ℤ) → list_monomials monos ≤ 16384 → find is_outside (list_numbers monos constant) ≡ None → AreSmall monos
small_list [] constant few none = tt
small_list (mono ∷ monos) constant few none =
    let split = sym (find-append is_outside (mono_numbers mono) (list_numbers monos constant)) ∙ none in
    let parts = both_none (find is_outside (mono_numbers mono)) (find is_outside (list_numbers monos constant)) split in
    let first = first_by (is_outside mono.coef) mono.coef (find is_outside (atom_numbers mono.atom)) parts.0 in
    ((within mono.coef first.0, atom_keeps mono.atom (omega (arith, few)) first.1), small_list monos constant (omega (arith, few)) parts.1)

last_small : (monos : List Mono) (constant : ℤ) → find is_outside (list_numbers monos constant) ≡ None → IsWithin (2 ^ 62) constant
last_small [] constant none = within constant (first_by (is_outside constant) constant None none).0
last_small (mono ∷ monos) constant none =
    last_small monos constant (both_none (find is_outside (mono_numbers mono)) (find is_outside (list_numbers monos constant)) (sym (find-append is_outside (mono_numbers mono) (list_numbers monos constant)) ∙ none)).1

long_list : (monos : List Mono) → length monos ≤ list_monomials monos
long_list [] = omega arith
long_list (mono ∷ monos) = let more = long_list monos in omega (arith, more)

module _ (term : Term) (none : excess term ≡ None) where
  pub small_monos : AreSmall (out-Term term).monos
  small_monos =
      let both = few_and_small term none in
      small_list (out-Term term).monos (out-Term term).constant (subst (λ count. count ≤ 16384) (monomials_are term) both.0) (ap (find is_outside) (sym (numbers_are term)) ∙ both.1)

  pub small_constant : IsWithin (2 ^ 62) (out-Term term).constant
  small_constant = last_small (out-Term term).monos (out-Term term).constant (ap (find is_outside) (sym (numbers_are term)) ∙ (few_and_small term none).1)

  pub few_monos : length (out-Term term).monos ≤ 16384
  few_monos =
      let both = few_and_small term none in
      let are = monomials_are term in
      let long = long_list (out-Term term).monos in
      omega (arith, both.0, are, long)
