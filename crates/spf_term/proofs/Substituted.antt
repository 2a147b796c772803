-- A term in place of a variable, said of monomials as lists, and its value.
use Rattle.std.proofs.Common.{◌≡◌, ℕ, ℤ, pos, ◌+ℤ◌, ◌*ℤ◌, List, [], ◌∷◌, ◌++◌, Bool, true, false, if◌then◌else◌, map, refl, ap, sym, ◌∙◌, arith}
use Rattle.std.proofs.Math.IntN.{*ℤ-zero, +ℤ_idr}
use Rattle.std.proofs.lemmas.Bool.Decides.{nat_tests}
use Rattle.std.proofs.lemmas.Int.{ints}
use Rattle.spf_term.specs.Environment.{Environment}
use Rattle.spf_term.specs.Normal.{all_added, normal, normal_atom, normal_mono}
use Rattle.spf_term.specs.Substitution.{IsReplaced, is_variable, scaled, substituted, substituted_atom, substituted_constants, substituted_monos}
use Rattle.spf_term.specs.Value.{atom_value, number_at, sum_value, table_at, value}
use Rattle.spf_term.specs.declared.term.Atom.{Atom, Var, Param, App}
use Rattle.spf_term.specs.declared.term.Mono.{Mono}
use Rattle.spf_term.specs.declared.term.Term.{Term, Term', out-Term, Row_of-Mono, end_of-Mono, more_of-Mono, items-the_row-Mono, items_shown-the_row-Mono-0}
use Rattle.spf_term.proofs.Monos.{value_is}
use Rattle.spf_term.proofs.NormalForms.{normal_term_is}
use Rattle.spf_term.proofs.Weights.{grouped, spread_right, weighed, weighed_append}
use Rattle.spf_term.proofs.Wides.{out_constant, out_monos, sum_of}

pub scaled_weighed : (weight : Atom → ℤ) (factor : ℤ) (monos : List Mono) → weighed weight (scaled factor monos) ≡ factor *ℤ weighed weight monos
scaled_weighed weight factor [] = sym (*ℤ-zero factor)
scaled_weighed weight factor (mono ∷ monos) =
    (λ i. grouped factor mono.coef (weight mono.atom) i +ℤ scaled_weighed weight factor monos i) ∙ sym (spread_right factor (mono.coef *ℤ weight mono.atom) (weighed weight monos))

abbrev pub normal_product : ℤ → Mono → Mono
normal_product factor mono = record { coef = factor *ℤ mono.coef; atom = normal_atom mono.atom }

pub products_are : (factor : ℤ) (monos : List Mono) → map (normal_product factor) monos ≡ map normal_mono (scaled factor monos)
products_are factor [] = refl
products_are factor (mono ∷ monos) = ap (λ more. normal_product factor mono ∷ more) (products_are factor monos)

module _ (var : ℕ) (by : Term) where
  -- what comes in place of a monomial
  abbrev pub part : Mono → List Mono
  part mono = if is_variable var mono.atom then scaled mono.coef (out-Term by).monos else record { coef = mono.coef; atom = substituted_atom var by mono.atom } ∷ []

  abbrev pub constant_of : Mono → ℤ
  constant_of mono = if is_variable var mono.atom then mono.coef *ℤ (out-Term by).constant else pos 0

  abbrev pub parts : List Mono → List Mono
  parts [] = []
  parts (mono ∷ monos) = part mono ++ parts monos

  abbrev pub constants : List Mono → ℤ
  constants [] = pos 0
  constants (mono ∷ monos) = constant_of mono +ℤ constants monos

  row_parts : {n : _} (row : Row_of-Mono n) → substituted_monos var by row ≡ parts (items-the_row-Mono n row)
  row_parts end_of-Mono = refl
  row_parts (more_of-Mono coef atom others) = ap (λ more. part (record { coef = coef; atom = atom }) ++ more) (row_parts others)

  row_constants : {n : _} (row : Row_of-Mono n) → substituted_constants var by row ≡ constants (items-the_row-Mono n row)
  row_constants end_of-Mono = refl
  row_constants (more_of-Mono coef atom others) = ap (λ (more : ℤ). constant_of (record { coef = coef; atom = atom }) +ℤ more) (row_constants others)

  pub substituted_is : (term : Term) → substituted var by term ≡ sum_of (parts (out-Term term).monos) ((out-Term term).constant +ℤ constants (out-Term term).monos)
  unfolding out-Term denote.Hole.Carrier.out
  substituted_is (Term' shape monos constant) =
      λ i. sum_of ((row_parts monos ∙ ap parts (sym (items_shown-the_row-Mono-0 shape monos))) i) (constant +ℤ (row_constants monos ∙ ap constants (sym (items_shown-the_row-Mono-0 shape monos))) i)

  pub normal_substituted_is : (term : Term) → normal (substituted var by term) ≡ sum_of (all_added (map normal_mono (parts (out-Term term).monos))) ((out-Term term).constant +ℤ constants (out-Term term).monos)
  normal_substituted_is term =
      let monos = (out-Term term).monos in
      let constant = (out-Term term).constant +ℤ constants monos in
      ap normal (substituted_is term) ∙ normal_term_is (sum_of (parts monos) constant) ∙ (λ i. sum_of (all_added (map normal_mono (out_monos (parts monos) constant i))) (out_constant (parts monos) constant i))

  -- ---- the value

  module _ (env : Environment) (before after : List ℤ) (replaced : IsReplaced var (value env before by) before after) where
    abbrev old : Atom → ℤ
    old = atom_value env before

    variable_value : (atom : Atom) → is_variable var atom ≡ true → atom_value env after atom ≡ value env before by
    variable_value (Var number) is = let same : number ≡ var = grind (arith, nat_tests) in ap (λ n. number_at after (pos n)) same ∙ replaced.new
    variable_value (Param number) is = cc
    variable_value (App fun arg) is = cc

    part_value : (test : Bool) (coef : ℤ) (atom : Atom) → is_variable var atom ≡ test → (is_variable var atom ≡ false → old (substituted_atom var by atom) ≡ atom_value env after atom)
        → weighed old (if test then scaled coef (out-Term by).monos else record { coef = coef; atom = substituted_atom var by atom } ∷ []) +ℤ (if test then coef *ℤ (out-Term by).constant else pos 0) ≡ coef *ℤ atom_value env after atom
    part_value true coef atom is kept =
        ap (λ (sum : ℤ). sum +ℤ (coef *ℤ (out-Term by).constant)) (scaled_weighed old coef (out-Term by).monos) ∙ sym (spread_right coef (weighed old (out-Term by).monos) (out-Term by).constant)
        ∙ ap (λ (number : ℤ). coef *ℤ number) (sym (value_is env before by) ∙ sym (variable_value atom is))
    part_value false coef atom is kept = +ℤ_idr ((coef *ℤ old (substituted_atom var by atom)) +ℤ pos 0) ∙ +ℤ_idr (coef *ℤ old (substituted_atom var by atom)) ∙ ap (λ (number : ℤ). coef *ℤ number) (kept is)

    regrouped : (a b c d x y : ℤ) → a +ℤ c ≡ x → b +ℤ d ≡ y → (a +ℤ b) +ℤ (c +ℤ d) ≡ x +ℤ y
    regrouped a b c d x y first second = omega (arith, ints)

    with_constant : (sum constant more total : ℤ) → sum +ℤ more ≡ total → sum +ℤ (constant +ℤ more) ≡ total +ℤ constant
    with_constant sum constant more total is = omega (arith, ints)

    mutual
      atom_kept : (atom : Atom) → is_variable var atom ≡ false → old (substituted_atom var by atom) ≡ atom_value env after atom
      atom_kept (Var number) is = sym (replaced.others number is)
      atom_kept (Param number) is = refl
      atom_kept (App fun arg) is = ap (number_at (table_at env fun)) (substituted_value arg)

      row_kept : {n : _} (row : Row_of-Mono n) → weighed old (substituted_monos var by row) +ℤ substituted_constants var by row ≡ sum_value env after row
      row_kept end_of-Mono = refl
      row_kept (more_of-Mono coef atom others) =
          ap (λ (sum : ℤ). sum +ℤ substituted_constants var by (more_of-Mono coef atom others)) (weighed_append old (part (record { coef = coef; atom = atom })) (substituted_monos var by others))
          ∙ regrouped (weighed old (part (record { coef = coef; atom = atom }))) (weighed old (substituted_monos var by others)) (constant_of (record { coef = coef; atom = atom })) (substituted_constants var by others) _ _
          (part_value (is_variable var atom) coef atom refl (atom_kept atom)) (row_kept others)

      pub substituted_value : (term : Term) → value env before (substituted var by term) ≡ value env after term
      substituted_value (Term' shape monos constant) =
          let whole = constant +ℤ substituted_constants var by monos in
          value_is env before (sum_of (substituted_monos var by monos) whole)
          ∙ (λ i. weighed old (out_monos (substituted_monos var by monos) whole i) +ℤ out_constant (substituted_monos var by monos) whole i)
          ∙ with_constant (weighed old (substituted_monos var by monos)) constant (substituted_constants var by monos) (sum_value env after monos) (row_kept monos)
