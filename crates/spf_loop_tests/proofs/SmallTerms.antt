-- The terms of the tests are small.
use Rattle.std.proofs.Common.{◌≡◌, ℕ, ◌<◌, ◌≤◌, ◌+◌, ◌^◌, ℤ, pos, ◌+ℤ◌, ◌*ℤ◌, List, [], ◌∷◌, ◌++◌, lit<, refl, ap, sym, ◌∙◌, subst, arith, FitsSigned, w64}
use Rattle.std.specs.List.{All}
use Rattle.std.proofs.lemmas.Int.{ints}
use Rattle.std.proofs.lemmas.List.Elements.{All-append, All-cons}
use Rattle.spf_term.specs.declared.term.Atom.{App}
use Rattle.spf_term.specs.declared.term.Mono.{Mono}
use Rattle.spf_term.specs.declared.term.Term.{Term, out-roll-Term}
use Rattle.spf_term.specs.Environment.{Environment}
use Rattle.spf_term.specs.Value.{Entry, HasSmallPlace, IsSmall, applications, value, entries, number_at, table_at}
use Rattle.spf_term.proofs.Monos.{list_applications, applications_are, list_value, value_is, list_entries, entries_are}
use Rattle.spf_loop_tests.specs.Terms.{sum_of, reading, nested, pair, pair_monos, small_env}

abbrev AreSmall : List Entry → Type 0
AreSmall = All HasSmallPlace

no_entries : AreSmall []
no_entries k d inside = omega arith

one_entry : (entry : Entry) → HasSmallPlace entry → AreSmall (entry ∷ [])
one_entry entry small = All-cons HasSmallPlace entry [] small no_entries

applications_of : (monos : List Mono) (constant : ℤ) → applications (sum_of monos constant) ≡ list_applications monos
applications_of monos constant = applications_are (sum_of monos constant) ∙ ap (λ term. list_applications term.monos) (out-roll-Term (record { monos = monos; constant = constant }))

value_of : (monos : List Mono) (constant : ℤ) → value small_env [] (sum_of monos constant) ≡ list_value small_env [] monos +ℤ constant
value_of monos constant = value_is small_env [] (sum_of monos constant) ∙ ap (λ term. list_value small_env [] term.monos +ℤ term.constant) (out-roll-Term (record { monos = monos; constant = constant }))

entries_of : (site : ℕ) (monos : List Mono) (constant : ℤ) → entries small_env [] site (sum_of monos constant) ≡ list_entries small_env [] site monos
entries_of site monos constant = entries_are small_env [] site (sum_of monos constant) ∙ ap (λ term. list_entries small_env [] site term.monos) (out-roll-Term (record { monos = monos; constant = constant }))

small_by : {some more : List Entry} → some ≡ more → AreSmall more → AreSmall some
small_by same small = subst (λ (entries : List Entry). AreSmall entries) (sym same) small

constant_value : (constant : ℤ) → value small_env [] (sum_of [] constant) ≡ constant
constant_value constant = let same : pos 0 +ℤ constant ≡ constant = omega (arith, ints) in value_of [] constant ∙ same

constant_entries : (site : ℕ) (constant : ℤ) → AreSmall (entries small_env [] site (sum_of [] constant))
constant_entries site constant = small_by (entries_of site [] constant) no_entries

-- what a read at an argument gives, and that its places are small
one_value : (coef : ℤ) (fun : ℕ) (arg : Term) (place constant : ℤ) → value small_env [] arg ≡ place
    → value small_env [] (sum_of (record { coef = coef; atom = App fun arg } ∷ []) constant) ≡ ((coef *ℤ number_at (table_at small_env fun) place) +ℤ pos 0) +ℤ constant
one_value coef fun arg place constant is = value_of _ constant ∙ ap (λ (of : ℤ). ((coef *ℤ number_at (table_at small_env fun) of) +ℤ pos 0) +ℤ constant) is

at_entries : (site fun : ℕ) (arg : Term) (place : ℤ) → value small_env [] arg ≡ place → FitsSigned w64 place → AreSmall (entries small_env [] (site + 1) arg)
    → AreSmall (entries small_env [] (site + 1) arg ++ record { site = site; table = fun; place = value small_env [] arg } ∷ [])
at_entries site fun arg place is fits first = All-append HasSmallPlace _ _ first (one_entry _ (subst (FitsSigned w64) (sym is) fits))

one_entries : (site : ℕ) (coef : ℤ) (fun : ℕ) (arg : Term) (place constant : ℤ) → value small_env [] arg ≡ place → FitsSigned w64 place → AreSmall (entries small_env [] (site + 1) arg)
    → AreSmall (entries small_env [] site (sum_of (record { coef = coef; atom = App fun arg } ∷ []) constant))
one_entries site coef fun arg place constant is fits first = small_by (entries_of site _ constant) (All-append HasSmallPlace _ [] (at_entries site fun arg place is fits first) no_entries)

one_application : (coef : ℤ) (fun : ℕ) (arg : Term) (constant : ℤ) → applications (sum_of (record { coef = coef; atom = App fun arg } ∷ []) constant) ≡ applications arg + 1
one_application coef fun arg constant = omega (arith, applications_of (record { coef = coef; atom = App fun arg } ∷ []) constant)

pub small_reading : (coef : ℤ) (fun : ℕ) (place constant : ℤ) → FitsSigned w64 place → FitsSigned w64 (((coef *ℤ number_at (table_at small_env fun) place) +ℤ pos 0) +ℤ constant)
    → IsSmall small_env [] (reading coef fun place constant)
small_reading coef fun place constant inner fits = record {
  value = subst (FitsSigned w64) (sym (one_value coef fun (sum_of [] place) place constant (constant_value place))) fits;
  places = λ site. one_entries site coef fun (sum_of [] place) place constant (constant_value place) inner (constant_entries (site + 1) place);
  few = omega (arith, one_application coef fun (sum_of [] place) constant, applications_of [] place);
}

module _ (place at : ℤ) (inner : FitsSigned w64 place) (outer : FitsSigned w64 at) (is : ((pos 1 *ℤ number_at (table_at small_env 1) place) +ℤ pos 0) +ℤ pos 0 ≡ at) where
  inner_value : value small_env [] (reading (pos 1) 1 place (pos 0)) ≡ at
  inner_value = one_value (pos 1) 1 (sum_of [] place) place (pos 0) (constant_value place) ∙ is

  inner_entries : (site : ℕ) → AreSmall (entries small_env [] site (reading (pos 1) 1 place (pos 0)))
  inner_entries site = one_entries site (pos 1) 1 (sum_of [] place) place (pos 0) (constant_value place) inner (constant_entries (site + 1) place)

  pub small_nested : FitsSigned w64 (((pos 1 *ℤ number_at (table_at small_env 0) at) +ℤ pos 0) +ℤ pos 0) → IsSmall small_env [] (nested place)
  small_nested fits = record {
    value = subst (FitsSigned w64) (sym (one_value (pos 1) 0 _ at (pos 0) inner_value)) fits;
    places = λ site. one_entries site (pos 1) 0 _ at (pos 0) inner_value outer (inner_entries (site + 1));
    few = omega (arith, one_application (pos 1) 0 (reading (pos 1) 1 place (pos 0)) (pos 0), one_application (pos 1) 1 (sum_of [] place) (pos 0), applications_of [] place);
  }

pair_has_three : applications pair ≡ 3
pair_has_three =
    omega (arith, applications_of pair_monos (pos 0), applications_of (record { coef = pos 1; atom = App 1 (sum_of [] (pos 0)) } ∷ []) (pos 0), applications_of [] (pos 0), applications_of [] (pos 3))

pub pair_is_short : applications pair < 2 ^ 32
pair_is_short = omega (arith, pair_has_three)

pub small_pair : IsSmall small_env [] pair
small_pair =
    let first = reading (pos 1) 1 (pos 0) (pos 0) in
    let two : FitsSigned w64 (pos 2) = record { sfits = lit< tt } in
    let zero_fits : FitsSigned w64 (pos 0) = record { sfits = lit< tt } in
    let three : FitsSigned w64 (pos 3) = record { sfits = lit< tt } in
    let thirty : FitsSigned w64 (pos 30) = record { sfits = lit< tt } in
    let inner : value small_env [] first ≡ pos 2 = inner_value (pos 0) (pos 2) zero_fits two refl in
    let outer = constant_value (pos 3) in
    let sum : value small_env [] pair ≡ pos 30 =
    value_of pair_monos (pos 0) ∙ (λ i. ((pos 1 *ℤ number_at (table_at small_env 0) (inner i)) +ℤ ((pos 1 *ℤ number_at (table_at small_env 1) (outer i)) +ℤ pos 0)) +ℤ pos 0) in
    record {
      value = subst (FitsSigned w64) (sym sum) thirty;
      places = λ site. small_by (entries_of site pair_monos (pos 0))
          (All-append HasSmallPlace _ _ (at_entries site 0 first (pos 2) inner two (inner_entries (pos 0) (pos 2) zero_fits two refl (site + 1)))
          (All-append HasSmallPlace _ [] (at_entries (site + (1 + applications first)) 1 (sum_of [] (pos 3)) (pos 3) outer three (constant_entries (site + (1 + applications first) + 1) (pos 3))) no_entries));
      few = omega (arith, pair_has_three);
    }

pub as_is : {env : Environment} {term other : Term} → env ≡ small_env → term ≡ other → IsSmall small_env [] other → IsSmall env [] term
as_is is_env is_term small = rw (is_env, is_term) small
