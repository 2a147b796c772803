-- The monomial for whose variable a term is solved, found from the front.
use Rattle.std.proofs.Common.{◌≡◌, ℕ, ◌+◌, ◌-◌, ◌<◌, ◌≤◌, ◌^◌, ℤ, negsuc, ◌*ℤ◌, List, [], ◌∷◌, ◌++◌, Bool, true, false, if◌then◌else◌, None, Some, length, get_or, take, drop, refl, ap, sym, ◌∙◌, subst, arith, length-drop}
use Rattle.std.proofs.lemmas.List.{drop_all, map-append, take_all, take_more}
use Rattle.std.proofs.lemmas.List.Elements.{All-from_recursion, All-weaker}
use Rattle.std.specs.List.{All}
use Rattle.std.specs.Option.{option_or}
use Rattle.spf_term.specs.Bounded.{IsWithin}
use Rattle.spf_term.specs.NumberRule.{excess}
use Rattle.spf_term.specs.Solution.{IsPlace, can_solve, is_unit, solution, solution_among, solved_at, solved_for, solved_variable, times}
use Rattle.spf_term.specs.Substitution.{scaled}
use Rattle.spf_term.specs.declared.solutions.Pivot.{Pivot}
use Rattle.spf_term.specs.declared.solutions.Solution.{Solution}
use Rattle.spf_term.specs.declared.term.Atom.{Atom, Var, Param, App}
use Rattle.spf_term.specs.declared.term.Mono.{Mono}
use Rattle.spf_term.specs.declared.term.Term.{Term, out-Term}
use Rattle.spf_term.proofs.Monos.{drop_next}
use Rattle.spf_term.proofs.Rule.{IsSmallMono, small_monos}
use Rattle.spf_term.proofs.Wides.{out_constant, out_monos, sum_of}

unit_by : (in_low in_high unit mentioned : Bool) → (if in_low then false else if in_high then (if unit then (if mentioned then false else true) else false) else false) ≡ true → unit ≡ true
unit_by true in_high unit mentioned is = cc
unit_by false true true mentioned is = refl
unit_by false true false mentioned is = cc
unit_by false false unit mentioned is = cc

module _ (low high : ℕ) (constant : ℤ) where
  abbrev made : ℕ → ℤ → List Mono → Solution
  made var coef others = record { var = var; by = times (negsuc 0 *ℤ coef) (sum_of others constant) }

  some_by : (can : Bool) (number var : ℕ) (coef : ℤ) (others : List Mono) → can_solve low high number coef others ≡ can → (if can then Some number else None) ≡ Some var
      → ((if can then Some (made number coef others) else None) ≡ Some (made var coef others)) × (is_unit coef ≡ true)
  some_by true number var coef others at is =
      let same : number ≡ var = cc in
      (ap (λ of. Some (made of coef others)) same, unit_by _ _ (is_unit coef) _ at)
  some_by false number var coef others at is = cc

  solved_some : (coef : ℤ) (atom : Atom) (others : List Mono) (var : ℕ) → solved_variable low high coef atom others ≡ Some var → (solved_at low high constant coef atom others ≡ Some (made var coef others)) × (is_unit coef ≡ true)
  solved_some coef (Var number) others var is = some_by (can_solve low high number coef others) number var coef others refl is
  solved_some coef (Param number) others var is = cc
  solved_some coef (App fun arg) others var is = cc

  none_by : (can : Bool) (number : ℕ) (coef : ℤ) (others : List Mono) → (if can then Some number else None) ≡ None → (if can then Some (made number coef others) else None) ≡ None
  none_by true number coef others is = cc
  none_by false number coef others is = refl

  solved_none : (coef : ℤ) (atom : Atom) (others : List Mono) → solved_variable low high coef atom others ≡ None → solved_at low high constant coef atom others ≡ None
  solved_none coef (Var number) others is = none_by (can_solve low high number coef others) number coef others is
  solved_none coef (Param number) others is = refl
  solved_none coef (App fun arg) others is = refl

-- what is behind a place
pub rest_is : {X : Type 0} (xs : List X) (n : ℕ) → take (length xs - n) (drop n xs) ≡ drop n xs
rest_is {X} xs n = take_all (length xs - n) (drop n xs) (omega (arith, length-drop n xs))

module _ (low high : ℕ) (term : Term) (monos : List Mono) (are : monos ≡ (out-Term term).monos) (place : ℕ) where
  abbrev constant : ℤ
  constant = (out-Term term).constant

  abbrev pub Reached : Type 0
  Reached = solution_among low high constant (take place monos) (drop place monos) ≡ solution low high term

  pub none_left : length monos ≤ place → Reached → solution low high term ≡ None
  none_left past reached = sym reached ∙ ap (solution_among low high constant (take place monos)) (drop_all place monos past)

  module _ (mono : Mono) (inside : place < length monos) (at : mono ≡ get_or monos place mono) where
    abbrev others : List Mono
    others = take place monos ++ take (length monos - (place + 1)) (drop (place + 1) monos)

    split : solution_among low high constant (take place monos) (drop place monos)
        ≡ option_or (solved_at low high constant mono.coef mono.atom others) (solution_among low high constant (take (place + 1) monos) (drop (place + 1) monos))
    split =
        ap (solution_among low high constant (take place monos)) (drop_next monos place mono inside at)
        ∙ (λ i. option_or (solved_at low high constant mono.coef mono.atom (take place monos ++ sym (rest_is monos (place + 1)) i))
        (solution_among low high constant ((ap (λ (last : Mono). take place monos ++ last ∷ []) at ∙ sym (take_more monos place mono inside)) i) (drop (place + 1) monos)))

    pub found_here : (var : ℕ) (coef : ℤ) → coef ≡ mono.coef → solved_variable low high mono.coef mono.atom others ≡ Some var → Reached → IsPlace low high term (record { place = place; var = var; coef = coef })
    found_here var coef same is reached =
        let found = solved_some low high constant mono.coef mono.atom others var is in
        record {
          inside = subst (λ of. place < length of) are inside;
          unit = ap is_unit same ∙ found.1;
          is =
              sym reached ∙ split ∙ ap (λ first. option_or first (solution_among low high constant (take (place + 1) monos) (drop (place + 1) monos))) found.0
              ∙ (λ i. Some (record { var = var; by = times (negsuc 0 *ℤ sym same i) (sum_of (take place (are i) ++ (rest_is monos (place + 1) ∙ ap (drop (place + 1)) are) i) constant) }));
        }

    pub not_here : solved_variable low high mono.coef mono.atom others ≡ None → Reached → solution_among low high constant (take (place + 1) monos) (drop (place + 1) monos) ≡ solution low high term
    not_here is reached =
        sym (split ∙ ap (λ first. option_or first (solution_among low high constant (take (place + 1) monos) (drop (place + 1) monos))) (solved_none low high constant mono.coef mono.atom others is)) ∙ reached

-- ---- what is made

pub all_small : (term : Term) → excess term ≡ None → (monos : List Mono) → monos ≡ (out-Term term).monos → All (λ (mono : Mono). IsWithin (2 ^ 62) mono.coef) monos
all_small term keeps monos are =
    subst (All (λ (mono : Mono). IsWithin (2 ^ 62) mono.coef)) (sym are)
    (All-weaker IsSmallMono (λ (mono : Mono). IsWithin (2 ^ 62) mono.coef) (λ mono h. h.0) (out-Term term).monos (All-from_recursion IsSmallMono (out-Term term).monos (small_monos term keeps)))

pub solved_is : (term : Term) (pivot : Pivot) (monos : List Mono) → monos ≡ (out-Term term).monos → (factor : ℤ) → factor ≡ negsuc 0 *ℤ pivot.coef → (made : List Mono)
    → made ≡ scaled factor (take pivot.place monos) ++ scaled factor (take (length monos - (pivot.place + 1)) (drop (pivot.place + 1) monos)) → (last : ℤ) → last ≡ factor *ℤ (out-Term term).constant
    → sum_of made last ≡ (solved_for term pivot).by
solved_is term pivot monos are factor is made made_is last last_is =
    let others = take pivot.place monos ++ drop (pivot.place + 1) monos in
    let given : List Mono = take pivot.place (out-Term term).monos ++ drop (pivot.place + 1) (out-Term term).monos in
    let same : others ≡ given = λ i. take pivot.place (are i) ++ drop (pivot.place + 1) (are i) in
    let all : made ≡ scaled factor others =
    made_is ∙ (λ i. scaled factor (take pivot.place monos) ++ scaled factor (rest_is monos (pivot.place + 1) i))
    ∙ sym (map-append (λ (mono : Mono). record { coef = factor *ℤ mono.coef; atom = mono.atom }) (take pivot.place monos) (drop (pivot.place + 1) monos)) in
    (λ i. sum_of (all i) (last_is i))
    ∙ (λ i. sum_of (scaled (is i) ((same ∙ sym (out_monos given (out-Term term).constant)) i)) (is i *ℤ sym (out_constant given (out-Term term).constant) i))
