-- The terms that a simplified relation gives for its outputs.
use Rattle.std.proofs.Common.{◌≡◌, inl, inr, ℕ, ◌+◌, ◌<◌, ◌≤◌, ℤ, pos, ◌+ℤ◌, ◌*ℤ◌, List, [], ◌∷◌, ◌++◌, Bool, true, false, if◌then◌else◌, Option, None, Some, Result, Ok, Err, length, get_or, map, refl, ap, sym, ◌∙◌, subst, arith, length-append}
use Rattle.std.proofs.lemmas.List.{ext_get_or, get_or-append-add, get_or-map, get_or_append_left, length-map}
use Rattle.std.proofs.lemmas.List.Elements.{All-head}
use Rattle.std.specs.List.{All, Contains, list_any}
use Rattle.spf_term.specs.Environment.{Environment}
use Rattle.spf_term.specs.Value.{atom_value, number_at, sum_value, table_at, value}
use Rattle.spf_term.specs.declared.term.Atom.{Atom, Var, Param, App}
use Rattle.spf_term.specs.declared.term.Term.{Term, Term', roll-Term, Row_of-Mono, end_of-Mono, more_of-Mono}
use Rattle.spf_rel.specs.Function.{GiveOutputs, HasOutcome, begun, function_of_one, mentions_from, only_inputs, outputs_found, single}
use Rattle.spf_rel.specs.Meaning.{Holds, IsFormedRel}
use Rattle.spf_rel.specs.Renumbering.{AtomVariables, SumVariables, Variables}
use Rattle.spf_rel.specs.declared.relation.Conj.{Conj}
use Rattle.spf_rel.specs.declared.relation.Rel.{Rel}
use Rattle.spf_rel.proofs.Found.{Agrees, End, agrees_begun, agrees_next, end_of}
use Rattle.spf_rel.proofs.Mentioning.{all_below}
use Rattle.spf_rel.proofs.Laws.{Laws}
use Rattle.spf_rel.proofs.Pairs.{cases, none}
use Rattle.spf_rel.proofs.Settled.{none_of}
use Rattle.spf_rel.proofs.Simplifying.{simplification_kept}

-- where variables that a term mentions have the same numbers, it has the same value
module _ (env : Environment) (old new : List ℤ) (P : ℕ → Type 0) (same : (number : ℕ) → P number → number_at new (pos number) ≡ number_at old (pos number)) where
  mutual
    atom_alike : (atom : Atom) → AtomVariables P atom → atom_value env new atom ≡ atom_value env old atom
    atom_alike (Var number) h = same number h
    atom_alike (Param number) h = refl
    atom_alike (App fun arg) h = ap (number_at (table_at env fun)) (value_alike arg h)

    row_alike : {n : _} (row : Row_of-Mono n) → SumVariables P row → sum_value env new row ≡ sum_value env old row
    row_alike end_of-Mono h = refl
    row_alike (more_of-Mono coef atom others) h = λ i. (coef *ℤ atom_alike atom h.0 i) +ℤ row_alike others h.1 i

    value_alike : (term : Term) → Variables P term → value env new term ≡ value env old term
    value_alike (Term' shape monos constant) h = ap (λ (sum : ℤ). sum +ℤ constant) (row_alike monos h)

-- ---- the tests behind the last output

-- terms that are given were found, and mention inputs alone
pub record Given (ins outs : ℕ) (conj : Conj) (terms : List Term) : Type 0 where
  pub found : outputs_found outs ins (begun conj) ≡ Ok (Some terms)
  pub none : list_any (mentions_from ins) terms ≡ false

abbrev unless : Bool → List Term → Result (Option (List Term)) ℤ
unless test made = if test then Ok None else Ok (Some made)

module _ (ins outs : ℕ) (conj : Conj) (terms : List Term) where
  given_if : (test : Bool) (made : List Term) → list_any (mentions_from ins) made ≡ test → outputs_found outs ins (begun conj) ≡ Ok (Some made) → unless test made ≡ Ok (Some terms) → Given ins outs conj terms
  given_if true made at found is = cc
  given_if false made at found is = let same : made ≡ terms = cc in subst (Given ins outs conj) same (record { found = found; none = at })

  given_by : (found : Result (Option (List Term)) ℤ) → outputs_found outs ins (begun conj) ≡ found → only_inputs ins found ≡ Ok (Some terms) → Given ins outs conj terms
  given_by (Ok (Some made)) at is = given_if (list_any (mentions_from ins) made) made refl at is
  given_by (Ok None) at is = cc
  given_by (Err number) at is = cc

  pub given : function_of_one ins outs (Some conj) ≡ Ok (Some terms) → Given ins outs conj terms
  given is = given_by (outputs_found outs ins (begun conj)) refl is

  pub inputs_alone : Given ins outs conj terms → All (Variables (λ number. number < ins)) terms
  inputs_alone h = λ k d inside. all_below ins (get_or terms k d) (none_of (mentions_from ins) terms h.none k d inside)

-- ---- what they mean

module _ (laws : Laws) (env : Environment) (input output inner : List ℤ) (conj : Conj) (terms : List Term) (h : Given (length input) (length output) conj terms) (holds : Holds env ((input ++ output) ++ inner) conj) where
  abbrev variables : List ℤ
  variables = (input ++ output) ++ inner

  abbrev any : Term
  any = roll-Term (record { monos = []; constant = pos 0 })

  end : End (Agrees laws env variables (length input)) (agrees_next laws env variables (length input)) terms (length input + length output)
  end = end_of (Agrees laws env variables (length input)) (agrees_next laws env variables (length input)) (length output) (length input) (begun conj) terms (agrees_begun laws env variables (length input) conj holds.equal) h.found

  count : length terms ≡ length output
  count = let all = end.keeps.count in let same = ap length end.results in omega (arith, all, same)

  at_input : (number : ℕ) → number < length input → number_at variables (pos number) ≡ number_at input (pos number)
  at_input number inside =
      let long = length-append input output in
      get_or_append_left (input ++ output) inner (pos 0) number (omega (arith, long, inside)) ∙ get_or_append_left input output (pos 0) number inside

  at_output : (k : ℕ) → k < length output → number_at variables (pos (length input + k)) ≡ get_or output k (pos 0)
  at_output k inside =
      let long = length-append input output in
      get_or_append_left (input ++ output) inner (pos 0) (length input + k) (omega (arith, long, inside)) ∙ get_or-append-add input output k (pos 0)

  one : (k : ℕ) → k < length output → get_or output k (pos 0) ≡ get_or (map (value env input) terms) k (pos 0)
  one k inside =
      let here : k < length terms = omega (arith, inside, count) in
      let there : k < length end.partly.results = let same = ap length end.results in omega (arith, here, same) in
      sym (at_output k inside) ∙ sym (end.keeps.results k any there) ∙ ap (λ (of : List Term). value env variables (get_or of k any)) end.results
      ∙ value_alike env input variables (λ number. number < length input) at_input (get_or terms k any) (inputs_alone (length input) (length output) conj terms h k any here)
      ∙ sym (get_or-map (value env input) terms k any (pos 0) here)

  pub outputs_are : output ≡ map (value env input) terms
  outputs_are = ext_get_or (pos 0) output (map (value env input) terms) (let same = length-map terms (value env input) in omega (arith, same, count)) one

-- ---- a relation that is simplified

single_is : (conjs : List Conj) (conj : Conj) → single conjs ≡ Some conj → conjs ≡ conj ∷ []
single_is [] conj is = cc
single_is (first ∷ []) conj is = let same : first ≡ conj = cc in ap (λ (of : Conj). of ∷ []) same
single_is (first ∷ (other ∷ more)) conj is = cc

-- what holds of all conjunctions holds of the only one
pub of_single : (P : Conj → Type 0) (conjs : List Conj) (conj : Conj) → single conjs ≡ Some conj → All P conjs → P conj
of_single P conjs conj is h = All-head P conj [] (subst (All P) (single_is conjs conj is) h)

module _ (laws : Laws) (r : Rel) (formed : IsFormedRel r) (terms : List Term) (h : HasOutcome r (Ok (Some terms))) where
  gives_by : (one : Option Conj) → single h.simplified ≡ one → function_of_one r.ins r.outs one ≡ Ok (Some terms) → GiveOutputs r (Some terms)
  gives_by None at is = λ env input output related. cc
  gives_by (Some conj) at is = λ env input output related.
      let count = length-append input output in
      let ins = related.ins in
      let outs = related.outs in
      let kept = simplification_kept laws (r.ins + r.outs) r.conjs h.simplified formed h.is in
      let some = (kept.alike env (input ++ output) (omega (arith, count, ins, outs))).0 related.meets in
      let same : some.conj ≡ conj = elim (cases conj some.conj [] (subst (λ conjs. Contains conjs some.conj) (single_is h.simplified conj at) some.there)) [
        | inl here ↦ here
        | inr later ↦ none some.conj later
      ] in
      let told : Given (length input) (length output) conj terms =
      subst (λ n. Given n (length output) conj terms) (sym ins) (subst (λ n. Given r.ins n conj terms) (sym outs) (given r.ins r.outs conj terms is)) in
      outputs_are laws env input output some.meets.inner conj terms told (subst (Holds env ((input ++ output) ++ some.meets.inner)) same some.meets.holds)

  -- the terms have the numbers of the outputs
  pub outcome_gives : GiveOutputs r (Some terms)
  outcome_gives = gives_by (single h.simplified) refl h.outcome
