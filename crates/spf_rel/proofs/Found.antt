-- One output after another: what a loop finds, and what the terms that are found mean.
use Rattle.std.proofs.Common.{◌≡◌, inl, inr, ℕ, zero, suc, ◌+◌, ◌<◌, ◌≤◌, ℤ, pos, List, [], ◌∷◌, ◌++◌, Bool, true, false, if◌then◌else◌, Option, None, Some, Result, Ok, Err, length, get_or, map, refl, ap, sym, ◌∙◌, subst, arith, length-append}
use Rattle.std.proofs.Math.ListN.{get_or-append}
use Rattle.std.proofs.Math.Seq.{get_or-append_seam}
use Rattle.std.proofs.lemmas.Bool.{cases_lt}
use Rattle.std.proofs.lemmas.List.{ext_get_or, get_or-append-add, get_or-map, get_or_append_left, length-map}
use Rattle.std.proofs.lemmas.List.Elements.{All-append, All-cons, All-map, All-nil}
use Rattle.std.specs.List.{All, list_any}
use Rattle.spf_term.specs.Environment.{Environment}
use Rattle.spf_term.specs.Normal.{IsNormal, normal}
use Rattle.spf_term.specs.NumberRule.{excess}
use Rattle.spf_term.specs.Solution.{IsReady, Solves}
use Rattle.spf_term.specs.Substitution.{IsReplaced, substituted}
use Rattle.spf_term.specs.Value.{number_at, value}
use Rattle.spf_term.specs.declared.fault.TermFault.{TermFault}
use Rattle.spf_term.specs.declared.fault.TermFault.TheVariants.{Wide, Memory}
use Rattle.spf_term.specs.declared.solutions.Solution.{Solution}
use Rattle.spf_term.specs.declared.term.Term.{Term}
use Rattle.spf_rel.specs.Elimination.{AreReady, put}
use Rattle.spf_rel.specs.Function.{IsReadyPartly, IsTestedPartly, Tells, assigned, begun, find_on, outputs_found, partly_excess}
use Rattle.spf_rel.specs.Simplified.{Choice, choice, tested}
use Rattle.spf_rel.specs.declared.partly.Partly.{Partly}
use Rattle.spf_rel.specs.declared.relation.Conj.{Conj}
use Rattle.spf_rel.proofs.Eliminated.{Chosen, all_others, chosen, mapped, past_test, that_one}
use Rattle.spf_rel.proofs.Laws.{Laws}
use Rattle.spf_rel.proofs.Pairs.{all_first, all_second}
use Rattle.spf_rel.proofs.Together.{all_keep}

-- ---- one step

abbrev Keeps : Term → Type 0
Keeps term = excess term ≡ None

module _ (normal_is : (term : Term) → IsNormal (normal term)) (found : Choice) (partly : Partly) (ready : IsReady found.found) (none : partly_excess (assigned found partly) ≡ None) where
  abbrev next : Partly
  next = assigned found partly

  all : All Keeps (next.equal ++ (next.least ++ next.results))
  all = all_keep (next.equal ++ (next.least ++ next.results)) none

  rest : All Keeps (next.least ++ next.results)
  rest = all_second Keeps next.equal (next.least ++ next.results) all

  normal_put : (terms : List Term) → All IsNormal (map (put found.found) terms)
  normal_put terms = All-map IsNormal (put found.found) terms (λ k d inside. normal_is (substituted found.found.var found.found.by (get_or terms k d)))

  pub next_ready : IsReadyPartly next
  next_ready = record {
    equal = λ k d inside. (normal_put found.others k d inside, all_first Keeps next.equal (next.least ++ next.results) all k d inside);
    least = λ k d inside. (normal_put partly.least k d inside, all_first Keeps next.least next.results rest k d inside);
    results = λ k d inside. (
      All-append IsNormal (map (put found.found) partly.results) (found.found.by ∷ []) (normal_put partly.results) (All-cons IsNormal found.found.by [] ready.normal (All-nil IsNormal)) k d inside,
      all_second Keeps next.least next.results rest k d inside,
    );
  }

-- where the state of the loop is, and what is left to do
pub record Finding (ins outs left output : ℕ) (given : Conj) (current : Partly) : Type 0 where
  pub same : outputs_found left output current ≡ outputs_found outs ins (begun given)
  pub count : length current.results + left ≡ outs
  pub ready : IsReadyPartly current

module _ (ins outs left output : ℕ) (given : Conj) (current : Partly) (h : Finding ins outs left output given current) where
  pub all_found : left ≡ 0 → outputs_found outs ins (begun given) ≡ Ok (Some current.results)
  all_found none = sym h.same ∙ ap (λ of. outputs_found of output current) none

  module _ (fewer : ℕ) (more : left ≡ suc fewer) where
    at_next : outputs_found outs ins (begun given) ≡ find_on current (choice output (output + 1) [] current.equal) (outputs_found fewer (output + 1))
    at_next = sym h.same ∙ ap (λ of. outputs_found of output current) more

    pub none_found : choice output (output + 1) [] current.equal ≡ None → outputs_found outs ins (begun given) ≡ Ok None
    none_found none = at_next ∙ ap (λ found. find_on current found (outputs_found fewer (output + 1))) none

    module _ (found : Choice) (some : choice output (output + 1) [] current.equal ≡ Some found) where
      at_found : outputs_found outs ins (begun given) ≡ tested (partly_excess (assigned found current)) (outputs_found fewer (output + 1) (assigned found current))
      at_found = at_next ∙ ap (λ of. find_on current of (outputs_found fewer (output + 1))) some

      pub gone_on : ((term : Term) → IsNormal (normal term)) → IsReady found.found → (made : Partly) → IsTestedPartly (assigned found current) (Ok made) → Finding ins outs fewer (output + 1) given made
      gone_on normal_is ready made is =
          let long = length-append (map (put found.found) current.results) (found.found.by ∷ []) in
          let same = length-map current.results (put found.found) in
          let count = h.count in
          subst (Finding ins outs fewer (output + 1) given) (sym is.0) (record {
            same = sym (at_found ∙ ap (λ test. tested test (outputs_found fewer (output + 1) (assigned found current))) is.1);
            count = omega (arith, long, same, count, more);
            ready = next_ready normal_is found current ready is.1;
          })

      pub stopped : (fault : TermFault) → IsTestedPartly (assigned found current) (Err fault) → Tells (outputs_found outs ins (begun given)) (Err fault)
      stopped (Wide number) is = at_found ∙ ap (λ test. tested test (outputs_found fewer (output + 1) (assigned found current))) is
      stopped Memory is = tt

-- ---- what is found

-- something that each step keeps
module _ (Q : ℕ → Partly → Type 0) (step : (output : ℕ) (partly : Partly) (found : Choice) → choice output (output + 1) [] partly.equal ≡ Some found → Q output partly → Q (output + 1) (assigned found partly)) where
  -- the end of all steps
  pub record End (terms : List Term) (output : ℕ) : Type 0 where
    pub partly : Partly
    pub results : partly.results ≡ terms
    pub keeps : Q output partly

  end_by : (output fewer : ℕ) (partly : Partly) (terms : List Term) (found : Option Choice) → choice output (output + 1) [] partly.equal ≡ found → Q output partly
      → ((next : Partly) → Q (output + 1) next → outputs_found fewer (output + 1) next ≡ Ok (Some terms) → End terms (output + 1 + fewer)) → find_on partly found (outputs_found fewer (output + 1)) ≡ Ok (Some terms) → End terms (output + 1 + fewer)
  end_by output fewer partly terms None at keeps further is = cc
  end_by output fewer partly terms (Some found) at keeps further is =
      further (assigned found partly) (step output partly found at keeps) (past_test (partly_excess (assigned found partly)) (outputs_found fewer (output + 1) (assigned found partly)) (Some terms) is)

  pub end_of : (left output : ℕ) (partly : Partly) (terms : List Term) → Q output partly → outputs_found left output partly ≡ Ok (Some terms) → End terms (output + left)
  end_of zero output partly terms keeps is =
      let same : partly.results ≡ terms = cc in
      let all : output ≡ output + 0 = omega arith in
      subst (End terms) all (record { partly = partly; results = same; keeps = keeps })
  end_of (suc fewer) output partly terms keeps is =
      let all : output + 1 + fewer ≡ output + suc fewer = omega arith in
      subst (End terms) all (end_by output fewer partly terms (choice output (output + 1) [] partly.equal) refl keeps (λ next. end_of fewer (output + 1) next terms) is)

-- with these numbers for the variables, the equalities hold, and each result has the number of its output
module _ (laws : Laws) (env : Environment) (variables : List ℤ) (first : ℕ) where
  abbrev IsZero : Term → Type 0
  IsZero term = value env variables term ≡ pos 0

  pub record Agrees (output : ℕ) (partly : Partly) : Type 0 where
    pub equal : All IsZero partly.equal
    pub count : first + length partly.results ≡ output
    pub results : (k : ℕ) (d : Term) → k < length partly.results → value env variables (get_or partly.results k d) ≡ number_at variables (pos (first + k))

  module _ (output : ℕ) (partly : Partly) (found : Choice) (some : choice output (output + 1) [] partly.equal ≡ Some found) (h : Agrees output partly) where
    abbrev var : ℕ
    var = found.found.var

    abbrev by : Term
    by = found.found.by

    c : Chosen output (output + 1) partly.equal found
    c = chosen output (output + 1) partly.equal found some

    told : Solves output (output + 1) c.term found.found
    told = laws.solves output (output + 1) c.term found.found c.found

    all_zero : All IsZero (c.before ++ c.term ∷ c.after)
    all_zero = subst (All IsZero) c.are h.equal

    same : number_at variables (pos var) ≡ value env variables by
    same = (told.zero env variables).0 (that_one IsZero c.before c.term c.after all_zero)

    kept : (term : Term) → value env variables (put found.found term) ≡ value env variables term
    kept term = laws.normal env variables (substituted var by term) ∙ laws.substituted env variables variables var by term (record { new = same; others = λ other apart. refl })

    abbrev earlier : List Term
    earlier = map (put found.found) partly.results

    count_is : length (earlier ++ by ∷ []) ≡ length partly.results + 1
    count_is =
        let long = length-append earlier (by ∷ []) in
        let same_long = length-map partly.results (put found.found) in
        omega (arith, long, same_long)

    results_are : (k : ℕ) (d : Term) → k < length (earlier ++ by ∷ []) → value env variables (get_or (earlier ++ by ∷ []) k d) ≡ number_at variables (pos (first + k))
    results_are k d inside =
        let same_long = length-map partly.results (put found.found) in
        let count = h.count in
        elim (cases_lt k (length partly.results)) [
          | inl before ↦
              let at : get_or (earlier ++ by ∷ []) k d ≡ put found.found (get_or partly.results k d) =
              get_or-append earlier (by ∷ []) d k (omega (arith, same_long, before)) ∙ get_or-map (put found.found) partly.results k d d before in
              ap (value env variables) at ∙ kept (get_or partly.results k d) ∙ h.results k d before
          | inr past ↦
              let last : length earlier ≡ k = omega (arith, same_long, past, inside, count_is) in
              let from = told.from in
              let below = told.below in
              let is : var ≡ first + k = omega (arith, from, below, last, same_long, count) in
              ap (λ (of : ℕ). value env variables (get_or (earlier ++ by ∷ []) of d)) (sym last) ∙ ap (value env variables) (get_or-append_seam earlier by [] d) ∙ sym same ∙ ap (λ (of : ℕ). number_at variables (pos of)) is
        ]

    pub agrees_next : Agrees (output + 1) (assigned found partly)
    agrees_next = record {
      equal = mapped (put found.found) IsZero IsZero found.others (λ term is. kept term ∙ is) (subst (All IsZero) (sym c.others) (all_others IsZero c.before c.term c.after all_zero));
      count = let count = h.count in omega (arith, count, count_is);
      results = results_are;
    }

  pub agrees_begun : (conj : Conj) → All IsZero conj.equal → Agrees first (begun conj)
  agrees_begun conj equal = record { equal = equal; count = omega arith; results = λ k d inside. absurd (omega (arith, inside)) }
