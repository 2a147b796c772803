-- What the raw literal of a printed conjunction means has the same points, and uses no new name.
use Rattle.std.proofs.Common.{◌≡◌, ◌↔◌, ℕ, ℤ, pos, ◌+ℤ◌, ◌≤ℤ◌, ◌+◌, ◌<◌, ◌^◌, Bool, true, false, List, [], ◌∷◌, ◌++◌, map, flat_map, get_or, All, Option, Some, None, unwrap_or, codes, refl, ap, sym, ◌∙◌, subst, arith}
use Rattle.std.proofs.lemmas.Bool.Decides.{nat_tests}
use Rattle.std.proofs.lemmas.Int.{ints}
use Rattle.std.proofs.lemmas.List.Elements.{All-contains, All-head, All-map, All-tail}
use Rattle.std.proofs.lemmas.List.FromFn.{length-map-range_with_len}
use Rattle.std.specs.List.{AllByRecursion, list_any}
unfoldable use Rattle.spf_base.specs.Wrap.{wrap}
use Rattle.spf_lex.proofs.Leaves.{join_each}
use Rattle.spf_rel.proofs.Pairs.{all_from_map, in_map, of_map}
use Rattle.spf_rel.specs.Meaning.{Meets, MeetsSome}
use Rattle.spf_rel.specs.Renumbering.{Variables}
use Rattle.spf_rel.specs.declared.relation.Conj.{Conj}
use Rattle.spf_reltext.proofs.FreeNames.{Below, are_found, no_repeats, vars}
use Rattle.spf_reltext.proofs.PrintedLiterals.{Constraint, constraints_of, letters, naming_of, raw_constraint, raw_literal, raw_outs}
use Rattle.spf_reltext.proofs.PrintedRaws.{raw_term}
use Rattle.spf_reltext.proofs.SidesPrinted.{amounts_back, constant_short, side_constant_is, side_known, side_monos, side_monos_are, side_named, side_term, sides_weigh}
use Rattle.spf_reltext.proofs.TermsMeant.{AreKept, IsKept, constant_is, monos_mean, names_kept, none_bracketed, term_kept, turn, turned, turned_not, wrap_short}
use Rattle.spf_reltext.specs.Facts.{constraint_facts, constraints_facts, ix_facts}
use Rattle.spf_reltext.specs.Names.{fact_names, literal_names, names_of}
use Rattle.spf_reltext.specs.Printed.{Naming, amount, numbered, variable_text}
use Rattle.spf_reltext.specs.Resolved.{conj_of, constant_between, constant_of, difference, equal_terms, ix_monos, least_terms}
use Rattle.spf_reltext.specs.RoundTrip.{HasFreeNames, IsNamed}
use Rattle.spf_reltext.specs.Rules.{breaks_names, differ, names_break, same_shape, shape_of, variables}
use Rattle.spf_reltext.specs.declared.fact.Fact.{Fact}
use Rattle.spf_reltext.specs.declared.names.RelNames.{RelNames}
use Rattle.spf_reltext.specs.declared.print_sides.Side.{Side}
use Rattle.spf_reltext.specs.declared.print_sides.Side.TheVariants.{Left, Right}
use Rattle.spf_reltext.specs.declared.raw.RawConstraint.{RawConstraint}
use Rattle.spf_reltext.specs.declared.raw.RawIx.{RawIx}
use Rattle.spf_reltext.specs.declared.raw.RawLiteral.{RawLiteral}
use Rattle.spf_reltext.specs.declared.rules.Shape.{Shape}
use Rattle.spf_reltext.specs.declared.rules.Shape.TheVariants.{Points, Pairs}
use Rattle.spf_term.proofs.Monos.{value_is}
use Rattle.spf_term.proofs.Weights.{weighed, weighed_append}
use Rattle.spf_term.specs.Environment.{Environment}
use Rattle.spf_term.specs.Value.{atom_value, value}
use Rattle.spf_term.specs.declared.term.Term.{Term, out-Term, out-roll-Term}

shape_same : (shape : Shape) → same_shape shape shape ≡ true
shape_same (Points arity) = grind (arith, nat_tests)
shape_same (Pairs ins outs) = grind (arith, nat_tests)

module _ (ins : ℕ) (outs : Option ℕ) (names : RelNames) (free : HasFreeNames names) where
  abbrev many_outs : ℕ
  many_outs = unwrap_or outs 0

  abbrev naming : Naming
  naming = naming_of ins outs names

  outs_are : (outs : Option ℕ) → unwrap_or (raw_outs outs) [] ≡ letters (codes "Y") (unwrap_or outs 0)
  outs_are None = refl
  outs_are (Some count) = refl

  -- the variables have few numbers, and the parameters and functions have names
  pub record Fits (conj : Conj) : Type 0 where
    pub few : ins + many_outs + conj.inner < 2 ^ 32
    pub equal : All (Variables (Below ins many_outs conj.inner few)) conj.equal
    pub least : All (Variables (Below ins many_outs conj.inner few)) conj.least
    pub equal_named : All (IsNamed names) conj.equal
    pub least_named : All (IsNamed names) conj.least

  module _ (inner : ℕ) (few : ins + many_outs + inner < 2 ^ 32) where
    abbrev all_vars : List (List ℕ)
    all_vars = vars ins many_outs inner few

    abbrev IsKnown : Term → Type 0
    IsKnown term = Variables (Below ins many_outs inner few) term

    -- a term as it is read
    abbrev again : Term → Term
    again term = difference all_vars names (raw_term naming (side_term Left term)) (raw_term naming (side_term Right term)) (pos 0)

    abbrev raw_side : Side → Term → RawIx
    raw_side side term = raw_term naming (side_term side term)

    side_mean : (flips : Bool) (side : Side) (term : Term) → IsKnown term → IsNamed names term → ix_monos all_vars names flips (raw_side side term) ≡ turned flips (side_monos side (out-Term term).monos)
    side_mean flips side term known named =
        monos_mean all_vars names (variable_text ins many_outs) (Below ins many_outs inner few) (are_found ins many_outs inner few names free) flips (side_term side term)
        (side_known (Below ins many_outs inner few) side term known) (side_named names side term named)
        ∙ ap (turned flips) (side_monos_are side term)

    side_number : (flips : Bool) (side : Side) (term : Term) → constant_of flips (raw_side side term) ≡ turn flips (pos (amount side (out-Term term).constant))
    side_number flips side term =
        constant_is all_vars names (variable_text ins many_outs) (Below ins many_outs inner few) (are_found ins many_outs inner few names free) flips (side_term side term)
        ∙ ap (turn flips) (side_constant_is side term)

    number_again : (term : Term) → IsNamed names term → constant_between (raw_side Left term) (raw_side Right term) (pos 0) ≡ (out-Term term).constant
    number_again term named =
        let c = (out-Term term).constant in
        let sum : constant_of false (raw_side Left term) +ℤ constant_of true (raw_side Right term) +ℤ pos 0 ≡ c =
        (λ i. side_number false Left term i +ℤ side_number true Right term i +ℤ pos 0) ∙ omega (arith, ints, amounts_back c) in
        ap wrap sum ∙ wrap_short c (constant_short names term named)

    value_again : (env : Environment) (values : List ℤ) (term : Term) → IsKnown term → IsNamed names term → value env values (again term) ≡ value env values term
    value_again env values term known named =
        let weight = atom_value env values in
        let monos = (out-Term term).monos in
        let lefts = ix_monos all_vars names false (raw_side Left term) in
        let rights = ix_monos all_vars names true (raw_side Right term) in
        let constant = constant_between (raw_side Left term) (raw_side Right term) (pos 0) in
        let left : lefts ≡ side_monos Left monos = side_mean false Left term known named ∙ turned_not (side_monos Left monos) in
        let sum : weighed weight (lefts ++ rights) ≡ weighed weight monos =
        weighed_append weight lefts rights ∙ (λ i. weighed weight (left i) +ℤ weighed weight (side_mean true Right term known named i)) ∙ sides_weigh weight monos in
        value_is env values (again term) ∙ ap (λ term. weighed weight term.monos +ℤ term.constant) (out-roll-Term (record { monos = lefts ++ rights; constant = constant }))
        ∙ (λ i. sum i +ℤ number_again term named i) ∙ sym (value_is env values term)

    -- ---- the constraints

    abbrev raws : List Constraint → List RawConstraint
    raws xs = map (raw_constraint naming) xs

    equal_again : (equal least : List Term) → flat_map (equal_terms all_vars names) (raws (map (λ (term : Term). (true, term)) equal ++ map (λ (term : Term). (false, term)) least)) ≡ map again equal
    equal_again (term ∷ equal) least = ap (λ (terms : List Term). again term ∷ terms) (equal_again equal least)
    equal_again [] (term ∷ least) = equal_again [] least
    equal_again [] [] = refl

    least_again : (equal least : List Term) → flat_map (least_terms all_vars names) (raws (map (λ (term : Term). (true, term)) equal ++ map (λ (term : Term). (false, term)) least)) ≡ map again least
    least_again (term ∷ equal) least = least_again equal least
    least_again [] (term ∷ least) = ap (λ (terms : List Term). again term ∷ terms) (least_again [] least)
    least_again [] [] = refl

    all_again : (R : ℤ → Type 0) (env : Environment) (values : List ℤ) (terms : List Term) → All IsKnown terms → All (IsNamed names) terms → All (λ (term : Term). R (value env values term)) terms
        → All (λ (term : Term). R (value env values term)) (map again terms)
    all_again R env values terms known named holds =
        All-map (λ (term : Term). R (value env values term)) again terms
        (λ k d inside. subst R (sym (value_again env values (get_or terms k d) (known k d inside) (named k d inside))) (holds k d inside))

    all_before : (R : ℤ → Type 0) (env : Environment) (values : List ℤ) (terms : List Term) → All IsKnown terms → All (IsNamed names) terms → All (λ (term : Term). R (value env values term)) (map again terms)
        → All (λ (term : Term). R (value env values term)) terms
    all_before R env values terms known named holds =
        λ k d inside. subst R (value_again env values (get_or terms k d) (known k d inside) (named k d inside)) (all_from_map again (λ (term : Term). R (value env values term)) terms holds k d inside)

    -- ---- the names

    abbrev Kept : List Fact → Type 0
    Kept facts = AreKept all_vars names (variable_text ins many_outs) (Below ins many_outs inner few) facts

    side_kept : (side : Side) (term : Term) → IsKnown term → IsNamed names term → Kept (ix_facts (raw_side side term))
    side_kept side term known named =
        term_kept all_vars names (variable_text ins many_outs) (Below ins many_outs inner few) (are_found ins many_outs inner few names free) (side_term side term)
        (side_known (Below ins many_outs inner few) side term known) (side_named names side term named)

    constraints_kept : (xs : List Constraint) → AllByRecursion (λ (x : Constraint). IsKnown x.1 × IsNamed names x.1) xs → Kept (constraints_facts (raws xs))
    constraints_kept [] fits = tt
    constraints_kept (x ∷ xs) fits =
        let fact_kept = IsKept all_vars names (variable_text ins many_outs) (Below ins many_outs inner few) in
        join_each fact_kept (constraint_facts (raw_constraint naming x)) (constraints_facts (raws xs))
        (join_each fact_kept (ix_facts (raw_side Left x.1)) (ix_facts (raw_side Right x.1)) (side_kept Left x.1 fits.0.0 fits.0.1) (side_kept Right x.1 fits.0.0 fits.0.1)) (constraints_kept xs fits.1)

    fit_terms : (equal : Bool) (terms : List Term) → All IsKnown terms → All (IsNamed names) terms → AllByRecursion (λ (x : Constraint). IsKnown x.1 × IsNamed names x.1) (map (λ (term : Term). (equal, term)) terms)
    fit_terms equal [] known named = tt
    fit_terms equal (term ∷ terms) known named =
        ((All-head IsKnown term terms known, All-head (IsNamed names) term terms named), fit_terms equal terms (All-tail IsKnown term terms known) (All-tail (IsNamed names) term terms named))

  -- ---- conjunctions

  module _ (conj : Conj) (fits : Fits conj) where
    abbrev Known : Term → Type 0
    Known term = Variables (Below ins many_outs conj.inner fits.few) term

    pub constraints_fit : AllByRecursion (λ (x : Constraint). Known x.1 × IsNamed names x.1) (constraints_of conj)
    constraints_fit =
        join_each (λ (x : Constraint). Known x.1 × IsNamed names x.1) (map (λ (term : Term). (true, term)) conj.equal) (map (λ (term : Term). (false, term)) conj.least)
        (fit_terms conj.inner fits.few true conj.equal fits.equal fits.equal_named) (fit_terms conj.inner fits.few false conj.least fits.least fits.least_named)

    vars_are : variables (raw_literal ins outs names conj) ≡ vars ins many_outs conj.inner fits.few
    vars_are = ap (λ (ys : List (List ℕ)). letters (codes "X") ins ++ ys ++ letters (codes "E") conj.inner) (outs_are outs)

    abbrev again_conj : Conj
    again_conj = record { inner = conj.inner; equal = map (again conj.inner fits.few) conj.equal; least = map (again conj.inner fits.few) conj.least }

    conj_again : conj_of names (raw_literal ins outs names conj) ≡ again_conj
    conj_again =
        let raw = raws conj.inner fits.few (constraints_of conj) in
        (λ i. record {
          inner = length-map-range_with_len (numbered (codes "E")) 0 conj.inner i;
          equal = flat_map (equal_terms (vars_are i) names) raw;
          least = flat_map (least_terms (vars_are i) names) raw;
        })
        ∙ (λ i. record { inner = conj.inner; equal = equal_again conj.inner fits.few conj.equal conj.least i; least = least_again conj.inner fits.few conj.equal conj.least i })

    module _ (env : Environment) (point : List ℤ) where
      meets_again : Meets env point conj → Meets env point (conj_of names (raw_literal ins outs names conj))
      meets_again meets =
          let values = point ++ meets.inner in
          subst (Meets env point) (sym conj_again) (record {
            inner = meets.inner;
            count = meets.count;
            holds = record {
              equal = all_again conj.inner fits.few (λ z. z ≡ pos 0) env values conj.equal fits.equal fits.equal_named meets.holds.equal;
              least = all_again conj.inner fits.few (λ z. pos 0 ≤ℤ z) env values conj.least fits.least fits.least_named meets.holds.least;
            };
          })

      meets_before : Meets env point (conj_of names (raw_literal ins outs names conj)) → Meets env point conj
      meets_before read =
          let meets : Meets env point again_conj = subst (Meets env point) conj_again read in
          let values = point ++ meets.inner in
          record {
            inner = meets.inner;
            count = meets.count;
            holds = record {
              equal = all_before conj.inner fits.few (λ z. z ≡ pos 0) env values conj.equal fits.equal fits.equal_named meets.holds.equal;
              least = all_before conj.inner fits.few (λ z. pos 0 ≤ℤ z) env values conj.least fits.least fits.least_named meets.holds.least;
            };
          }

    abbrev facts : List Fact
    facts = constraints_facts (raws conj.inner fits.few (constraints_of conj))

    facts_kept : AreKept (vars ins many_outs conj.inner fits.few) names (variable_text ins many_outs) (Below ins many_outs conj.inner fits.few) facts
    facts_kept = constraints_kept conj.inner fits.few (constraints_of conj) constraints_fit

    literal_kept : literal_names names (raw_literal ins outs names conj) ≡ names
    literal_kept =
        ap (λ (vars : List (List ℕ)). fact_names vars names facts) vars_are
        ∙ names_kept (vars ins many_outs conj.inner fits.few) names (variable_text ins many_outs) (Below ins many_outs conj.inner fits.few) facts facts_kept

    -- rule 23
    keeps_names : breaks_names (raw_literal ins outs names conj) ≡ false
    keeps_names =
        ap (λ (vars : List (List ℕ)). names_break vars facts) vars_are
        ∙ rw (no_repeats ins many_outs conj.inner fits.few) (none_bracketed (vars ins many_outs conj.inner fits.few) names (variable_text ins many_outs) (Below ins many_outs conj.inner fits.few) facts facts_kept)

  abbrev raw_literals : List Conj → List RawLiteral
  raw_literals conjs = map (raw_literal ins outs names) conjs

  -- the names stay
  pub literals_kept : (conjs : List Conj) → All Fits conjs → names_of names (raw_literals conjs) ≡ names
  literals_kept [] fits = refl
  literals_kept (conj ∷ conjs) fits =
      ap (λ (names : RelNames). names_of names (raw_literals conjs)) (literal_kept conj (All-head Fits conj conjs fits)) ∙ literals_kept conjs (All-tail Fits conj conjs fits)

  -- the same points meet some conjunction
  pub meets_some : (conjs : List Conj) → All Fits conjs → (env : Environment) (point : List ℤ) → MeetsSome env point (map (conj_of names) (raw_literals conjs)) ↔ MeetsSome env point conjs
  meets_some conjs fits env point = (before, after) where
    before : MeetsSome env point (map (conj_of names) (raw_literals conjs)) → MeetsSome env point conjs
    before some =
        let literal = of_map (conj_of names) (raw_literals conjs) some.conj some.there in
        let found = of_map (raw_literal ins outs names) conjs literal.0 literal.1 in
        let same : some.conj ≡ conj_of names (raw_literal ins outs names found.0) = literal.2 ∙ ap (conj_of names) found.2 in
        record { conj = found.0; there = found.1; meets = meets_before found.0 (All-contains Fits conjs found.0 fits found.1) env point (subst (Meets env point) same some.meets) }

    after : MeetsSome env point conjs → MeetsSome env point (map (conj_of names) (raw_literals conjs))
    after some = record {
      conj = conj_of names (raw_literal ins outs names some.conj);
      there = in_map (conj_of names) (raw_literals conjs) (raw_literal ins outs names some.conj) (in_map (raw_literal ins outs names) conjs some.conj some.there);
      meets = meets_again some.conj (All-contains Fits conjs some.conj fits some.there) env point some.meets;
    }

  -- ---- rules

  pub keep_names : (conjs : List Conj) → All Fits conjs → list_any breaks_names (raw_literals conjs) ≡ false
  keep_names [] fits = refl
  keep_names (conj ∷ conjs) fits = rw (keeps_names conj (All-head Fits conj conjs fits)) (keep_names conjs (All-tail Fits conj conjs fits))

  -- rule 22: all literals have one shape
  pub one_shape : (conj : Conj) (conjs : List Conj) → differ (shape_of (raw_literal ins outs names conj)) (raw_literals conjs) ≡ false
  one_shape conj [] = refl
  one_shape conj (other ∷ conjs) = rw (shape_same (shape_of (raw_literal ins outs names conj))) (one_shape conj conjs)
