-- What events make of the cells, one behind the other.
use Rattle.std.proofs.Common.{◌≡◌, ℕ, ◌+◌, ℤ, Bool, List, [], ◌∷◌, ◌++◌, All, map, refl, ap, sym, ◌∙◌, subst, arith}
use mathlib.Core.Path.{fun_ext}
use Rattle.spf_term.specs.Environment.{Environment}
use Rattle.spf_term.specs.Value.{Entry, applications, entries, value}
use Rattle.spf_term.specs.Walk.{Through}
use Rattle.spf_term.specs.declared.term.Term.{Term}
use Rattle.spf_term.proofs.WalkParts.{all_first, all_second, through_both}
use Rattle.spf_touch.specs.declared.class.Class.{Class}
use Rattle.spf_touch.specs.declared.class.Class.TheVariants as class_is
use Rattle.spf_kernel.specs.BodySites.{fact_sites, facts_sites}
use Rattle.spf_kernel.specs.Kept.{KeepProds, KeepFactors}
use Rattle.spf_kernel.specs.declared.tree.Value.{Value, Value', Row_of-Prod, end_of-Prod, more_of-Prod, Row_of-Factor, end_of-Factor, more_of-Factor}
use Rattle.spf_kernel.specs.declared.tree.Factor.{Factor}
use Rattle.spf_kernel.specs.declared.tree.Factor.TheVariants as factor_is
use Rattle.spf_kernel.specs.declared.tree.Assign.{Assign}
use Rattle.spf_store.specs.Effect.{assigned, effect}
use Rattle.spf_store.specs.Event.{Event, Turn, Bound, Read, Access, Store}
use Rattle.spf_store.specs.Trace.{access_trace, assign_trace, fact_trace, facts_trace, index_trace, prods_trace, target_class, term_trace, value_trace}
use Rattle.spf_store.specs.Done.{IsDone}
use Rattle.spf_store.specs.Needs.{Allows, IsFactorReadable, IsOwn, IsReadable, readable}
use Rattle.spf_store.specs.Small.{IsSmallAssign, IsSmallFactor, IsSmallValue, small}

-- ---- what was done, and what was done behind it

module _ {C : Type 0} (own : C → ℕ → Bool) (value_in : C → ℕ → ℤ) (kept : C → C → Type 0) (at_first : (cells : C) → kept cells cells)
    (goes_on : (first second last : C) → kept first second → kept second last → kept first last) where
  abbrev Done : ((ℕ → ℤ) → ℕ → ℤ) → C → C → Type 0
  Done = IsDone own value_in kept

  nothing_done : (cells : C) → Done (λ values. values) cells cells
  nothing_done cells = record { owns = λ e. refl; keeps = at_first cells; values = λ e. refl }

  both_done : (first second : (ℕ → ℤ) → ℕ → ℤ) (before between after : C) → Done first before between → Done second between after →
      Done (λ values. second (first values)) before after
  both_done first second before between after p q = record {
    owns = λ e. q.owns e ∙ p.owns e;
    keeps = goes_on before between after p.keeps q.keeps;
    values = λ e. q.values e ∙ ap (λ values. second values e) (fun_ext p.values);
  }

  module _ (env : Environment) (starts : List ℕ) where
    abbrev accepts : C → Event → C → Type 0
    accepts before event after = Done (effect env starts (event ∷ [])) before after

    effect_first : (event : Event) (events : List Event) (values : ℕ → ℤ) → effect env starts (event ∷ events) values ≡ effect env starts events (effect env starts (event ∷ []) values)
    effect_first Turn events values = refl
    effect_first (Bound site value) events values = refl
    effect_first (Read entry) events values = refl
    effect_first (Access site class array place) events values = refl
    effect_first (Store assign variables) events values = refl

    pub through_is_done : (events : List Event) (before after : C) → Through accepts before events after → Done (effect env starts events) before after
    through_is_done [] before after same = subst (Done (effect env starts []) before) same (nothing_done before)
    through_is_done (event ∷ events) before after through =
        let all = both_done (effect env starts (event ∷ [])) (effect env starts events) before through.0 after through.1 (through_is_done events through.0 after through.2) in
        record { owns = all.owns; keeps = all.keeps; values = λ e. all.values e ∙ sym (ap (λ (made : ℕ → ℤ). made e) (effect_first event events (value_in before))) }

    -- ---- events that leave the cells as they are

    abbrev Still : List Event → Type 0
    Still events = (cells : C) → Through accepts cells events cells

    both_still : (first second : List Event) → Still first → Still second → Still (first ++ second)
    both_still first second p q cells = through_both accepts first second cells cells cells (p cells) (q cells)

    reads_still : (entries : List Entry) → Still (map Read entries)
    reads_still [] cells = refl
    reads_still (entry ∷ entries) cells = (cells, nothing_done cells, reads_still entries cells)

    module _ (variables : List ℤ) where
      pub term_still : (site : ℕ) (term : Term) → Still (term_trace env variables site term)
      term_still site term = reads_still (entries env variables site term)

      index_still : (site table : ℕ) (sub : Term) → Still (index_trace env variables site table sub)
      index_still site table sub =
          both_still (term_trace env variables (site + 1) sub) (Read (record { site = site; table = table; place = value env variables sub }) ∷ [])
          (term_still (site + 1) sub) (λ cells. (cells, nothing_done cells, refl))

      access_still : (site : ℕ) (class : Class) (array : ℕ) (sub : Term) → Still (access_trace env variables site class array sub)
      access_still site class array sub =
          both_still (term_trace env variables (site + 1) sub) (Access site class array (value env variables sub) ∷ [])
          (term_still (site + 1) sub) (λ cells. (cells, nothing_done cells, refl))

      mutual
        value_still : (site : ℕ) (of : Value) → Still (value_trace env variables site of)
        value_still site (Value' shape prods) = prods_still site prods

        prods_still : {n : _} (site : ℕ) (row : Row_of-Prod n) → Still (prods_trace env variables site row)
        prods_still site end_of-Prod = λ cells. refl
        prods_still site (more_of-Prod minus shape facts others) =
            both_still (facts_trace env variables site facts) (prods_trace env variables (site + facts_sites facts) others)
            (facts_still site facts) (prods_still (site + facts_sites facts) others)

        facts_still : {n : _} (site : ℕ) (row : Row_of-Factor n) → Still (facts_trace env variables site row)
        facts_still site end_of-Factor = λ cells. refl
        facts_still site (more_of-Factor fact others) =
            both_still (fact_trace env variables site fact) (facts_trace env variables (site + fact_sites fact) others)
            (fact_still site fact) (facts_still (site + fact_sites fact) others)

        fact_still : (site : ℕ) (fact : Factor) → Still (fact_trace env variables site fact)
        fact_still site (factor_is.Number number) = λ cells. refl
        fact_still site (factor_is.Paren inside) = value_still site inside
        fact_still site (factor_is.Param number) = λ cells. refl
        fact_still site (factor_is.Var number) = λ cells. refl
        fact_still site (factor_is.Index array sub) = index_still site array sub
        fact_still site (factor_is.Cell array sub) = access_still site class_is.Read array sub

      -- an assignment that is carried out is gone through
      pub assign_through : (site : ℕ) (assign : Assign) (before after : C) → Done (assigned env starts assign variables) before after →
          Through accepts before (assign_trace env variables site assign) after
      assign_through site assign before after done =
          let target = access_trace env variables site (target_class assign.sign) assign.array assign.sub in
          let behind = through_both accepts target (Store assign variables ∷ []) before before after
          (access_still site (target_class assign.sign) assign.array assign.sub before) (after, done, refl) in
          through_both accepts (value_trace env variables (site + (1 + applications assign.sub)) assign.value) (target ++ Store assign variables ∷ []) before before after
          (value_still (site + (1 + applications assign.sub)) assign.value before) behind

-- ---- what may be read

module _ (env : Environment) (starts : List ℕ) (owns : ℕ → Bool) (variables : List ℤ) where
  abbrev May : Event → Type 0
  May = Allows starts owns

  access_own : (site : ℕ) (class : Class) (array : ℕ) (sub : Term) → All May (access_trace env variables site class array sub) → IsOwn starts owns array (value env variables sub)
  access_own site class array sub all =
      let event = Access site class array (value env variables sub) in
      all_second May (term_trace env variables (site + 1) sub) (event ∷ []) all 0 event (omega arith)

  mutual
    value_readable : (site : ℕ) (of : Value) → IsSmallValue env variables of → All May (value_trace env variables site of) → IsReadable env starts owns variables of
    value_readable site (Value' shape prods) kept all = prods_readable site prods kept all

    prods_readable : {n : _} (site : ℕ) (row : Row_of-Prod n) → KeepProds (small env variables) row → All May (prods_trace env variables site row) → KeepProds (readable env starts owns variables) row
    prods_readable site end_of-Prod kept all = tt
    prods_readable site (more_of-Prod minus shape facts others) kept all =
        let first = facts_trace env variables site facts in
        let second = prods_trace env variables (site + facts_sites facts) others in
        (facts_readable site facts kept.0 (all_first May first second all), prods_readable (site + facts_sites facts) others kept.1 (all_second May first second all))

    facts_readable : {n : _} (site : ℕ) (row : Row_of-Factor n) → KeepFactors (small env variables) row → All May (facts_trace env variables site row) → KeepFactors (readable env starts owns variables) row
    facts_readable site end_of-Factor kept all = tt
    facts_readable site (more_of-Factor fact others) kept all =
        let first = fact_trace env variables site fact in
        let second = facts_trace env variables (site + fact_sites fact) others in
        (fact_readable site fact kept.0 (all_first May first second all), facts_readable (site + fact_sites fact) others kept.1 (all_second May first second all))

    fact_readable : (site : ℕ) (fact : Factor) → IsSmallFactor env variables fact → All May (fact_trace env variables site fact) → IsFactorReadable env starts owns variables fact
    fact_readable site (factor_is.Number number) kept all = tt
    fact_readable site (factor_is.Paren inside) kept all = value_readable site inside kept all
    fact_readable site (factor_is.Param number) kept all = tt
    fact_readable site (factor_is.Var number) kept all = tt
    fact_readable site (factor_is.Index array sub) kept all = kept
    fact_readable site (factor_is.Cell array sub) kept all = (kept, access_own site class_is.Read array sub all)

  module _ (site : ℕ) (assign : Assign) (kept : IsSmallAssign env variables assign) (all : All May (assign_trace env variables site assign)) where
    abbrev first : List Event
    first = value_trace env variables (site + (1 + applications assign.sub)) assign.value

    abbrev target : List Event
    target = access_trace env variables site (target_class assign.sign) assign.array assign.sub

    pub assign_readable : IsReadable env starts owns variables assign.value
    assign_readable = value_readable (site + (1 + applications assign.sub)) assign.value kept.value (all_first May first (target ++ Store assign variables ∷ []) all)

    pub assign_own : IsOwn starts owns assign.array (value env variables assign.sub)
    assign_own = access_own site (target_class assign.sign) assign.array assign.sub
        (all_first May target (Store assign variables ∷ []) (all_second May first (target ++ Store assign variables ∷ []) all))
