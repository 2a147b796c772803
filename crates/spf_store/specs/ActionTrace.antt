-- What the actions of a trace name is what the trace accesses.
use Rattle.std.proofs.Common.{◌≡◌, ℕ, ◌+◌, ℤ, Bool, true, false, List, [], ◌∷◌, ◌++◌, map, refl, ap, sym, ◌∙◌}
use Rattle.std.specs.Prelude.{if◌then◌else◌}
use Rattle.std.proofs.lemmas.Grind.{flat_map-append}
use Rattle.std.proofs.lemmas.List.{append-nil, map-append}
use Rattle.std.specs.List.{flat_map}
use Rattle.spf_term.specs.Environment.{Environment}
use Rattle.spf_term.specs.Value.{Entry, applications, entries, value}
use Rattle.spf_term.specs.declared.term.Term.{Term}
use Rattle.spf_touch.specs.Actions.{Action, accesses}
use Rattle.spf_touch.specs.declared.class.Class.{Class}
use Rattle.spf_touch.specs.declared.class.Class.TheVariants as class_is
use Rattle.spf_kernel.specs.BodySites.{assign_sites, cond_sites, fact_sites, facts_sites, item_sites, part_sites}
use Rattle.spf_kernel.specs.declared.tree.Value.{Value, Value', Row_of-Prod, end_of-Prod, more_of-Prod, Row_of-Factor, end_of-Factor, more_of-Factor}
use Rattle.spf_kernel.specs.declared.tree.Factor.{Factor}
use Rattle.spf_kernel.specs.declared.tree.Factor.TheVariants as factor_is
use Rattle.spf_kernel.specs.declared.tree.Assign.{Assign}
use Rattle.spf_kernel.specs.declared.tree.Cond.{Cond}
use Rattle.spf_kernel.specs.declared.tree.Part.{Part}
use Rattle.spf_kernel.specs.declared.tree.Part.TheVariants as part_is
use Rattle.spf_kernel.specs.declared.tree.Item.{Item}
use Rattle.spf_kernel.specs.declared.tree.Item.TheVariants as item_is
use Rattle.spf_store.specs.Accesses.{accesses_of}
use Rattle.spf_store.specs.Effect.{element}
use Rattle.spf_store.specs.Event.{Event, Turn, Bound, Read, Access, Store}
use Rattle.spf_store.specs.Trace.{access_trace, assign_trace, bound_trace, branch_trace, cond_trace, fact_trace, facts_trace, holds, integers, item_trace, items_trace, one_by_one, outer_of, part_trace, prods_trace, target_class, term_trace, turn_trace, turns_trace, value_trace}
use Rattle.spf_store.specs.Actions.{actions_of, assign_action, fact_made, facts_made, prods_made, value_made}

module _ (env : Environment) (starts : List ℕ) where
  -- these are the actions of the events, and these the elements that the events access
  record Tells (events : List Event) (actions : List Action) (elements : List (ℕ × Class)) : Type 0 where
    acts : actions_of env starts events ≡ actions
    accessed : accesses_of starts events ≡ elements

  actions-append : (first second : List Event) → actions_of env starts (first ++ second) ≡ actions_of env starts first ++ actions_of env starts second
  actions-append [] second = refl
  actions-append (Turn ∷ first) second = actions-append first second
  actions-append (Bound site value ∷ first) second = actions-append first second
  actions-append (Read entry ∷ first) second = actions-append first second
  actions-append (Access site class array place ∷ first) second = actions-append first second
  actions-append (Store assign variables ∷ first) second = ap (λ rest. assign_action env starts variables assign ∷ rest) (actions-append first second)

  accesses-append : (first second : List Event) → accesses_of starts (first ++ second) ≡ accesses_of starts first ++ accesses_of starts second
  accesses-append [] second = refl
  accesses-append (Turn ∷ first) second = accesses-append first second
  accesses-append (Bound site value ∷ first) second = accesses-append first second
  accesses-append (Read entry ∷ first) second = accesses-append first second
  accesses-append (Access site class array place ∷ first) second = ap (λ rest. accesses_of starts (Access site class array place ∷ []) ++ rest) (accesses-append first second)
  accesses-append (Store assign variables ∷ first) second = accesses-append first second

  both_tell : {first second : List Event} {actions others : List Action} {elements more : List (ℕ × Class)} →
      Tells first actions elements → Tells second others more → Tells (first ++ second) (actions ++ others) (elements ++ more)
  both_tell {first = first} {second = second} p q =
      let acts = actions-append first second in
      let accessed = accesses-append first second in
      record { acts = acts ∙ (λ i. p.acts i ++ q.acts i); accessed = accessed ∙ (λ i. p.accessed i ++ q.accessed i) }

  -- events without an action or an access
  abbrev Quiet : List Event → Type 0
  Quiet events = Tells events [] []

  abbrev read : List ℕ → List (ℕ × Class)
  read elements = map (λ e. (e, class_is.Read)) elements

  -- events without an action, which read these elements
  abbrev Reads : List Event → List ℕ → Type 0
  Reads events elements = Tells events [] (read elements)

  both_read : {first second : List Event} (elements more : List ℕ) → Reads first elements → Reads second more → Reads (first ++ second) (elements ++ more)
  both_read elements more p q =
      let both = both_tell p q in
      record { acts = both.acts; accessed = both.accessed ∙ sym (map-append (λ e. (e, class_is.Read)) elements more) }

  -- what the actions name is what the events access
  abbrev pub Fits : List Event → Type 0
  Fits events = flat_map accesses (actions_of env starts events) ≡ accesses_of starts events

  quiet_fits : {events : List Event} → Quiet events → Fits events
  quiet_fits quiet = ap (flat_map accesses) quiet.acts ∙ sym quiet.accessed

  both_fit : (first second : List Event) → Fits first → Fits second → Fits (first ++ second)
  both_fit first second p q =
      ap (flat_map accesses) (actions-append first second)
      ∙ flat_map-append accesses (actions_of env starts first) (actions_of env starts second)
      ∙ (λ i. p i ++ q i) ∙ sym (accesses-append first second)

  entries_quiet : (entries : List Entry) → Quiet (map Read entries)
  entries_quiet [] = record { acts = refl; accessed = refl }
  entries_quiet (entry ∷ entries) = let rest = entries_quiet entries in record { acts = rest.acts; accessed = rest.accessed }

  module _ (variables : List ℤ) where
    term_quiet : (site : ℕ) (term : Term) → Quiet (term_trace env variables site term)
    term_quiet site term = entries_quiet (entries env variables site term)

    access_tells : (site : ℕ) (class : Class) (array : ℕ) (sub : Term) → Tells (access_trace env variables site class array sub) [] ((element env starts variables array sub, class) ∷ [])
    access_tells site class array sub = both_tell (term_quiet (site + 1) sub) (record { acts = refl; accessed = refl })

    mutual
      value_reads : (site : ℕ) (of : Value) → Reads (value_trace env variables site of) (value_made env starts variables of).reads
      value_reads site (Value' shape prods) = prods_read site prods

      prods_read : {n : _} (site : ℕ) (row : Row_of-Prod n) → Reads (prods_trace env variables site row) (prods_made env starts variables row).reads
      prods_read site end_of-Prod = record { acts = refl; accessed = refl }
      prods_read site (more_of-Prod minus shape facts others) = both_read (facts_made env starts variables facts).reads (prods_made env starts variables others).reads (facts_read site facts) (prods_read (site + facts_sites facts) others)

      facts_read : {n : _} (site : ℕ) (row : Row_of-Factor n) → Reads (facts_trace env variables site row) (facts_made env starts variables row).reads
      facts_read site end_of-Factor = record { acts = refl; accessed = refl }
      facts_read site (more_of-Factor fact others) = both_read (fact_made env starts variables fact).reads (facts_made env starts variables others).reads (fact_reads site fact) (facts_read (site + fact_sites fact) others)

      fact_reads : (site : ℕ) (fact : Factor) → Reads (fact_trace env variables site fact) (fact_made env starts variables fact).reads
      fact_reads site (factor_is.Number number) = record { acts = refl; accessed = refl }
      fact_reads site (factor_is.Paren inside) = value_reads site inside
      fact_reads site (factor_is.Param number) = record { acts = refl; accessed = refl }
      fact_reads site (factor_is.Var number) = record { acts = refl; accessed = refl }
      fact_reads site (factor_is.Index array sub) = both_tell (term_quiet (site + 1) sub) (record { acts = refl; accessed = refl })
      fact_reads site (factor_is.Cell array sub) = access_tells site class_is.Read array sub

    assign_fits : (site : ℕ) (assign : Assign) → Fits (assign_trace env variables site assign)
    assign_fits site assign =
        let action = assign_action env starts variables assign in
        let value = value_reads (site + (1 + applications assign.sub)) assign.value in
        let target = access_tells site (target_class assign.sign) assign.array assign.sub in
        let last : Tells (Store assign variables ∷ []) (action ∷ []) [] = record { acts = refl; accessed = refl } in
        let all = both_tell value (both_tell target last) in
        ap (flat_map accesses) all.acts ∙ append-nil (accesses action) ∙ sym all.accessed

  -- parts one behind the other
  parts_fit : {A : Type 0} (sites : A → ℕ) (trace : ℕ → A → List Event) → ((site : ℕ) (part : A) → Fits (trace site part)) → (site : ℕ) (parts : List A) → Fits (one_by_one sites trace site parts)
  parts_fit sites trace fits site [] = refl
  parts_fit sites trace fits site (part ∷ parts) = both_fit (trace site part) (one_by_one sites trace (site + sites part) parts) (fits site part) (parts_fit sites trace fits (site + sites part) parts)

  if_fits : (b : Bool) (events : List Event) → Fits events → Fits (if b then events else [])
  if_fits true events fits = fits
  if_fits false events fits = refl

  module _ (variables : List ℤ) where
    branch_fits : (site : ℕ) (conds : List Cond) (body : List Assign) → Fits (branch_trace env variables site conds body)
    branch_fits site [] body = parts_fit assign_sites (assign_trace env variables) (assign_fits variables) site body
    branch_fits site (cond ∷ conds) body =
        let rest = branch_trace env variables (site + cond_sites cond) conds body in
        both_fit (cond_trace env variables site cond) (if holds env variables cond then rest else [])
        (quiet_fits (both_tell (term_quiet variables site cond.left) (term_quiet variables (site + applications cond.left) cond.right)))
        (if_fits (holds env variables cond) rest (branch_fits (site + cond_sites cond) conds body))

    part_fits : (site : ℕ) (part : Part) → Fits (part_trace env variables site part)
    part_fits site (part_is.Assign assign) = assign_fits variables site assign
    part_fits site (part_is.Branch guard) = branch_fits site guard.conds guard.body

    bound_fits : (site : ℕ) (bound : Term) → Fits (bound_trace env variables site bound)
    bound_fits site bound = quiet_fits (both_tell (term_quiet variables (site + 1) bound) (record { acts = refl; accessed = refl }))

  turns_fit : (variables : List ℤ) (site : ℕ) (parts : List Part) (inners : List ℤ) → Fits (turns_trace env variables site parts inners)
  turns_fit variables site parts [] = refl
  turns_fit variables site parts (inner ∷ inners) =
      let inside = outer_of variables ∷ inner ∷ [] in
      both_fit (turn_trace env inside site parts) (turns_trace env variables site parts inners)
      (parts_fit part_sites (part_trace env inside) (part_fits inside) site parts) (turns_fit variables site parts inners)

  module _ (variables : List ℤ) where
    item_fits : (site : ℕ) (item : Item) → Fits (item_trace env variables site item)
    item_fits site (item_is.Assign assign) = assign_fits variables site assign
    item_fits site (item_is.Branch guard) = branch_fits variables site guard.conds guard.body
    item_fits site (item_is.Inner var low high parts) =
        let after = site + (1 + applications low) in
        let turns = turns_trace env variables (after + (1 + applications high)) parts (integers (value env variables low) (value env variables high)) in
        both_fit (bound_trace env variables site low) (bound_trace env variables after high ++ turns) (bound_fits variables site low)
        (both_fit (bound_trace env variables after high) turns (bound_fits variables after high)
        (turns_fit variables (after + (1 + applications high)) parts (integers (value env variables low) (value env variables high))))

    -- an iteration accesses what its actions name
    pub items_fit : (site : ℕ) (items : List Item) → Fits (items_trace env variables site items)
    items_fit = parts_fit item_sites (item_trace env variables) item_fits
