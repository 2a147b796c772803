-- What rewritten items do is what the items do, where elements go to other places.
use Rattle.std.proofs.Common.{◌≡◌, ℕ, ◌+◌, ◌<◌, ℤ, pos, ◌+ℤ◌, ◌*ℤ◌, List, [], ◌∷◌, ◌++◌, map, refl, ap, ◌∙◌, eqb, cond, All}
use Rattle.std.specs.Prelude.{◌^◌, if◌then◌else◌, slice_index_or}
use Rattle.std.specs.List.{AllByRecursion}
use Rattle.std.proofs.lemmas.List.Elements.{recursion_from_All}
use mathlib.Core.Path.{fun_ext}
use Rattle.spf_term.specs.Bounded.{IsWithin}
use Rattle.spf_term.specs.Environment.{Environment}
use Rattle.spf_term.specs.Value as term
use Rattle.spf_term.specs.Value.{applications}
use Rattle.spf_term.specs.declared.term.Term.{Term}
use Rattle.spf_touch.specs.Renaming.{Renaming, unpacked}
use Rattle.spf_touch.specs.RenamingLaw.{same_test}
use Rattle.spf_touch.specs.declared.class.Class.{Class}
use Rattle.spf_touch.specs.declared.class.Class.TheVariants as class_is
use Rattle.spf_kernel.specs.BodySites.{assign_sites, cond_sites, fact_sites, facts_sites, item_sites, part_sites}
use Rattle.spf_kernel.specs.Kept.{KeepsValue, KeepProds, KeepFactors, KeepsFactor, KeepsAssign, KeepsCond, KeepsGuard, KeepsPart, KeepsItem}
use Rattle.spf_kernel.specs.Named.{IsNamedTerm, NameCounts, named}
use Rattle.spf_kernel.specs.declared.tree.Value.{Value, Value', Row_of-Prod, end_of-Prod, more_of-Prod, Row_of-Factor, end_of-Factor, more_of-Factor}
use Rattle.spf_kernel.specs.declared.tree.Factor.{Factor}
use Rattle.spf_kernel.specs.declared.tree.Factor.TheVariants as factor_is
use Rattle.spf_kernel.specs.declared.tree.Assign.{Assign}
use Rattle.spf_kernel.specs.declared.tree.Cond.{Cond}
use Rattle.spf_kernel.specs.declared.tree.Guard.{Guard}
use Rattle.spf_kernel.specs.declared.tree.Part.{Part}
use Rattle.spf_kernel.specs.declared.tree.Part.TheVariants as part_is
use Rattle.spf_kernel.specs.declared.tree.Item.{Item}
use Rattle.spf_kernel.specs.declared.tree.Item.TheVariants as item_is
use Rattle.spf_store.specs.Effect as effect
use Rattle.spf_store.specs.Effect.{element, element_at, fact_value, facts_value, prods_value, signed, stored}
use Rattle.spf_store.specs.Event.{Event, Turn, Bound, Read, Access, Store}
use Rattle.spf_store.specs.Needs.{IsPlaced}
use Rattle.spf_store.specs.Trace.{access_trace, assign_trace, bound_trace, branch_trace, compares, cond_trace, fact_trace, facts_trace, holds, integers, item_trace, items_trace, part_trace, parts_trace, prods_trace, target_class, term_trace, turn_trace, turns_trace, value_trace}
use Rattle.spf_exec.specs.Composed.{applied, variable}
use Rattle.spf_exec.specs.Rewritten.{Rewriting, rewritten_assign, rewritten_cond, rewritten_fact, rewritten_facts, rewritten_item, rewritten_items, rewritten_part, rewritten_prods, rewritten_value}
use Rattle.spf_exec.proofs.Alike.{Alike, Mirrors, Silent, both_alike, both_mirror, both_silent, if_mirrors, parts_mirror, reads_silent, silent_alike, split_each, turns_mirror}
use Rattle.spf_exec.proofs.AsValues.{term_silent, term_value}

module _ (exec env : Environment) (starts : List ℕ) (renaming : Renaming) (InRange : Event → Type 0) (to : Rewriting) (counts : NameCounts) where
  abbrev start : ℕ → ℕ
  start array = slice_index_or starts array 0

  -- the place is that of an element, which goes to the new place
  pub record Goes (array : ℕ) (place new : ℤ) : Type 0 where
    pub placed : IsPlaced starts array new
    pub goes : element_at (start array) new ≡ renaming.to (element_at (start array) place)

  -- what rewritten terms are, where these are the values of the variables, of which there are so many
  pub record Follows (variables : ℕ) (here source : List ℤ) : Type 0 where
    pub index : (of : Term) → IsNamedTerm counts variables of → term.value exec here (to.index of) ≡ term.value env source of
    pub number : (n : ℕ) → n < variables → term.value exec here (to.index (variable n)) ≡ term.number_at source (pos n)
    pub entry : (array : ℕ) (sub : Term) → array < counts.tables → IsNamedTerm counts variables sub →
        term.value exec here (applied array (to.index sub)) ≡ term.number_at (term.table_at env array) (term.value env source sub)
    pub cell : (site : ℕ) (class : Class) (array : ℕ) (sub : Term) → IsNamedTerm counts variables sub → InRange (Access site class array (term.value env source sub)) →
        Goes array (term.value env source sub) (term.value exec here (to.cell array sub))

  module _ (params : exec.params ≡ env.params) (bounds : (site : ℕ) (value : ℤ) → InRange (Bound site value) → IsWithin (2 ^ 22) value) where
    abbrev Same : List Event → List Event → Type 0
    Same = Alike exec env starts renaming

    abbrev Mirror : List Event → List Event → Type 0
    Mirror = Mirrors exec env starts renaming InRange

    -- ---- values

    module _ (variables : ℕ) (here source : List ℤ) (follows : Follows variables here source) where
      -- the traces do the same, and what is made of values is what is meant of the unpacked ones
      record Told (mine theirs : List Event) (made meant : (ℕ → ℤ) → ℤ) : Type 0 where
        alike : Same mine theirs
        told : (values : ℕ → ℤ) → made values ≡ meant (unpacked renaming values)

      quiet : {mine theirs : List Event} → Silent exec starts mine → Silent env starts theirs → Same mine theirs
      quiet {mine} {theirs} p q = silent_alike exec env starts renaming mine theirs p q

      terms_quiet : (at site : ℕ) (mine theirs : Term) → Same (term_trace exec here at mine) (term_trace env source site theirs)
      terms_quiet at site mine theirs = quiet (reads_silent exec starts (term.entries exec here at mine)) (reads_silent env starts (term.entries env source site theirs))

      access_same : (at site : ℕ) (class : Class) (array : ℕ) (sub : Term) → IsNamedTerm counts variables sub → InRange (Access site class array (term.value env source sub)) →
          Same (access_trace exec here at class array (to.cell array sub)) (access_trace env source site class array sub)
      access_same at site class array sub is range =
          let it = follows.cell site class array sub is range in
          both_alike exec env starts renaming (term_trace exec here (at + 1) (to.cell array sub)) (term_trace env source (site + 1) sub)
          (Access at class array (term.value exec here (to.cell array sub)) ∷ []) (Access site class array (term.value env source sub) ∷ [])
          (terms_quiet (at + 1) (site + 1) (to.cell array sub) sub)
          (record { effects = λ values. refl; accesses = (λ i. (it.goes i, class) ∷ []); may = (record { placed = it.placed; own = refl }, tt) })

      -- the access is the last event of its trace
      access_range : (site : ℕ) (class : Class) (array : ℕ) (sub : Term) → AllByRecursion InRange (access_trace env source site class array sub) → InRange (Access site class array (term.value env source sub))
      access_range site class array sub range = (split_each InRange (term_trace env source (site + 1) sub) (Access site class array (term.value env source sub) ∷ []) range).1.0

      mutual
        value_same : (at site : ℕ) (of : Value) → KeepsValue (named counts variables) of → AllByRecursion InRange (value_trace env source site of) →
            Told (value_trace exec here at (rewritten_value to of)) (value_trace env source site of) (λ values. effect.value exec starts here values (rewritten_value to of)) (λ values. effect.value env starts source values of)
        value_same at site (Value' shape prods) is range = prods_same at site prods is range

        prods_same : {n : _} (at site : ℕ) (row : Row_of-Prod n) → KeepProds (named counts variables) row → AllByRecursion InRange (prods_trace env source site row) →
            Told (prods_trace exec here at (rewritten_prods to row)) (prods_trace env source site row) (λ values. prods_value exec starts here values (rewritten_prods to row)) (λ values. prods_value env starts source values row)
        prods_same at site end_of-Prod is range = record { alike = quiet (reads_silent exec starts []) (reads_silent env starts []); told = λ values. refl }
        prods_same at site (more_of-Prod minus shape facts others) is range =
            let parts = split_each InRange (facts_trace env source site facts) (prods_trace env source (site + facts_sites facts) others) range in
            let next = at + facts_sites (rewritten_facts to facts) in
            let first = facts_same at site facts is.0 parts.0 in
            let rest = prods_same next (site + facts_sites facts) others is.1 parts.1 in
            record {
              alike = both_alike exec env starts renaming (facts_trace exec here at (rewritten_facts to facts)) (facts_trace env source site facts)
                  (prods_trace exec here next (rewritten_prods to others)) (prods_trace env source (site + facts_sites facts) others) first.alike rest.alike;
              told = λ values i. signed minus (first.told values i) +ℤ rest.told values i;
            }

        facts_same : {n : _} (at site : ℕ) (row : Row_of-Factor n) → KeepFactors (named counts variables) row → AllByRecursion InRange (facts_trace env source site row) →
            Told (facts_trace exec here at (rewritten_facts to row)) (facts_trace env source site row) (λ values. facts_value exec starts here values (rewritten_facts to row)) (λ values. facts_value env starts source values row)
        facts_same at site end_of-Factor is range = record { alike = quiet (reads_silent exec starts []) (reads_silent env starts []); told = λ values. refl }
        facts_same at site (more_of-Factor fact others) is range =
            let parts = split_each InRange (fact_trace env source site fact) (facts_trace env source (site + fact_sites fact) others) range in
            let next = at + fact_sites (rewritten_fact to fact) in
            let first = fact_same at site fact is.0 parts.0 in
            let rest = facts_same next (site + fact_sites fact) others is.1 parts.1 in
            record {
              alike = both_alike exec env starts renaming (fact_trace exec here at (rewritten_fact to fact)) (fact_trace env source site fact)
                  (facts_trace exec here next (rewritten_facts to others)) (facts_trace env source (site + fact_sites fact) others) first.alike rest.alike;
              told = λ values i. first.told values i *ℤ rest.told values i;
            }

        fact_same : (at site : ℕ) (fact : Factor) → KeepsFactor (named counts variables) fact → AllByRecursion InRange (fact_trace env source site fact) →
            Told (fact_trace exec here at (rewritten_fact to fact)) (fact_trace env source site fact) (λ values. fact_value exec starts here values (rewritten_fact to fact)) (λ values. fact_value env starts source values fact)
        fact_same at site (factor_is.Number number) is range = record { alike = quiet (reads_silent exec starts []) (reads_silent env starts []); told = λ values. refl }
        fact_same at site (factor_is.Paren inside) is range = value_same at site inside is range
        fact_same at site (factor_is.Param number) is range = record { alike = quiet (reads_silent exec starts []) (reads_silent env starts []); told = λ values. ap (λ numbers. term.number_at numbers (pos number)) params }
        fact_same at site (factor_is.Var number) is range = record {
          alike = quiet (term_silent exec starts here at (to.index (variable number))) (reads_silent env starts []);
          told = λ values. term_value exec starts here values (to.index (variable number)) ∙ follows.number number is;
        }
        fact_same at site (factor_is.Index array sub) is range = record {
          alike = quiet (term_silent exec starts here at (applied array (to.index sub)))
              (both_silent env starts (term_trace env source (site + 1) sub) (map Read (record { site = site; table = array; place = term.value env source sub } ∷ []))
              (reads_silent env starts (term.entries env source (site + 1) sub)) (reads_silent env starts (record { site = site; table = array; place = term.value env source sub } ∷ [])));
          told = λ values. term_value exec starts here values (applied array (to.index sub)) ∙ follows.entry array sub is.0 is.1;
        }
        fact_same at site (factor_is.Cell array sub) is range =
            let inside = access_range site class_is.Read array sub range in
            record { alike = access_same at site class_is.Read array sub is.1 inside; told = λ values. ap values (follows.cell site class_is.Read array sub is.1 inside).goes }

      -- ---- assignments

      store_same : (assign : Assign) → element exec starts here assign.array (to.cell assign.array assign.sub) ≡ renaming.to (element env starts source assign.array assign.sub) →
          ((values : ℕ → ℤ) → effect.value exec starts here values (rewritten_value to assign.value) ≡ effect.value env starts source (unpacked renaming values) assign.value) →
          Same (Store (rewritten_assign to assign) here ∷ []) (Store assign source ∷ [])
      store_same assign goes told = record {
        effects = λ values. fun_ext (λ e.
            (λ i. cond (eqb (renaming.to e) (goes i)) (stored assign.sign (values (renaming.to e)) (told values i)) (values (renaming.to e)))
            ∙ ap (λ here. cond here (stored assign.sign (values (renaming.to e)) (effect.value env starts source (unpacked renaming values) assign.value)) (values (renaming.to e)))
            (same_test renaming e (element env starts source assign.array assign.sub)));
        accesses = refl;
        may = (tt, tt);
      }

      pub assign_mirrors : (at site : ℕ) (assign : Assign) → KeepsAssign (named counts variables) assign → Mirror (assign_trace exec here at (rewritten_assign to assign)) (assign_trace env source site assign)
      assign_mirrors at site assign is range =
          let class = target_class assign.sign in
          let behind = site + (1 + applications assign.sub) in
          let behind' = at + (1 + applications (to.cell assign.array assign.sub)) in
          let parts = split_each InRange (value_trace env source behind assign.value) (access_trace env source site class assign.array assign.sub ++ Store assign source ∷ []) range in
          let more = split_each InRange (access_trace env source site class assign.array assign.sub) (Store assign source ∷ []) parts.1 in
          let inside = access_range site class assign.array assign.sub more.0 in
          let made = value_same behind' behind assign.value is.value parts.0 in
          both_alike exec env starts renaming (value_trace exec here behind' (rewritten_value to assign.value)) (value_trace env source behind assign.value)
          (access_trace exec here at class assign.array (to.cell assign.array assign.sub) ++ Store (rewritten_assign to assign) here ∷ []) (access_trace env source site class assign.array assign.sub ++ Store assign source ∷ []) made.alike
          (both_alike exec env starts renaming (access_trace exec here at class assign.array (to.cell assign.array assign.sub)) (access_trace env source site class assign.array assign.sub)
          (Store (rewritten_assign to assign) here ∷ []) (Store assign source ∷ []) (access_same at site class assign.array assign.sub is.sub inside)
          (store_same assign (follows.cell site class assign.array assign.sub is.sub inside).goes made.told))

      -- ---- conditions

      holds_same : (cond : Cond) → KeepsCond (named counts variables) cond → holds exec here (rewritten_cond to cond) ≡ holds env source cond
      holds_same cond is = let left = follows.index cond.left is.left in let right = follows.index cond.right is.right in λ i. compares cond.sign (left i) (right i)

      cond_same : (at site : ℕ) (cond : Cond) → Same (cond_trace exec here at (rewritten_cond to cond)) (cond_trace env source site cond)
      cond_same at site cond =
          both_alike exec env starts renaming (term_trace exec here at (to.index cond.left)) (term_trace env source site cond.left)
          (term_trace exec here (at + applications (to.index cond.left)) (to.index cond.right)) (term_trace env source (site + applications cond.left) cond.right)
          (terms_quiet at site (to.index cond.left) cond.left) (terms_quiet (at + applications (to.index cond.left)) (site + applications cond.left) (to.index cond.right) cond.right)

      branch_mirrors : (at site : ℕ) (conds : List Cond) (body : List Assign) → AllByRecursion (KeepsCond (named counts variables)) conds → AllByRecursion (KeepsAssign (named counts variables)) body →
          Mirror (branch_trace exec here at (map (rewritten_cond to) conds) (map (rewritten_assign to) body)) (branch_trace env source site conds body)
      branch_mirrors at site [] body are is =
          parts_mirror exec env starts renaming InRange (KeepsAssign (named counts variables)) assign_sites assign_sites (assign_trace env source) (assign_trace exec here) (rewritten_assign to) assign_mirrors at site body is
      branch_mirrors at site (cond ∷ conds) body are is =
          let next = at + cond_sites (rewritten_cond to cond) in
          let rest = branch_trace exec here next (map (rewritten_cond to) conds) (map (rewritten_assign to) body) in
          let rest' = branch_trace env source (site + cond_sites cond) conds body in
          both_mirror exec env starts renaming InRange (cond_trace exec here at (rewritten_cond to cond)) (cond_trace env source site cond)
          (if holds exec here (rewritten_cond to cond) then rest else []) (if holds env source cond then rest' else [])
          (λ range. cond_same at site cond)
          (if_mirrors exec env starts renaming InRange (holds exec here (rewritten_cond to cond)) (holds env source cond) (holds_same cond are.0) rest rest'
          (branch_mirrors next (site + cond_sites cond) conds body are.1 is))

      guard_mirrors : (at site : ℕ) (guard : Guard) → KeepsGuard (named counts variables) guard →
          Mirror (branch_trace exec here at (map (rewritten_cond to) guard.conds) (map (rewritten_assign to) guard.body)) (branch_trace env source site guard.conds guard.body)
      guard_mirrors at site guard is =
          branch_mirrors at site guard.conds guard.body (recursion_from_All (KeepsCond (named counts variables)) guard.conds is.conds) (recursion_from_All (KeepsAssign (named counts variables)) guard.body is.body)

      pub part_mirrors : (at site : ℕ) (part : Part) → KeepsPart (named counts variables) part → Mirror (part_trace exec here at (rewritten_part to part)) (part_trace env source site part)
      part_mirrors at site (part_is.Assign assign) is = assign_mirrors at site assign is
      part_mirrors at site (part_is.Branch guard) is = guard_mirrors at site guard is

      bound_mirrors : (at site : ℕ) (bound : Term) → IsNamedTerm counts variables bound → Mirror (bound_trace exec here at (to.index bound)) (bound_trace env source site bound)
      bound_mirrors at site bound is range =
          let inside = (split_each InRange (term_trace env source (site + 1) bound) (Bound site (term.value env source bound) ∷ []) range).1.0 in
          both_alike exec env starts renaming (term_trace exec here (at + 1) (to.index bound)) (term_trace env source (site + 1) bound)
          (Bound at (term.value exec here (to.index bound)) ∷ []) (Bound site (term.value env source bound) ∷ [])
          (terms_quiet (at + 1) (site + 1) (to.index bound) bound)
          (record { effects = λ values. refl; accesses = refl; may = (rw (follows.index bound is) (bounds site (term.value env source bound) inside), tt) })

    -- ---- items

    module _ (position iteration : ℤ) (outer : Follows 1 (position ∷ []) (iteration ∷ [])) (inner : (turn : ℤ) → Follows 2 (position ∷ turn ∷ []) (iteration ∷ turn ∷ [])) where
      abbrev here : List ℤ
      here = position ∷ []

      abbrev source : List ℤ
      source = iteration ∷ []

      turn_mirrors : (at site : ℕ) (parts : List Part) → AllByRecursion (KeepsPart (named counts 2)) parts → (turn : ℤ) →
          Mirror (turn_trace exec (position ∷ turn ∷ []) at (map (rewritten_part to) parts)) (turn_trace env (iteration ∷ turn ∷ []) site parts)
      turn_mirrors at site parts are turn =
          both_mirror exec env starts renaming InRange (Turn ∷ []) (Turn ∷ []) (parts_trace exec (position ∷ turn ∷ []) at (map (rewritten_part to) parts)) (parts_trace env (iteration ∷ turn ∷ []) site parts)
          (λ range. record { effects = λ values. refl; accesses = refl; may = (tt, tt) })
          (parts_mirror exec env starts renaming InRange (KeepsPart (named counts 2)) part_sites part_sites (part_trace env (iteration ∷ turn ∷ [])) (part_trace exec (position ∷ turn ∷ [])) (rewritten_part to)
          (part_mirrors 2 (position ∷ turn ∷ []) (iteration ∷ turn ∷ []) (inner turn)) at site parts are)

      turns_alike : (at site : ℕ) (low high : Term) (parts : List Part) → IsNamedTerm counts 1 low → IsNamedTerm counts 1 high → AllByRecursion (KeepsPart (named counts 2)) parts →
          Mirror (turns_trace exec here at (map (rewritten_part to) parts) (integers (term.value exec here (to.index low)) (term.value exec here (to.index high))))
          (turns_trace env source site parts (integers (term.value env source low) (term.value env source high)))
      turns_alike at site low high parts is_low is_high are =
          rw (outer.index low is_low, outer.index high is_high)
          (turns_mirror exec env starts renaming InRange (λ turn. turn_trace exec (position ∷ turn ∷ []) at (map (rewritten_part to) parts)) (λ turn. turn_trace env (iteration ∷ turn ∷ []) site parts)
          (turn_mirrors at site parts are) (integers (term.value env source low) (term.value env source high)))

      item_mirrors : (at site : ℕ) (item : Item) → KeepsItem (named counts) item → Mirror (item_trace exec here at (rewritten_item to item)) (item_trace env source site item)
      item_mirrors at site (item_is.Assign assign) is = assign_mirrors 1 here source outer at site assign is
      item_mirrors at site (item_is.Branch guard) is = guard_mirrors 1 here source outer at site guard is
      item_mirrors at site (item_is.Inner var low high parts) is =
          let next = at + (1 + applications (to.index low)) in
          let next' = site + (1 + applications low) in
          let last = next + (1 + applications (to.index high)) in
          let last' = next' + (1 + applications high) in
          let turns = turns_trace exec here last (map (rewritten_part to) parts) (integers (term.value exec here (to.index low)) (term.value exec here (to.index high))) in
          let turns' = turns_trace env source last' parts (integers (term.value env source low) (term.value env source high)) in
          both_mirror exec env starts renaming InRange (bound_trace exec here at (to.index low)) (bound_trace env source site low) (bound_trace exec here next (to.index high) ++ turns) (bound_trace env source next' high ++ turns')
          (bound_mirrors 1 here source outer at site low is.0)
          (both_mirror exec env starts renaming InRange (bound_trace exec here next (to.index high)) (bound_trace env source next' high) turns turns'
          (bound_mirrors 1 here source outer next next' high is.1)
          (turns_alike last last' low high parts is.0 is.1 (recursion_from_All (KeepsPart (named counts 2)) parts is.2)))

      -- an iteration of rewritten items does to elements where they go what the items do
      pub items_mirror : (at site : ℕ) (items : List Item) → All (KeepsItem (named counts)) items → Mirror (items_trace exec here at (rewritten_items to items)) (items_trace env source site items)
      items_mirror at site items are =
          parts_mirror exec env starts renaming InRange (KeepsItem (named counts)) item_sites item_sites (item_trace env source) (item_trace exec here) (rewritten_item to) item_mirrors at site items
          (recursion_from_All (KeepsItem (named counts)) items are)
