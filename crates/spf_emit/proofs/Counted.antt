-- A body has as many terms as places, whatever its index expressions become.
use Rattle.std.proofs.Common.{◌≡◌, ℕ, ◌+◌, List, [], ◌∷◌, ◌++◌, length, map, refl, ◌∙◌, length-append}
use Rattle.std.proofs.lemmas.List.Concat.{length-flat_map}
use Rattle.std.specs.List.{flat_map, sum_by}
use Rattle.spf_term.specs.declared.term.Term.{Term}
use Rattle.spf_kernel.specs.declared.tree.Value.{Value, Value', Row_of-Prod, end_of-Prod, more_of-Prod, Row_of-Factor, end_of-Factor, more_of-Factor}
use Rattle.spf_kernel.specs.declared.tree.Factor.{Factor}
use Rattle.spf_kernel.specs.declared.tree.Factor.TheVariants as factor_is
use Rattle.spf_kernel.specs.declared.tree.Assign.{Assign}
use Rattle.spf_kernel.specs.declared.tree.Guard.{Guard}
use Rattle.spf_kernel.specs.declared.tree.Part.{Part}
use Rattle.spf_kernel.specs.declared.tree.Part.TheVariants as part_is
use Rattle.spf_kernel.specs.declared.tree.Item.{Item}
use Rattle.spf_kernel.specs.declared.tree.Item.TheVariants as item_is
use Rattle.spf_kernel.specs.declared.tree.Loop.{Loop}
use Rattle.spf_kernel.specs.declared.tree.Tree.{Tree}
use Rattle.spf_exec.specs.BodyTerms.{assign_terms, cond_terms, fact_terms, facts_terms, guard_terms, item_terms, part_terms, prods_terms, value_terms}
use Rattle.spf_exec.specs.Generated.{bodies_from, program_of}
use Rattle.spf_exec.specs.Rewritten.{Rewriting, composing}
use Rattle.spf_exec.specs.declared.program.Body.{Body}
use Rattle.spf_exec.specs.declared.program.Moved.{Moved}
use Rattle.spf_emit.specs.Places.{HasTermForEachPlace, assign_places, cond_places, fact_places, facts_places, guard_places, item_places, loop_places, part_places, prods_places, value_places}

-- the terms of two parts
both : (first others : List Term) {here more : ℕ} → length first ≡ here → length others ≡ more → length (first ++ others) ≡ here + more
both first others here more = length-append first others ∙ λ i. here i + more i

-- the terms of a list of parts
pub all : {A : Type 0} (terms : A → List Term) (places : A → ℕ) → ((x : A) → length (terms x) ≡ places x) → (xs : List A) → length (flat_map terms xs) ≡ sum_by places xs
all terms places each xs = length-flat_map terms xs ∙ λ i. sum_by (λ x. each x i) xs

module _ (to : Rewriting) where
  mutual
    pub value_counted : (value : Value) → length (value_terms to value) ≡ value_places value
    value_counted (Value' shape prods) = prods_counted prods

    pub prods_counted : {n : _} (row : Row_of-Prod n) → length (prods_terms to row) ≡ prods_places row
    prods_counted end_of-Prod = refl
    prods_counted (more_of-Prod minus shape facts others) = both (facts_terms to facts) (prods_terms to others) (facts_counted facts) (prods_counted others)

    pub facts_counted : {n : _} (row : Row_of-Factor n) → length (facts_terms to row) ≡ facts_places row
    facts_counted end_of-Factor = refl
    facts_counted (more_of-Factor fact others) = both (fact_terms to fact) (facts_terms to others) (fact_counted fact) (facts_counted others)

    pub fact_counted : (fact : Factor) → length (fact_terms to fact) ≡ fact_places fact
    fact_counted (factor_is.Number number) = refl
    fact_counted (factor_is.Paren inside) = value_counted inside
    fact_counted (factor_is.Param number) = refl
    fact_counted (factor_is.Var number) = refl
    fact_counted (factor_is.Index array sub) = refl
    fact_counted (factor_is.Cell array sub) = refl

  pub assign_counted : (assign : Assign) → length (assign_terms to assign) ≡ assign_places assign
  assign_counted assign = both (to.cell assign.array assign.sub ∷ []) (value_terms to assign.value) refl (value_counted assign.value)

  pub guard_counted : (guard : Guard) → length (guard_terms to guard) ≡ guard_places guard
  guard_counted guard =
      both (flat_map (cond_terms to) guard.conds) (flat_map (assign_terms to) guard.body) (all (cond_terms to) cond_places (λ cond. refl) guard.conds) (all (assign_terms to) assign_places assign_counted guard.body)

  pub part_counted : (part : Part) → length (part_terms to part) ≡ part_places part
  part_counted (part_is.Assign assign) = assign_counted assign
  part_counted (part_is.Branch guard) = guard_counted guard

  pub item_counted : (item : Item) → length (item_terms to item) ≡ item_places item
  item_counted (item_is.Assign assign) = assign_counted assign
  item_counted (item_is.Branch guard) = guard_counted guard
  item_counted (item_is.Inner var low high parts) = both (to.index low ∷ to.index high ∷ []) (flat_map (part_terms to) parts) refl (all (part_terms to) part_places part_counted parts)

module _ (tree : Tree) (moved : Moved) where
  bodies_counted : (loop_no : ℕ) (loops : List Loop) → map (λ (body : Body). length body.terms) (bodies_from tree moved loop_no loops) ≡ map loop_places loops
  bodies_counted loop_no [] = refl
  bodies_counted loop_no (loop ∷ loops) =
      let to = composing tree moved loop_no loop in
      let here = all (item_terms to) item_places (item_counted to) loop.items in
      let more = bodies_counted (loop_no + 1) loops in
      λ i. here i ∷ more i

  pub program_counted : HasTermForEachPlace (program_of tree moved) tree
  program_counted = bodies_counted 0 tree.loops
