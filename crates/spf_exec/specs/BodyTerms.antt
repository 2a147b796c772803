-- The terms of a body, each where its first token stands.
use Rattle.std.specs.Prelude.{List, [], ◌∷◌, ◌++◌}
use Rattle.std.specs.List.{flat_map}
use Rattle.spf_term.specs.declared.term.Term.{Term}
use Rattle.spf_kernel.specs.declared.tree.Value.{Value, Value', Row_of-Prod, end_of-Prod, more_of-Prod, Row_of-Factor, end_of-Factor, more_of-Factor}
use Rattle.spf_kernel.specs.declared.tree.Factor.{Factor}
use Rattle.spf_kernel.specs.declared.tree.Factor.TheVariants as factor_is
use Rattle.spf_kernel.specs.declared.tree.Prod.{Prod}
use Rattle.spf_kernel.specs.declared.tree.Assign.{Assign}
use Rattle.spf_kernel.specs.declared.tree.Cond.{Cond}
use Rattle.spf_kernel.specs.declared.tree.Guard.{Guard}
use Rattle.spf_kernel.specs.declared.tree.Part.{Part}
use Rattle.spf_kernel.specs.declared.tree.Part.TheVariants as part_is
use Rattle.spf_kernel.specs.declared.tree.Item.{Item}
use Rattle.spf_kernel.specs.declared.tree.Item.TheVariants as item_is
use Rattle.spf_exec.specs.Composed.{applied, variable}
use Rattle.spf_exec.specs.Rewritten.{Rewriting}

module _ (to : Rewriting) where
  abbrev mutual
    pub value_terms : Value → List Term
    value_terms (Value' shape prods) = prods_terms prods

    pub prods_terms : {n : _} → Row_of-Prod n → List Term
    prods_terms end_of-Prod = []
    prods_terms (more_of-Prod minus shape facts others) = facts_terms facts ++ prods_terms others

    pub facts_terms : {n : _} → Row_of-Factor n → List Term
    facts_terms end_of-Factor = []
    facts_terms (more_of-Factor fact others) = fact_terms fact ++ facts_terms others

    pub fact_terms : Factor → List Term
    fact_terms (factor_is.Number number) = []
    fact_terms (factor_is.Paren inside) = value_terms inside
    fact_terms (factor_is.Param number) = []
    fact_terms (factor_is.Var number) = to.index (variable number) ∷ []
    fact_terms (factor_is.Index array sub) = applied array (to.index sub) ∷ []
    fact_terms (factor_is.Cell array sub) = to.cell array sub ∷ []

  abbrev pub prod_terms : Prod → List Term
  prod_terms prod = flat_map fact_terms prod.facts

  -- the target comes before the value
  abbrev pub assign_terms : Assign → List Term
  assign_terms assign = to.cell assign.array assign.sub ∷ value_terms assign.value

  abbrev pub cond_terms : Cond → List Term
  cond_terms cond = to.index cond.left ∷ to.index cond.right ∷ []

  abbrev pub guard_terms : Guard → List Term
  guard_terms guard = flat_map cond_terms guard.conds ++ flat_map assign_terms guard.body

  abbrev pub part_terms : Part → List Term
  part_terms (part_is.Assign assign) = assign_terms assign
  part_terms (part_is.Branch guard) = guard_terms guard

  abbrev pub item_terms : Item → List Term
  item_terms (item_is.Assign assign) = assign_terms assign
  item_terms (item_is.Branch guard) = guard_terms guard
  item_terms (item_is.Inner var low high parts) = to.index low ∷ to.index high ∷ flat_map part_terms parts
