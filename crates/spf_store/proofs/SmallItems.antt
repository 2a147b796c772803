-- Items of a kernel are small where they read small numbers.
use Rattle.std.proofs.Common.{ℕ, ℤ, List, [], ◌∷◌}
use Rattle.spf_term.specs.Bounded.{AreWithin, IsBounded}
use Rattle.spf_term.specs.Environment.{Environment}
use Rattle.spf_term.specs.Value.{IsSmall}
use Rattle.spf_term.specs.declared.term.Term.{Term}
use Rattle.spf_kernel.specs.Bounded.{HasBounded, IsBoundedItem, bounded}
use Rattle.spf_kernel.specs.Kept.{Property, KeepsValue, KeepProds, KeepFactors, KeepsFactor, KeepsAssign, KeepsGuard, KeepsPart}
use Rattle.spf_kernel.specs.declared.tree.Value.{Value, Value', Row_of-Prod, end_of-Prod, more_of-Prod, Row_of-Factor, end_of-Factor, more_of-Factor}
use Rattle.spf_kernel.specs.declared.tree.Factor.{Factor}
use Rattle.spf_kernel.specs.declared.tree.Factor.TheVariants as factor_is
use Rattle.spf_kernel.specs.declared.tree.Assign.{Assign}
use Rattle.spf_kernel.specs.declared.tree.Guard.{Guard}
use Rattle.spf_kernel.specs.declared.tree.Part.{Part}
use Rattle.spf_kernel.specs.declared.tree.Part.TheVariants as part_is
use Rattle.spf_kernel.specs.declared.tree.Item.{Item}
use Rattle.spf_kernel.specs.declared.tree.Item.TheVariants as item_is
use Rattle.spf_store.specs.Small.{HasSmall, IsSmallItem, small}
use Rattle.spf_store.specs.Trace.{outer_of}
use Rattle.spf_store.proofs.Turns.{turn_within}

-- what has a property has each that follows from it
module _ (p q : Property) (ix : (term : Term) → p.ix term → q.ix term) (leaf : (factor : Factor) → p.leaf factor → q.leaf factor) (array : (number : ℕ) → p.array number → q.array number) where
  mutual
    value_keeps : (value : Value) → KeepsValue p value → KeepsValue q value
    value_keeps (Value' shape prods) kept = prods_keep prods kept

    prods_keep : {n : _} (row : Row_of-Prod n) → KeepProds p row → KeepProds q row
    prods_keep end_of-Prod kept = tt
    prods_keep (more_of-Prod minus shape facts others) kept = (facts_keep facts kept.0, prods_keep others kept.1)

    facts_keep : {n : _} (row : Row_of-Factor n) → KeepFactors p row → KeepFactors q row
    facts_keep end_of-Factor kept = tt
    facts_keep (more_of-Factor fact others) kept = (fact_keeps fact kept.0, facts_keep others kept.1)

    fact_keeps : (fact : Factor) → KeepsFactor p fact → KeepsFactor q fact
    fact_keeps (factor_is.Number number) kept = leaf (factor_is.Number number) kept
    fact_keeps (factor_is.Paren inside) kept = value_keeps inside kept
    fact_keeps (factor_is.Param number) kept = leaf (factor_is.Param number) kept
    fact_keeps (factor_is.Var number) kept = leaf (factor_is.Var number) kept
    fact_keeps (factor_is.Index array sub) kept = leaf (factor_is.Index array sub) kept
    fact_keeps (factor_is.Cell array sub) kept = leaf (factor_is.Cell array sub) kept

  assign_keeps : (assign : Assign) → KeepsAssign p assign → KeepsAssign q assign
  assign_keeps assign kept = record { array = array assign.array kept.array; sub = ix assign.sub kept.sub; value = value_keeps assign.value kept.value }

  guard_keeps : (guard : Guard) → KeepsGuard p guard → KeepsGuard q guard
  guard_keeps guard kept = record {
    conds = λ k d inside. let cond = kept.conds k d inside in record { left = ix _ cond.left; right = ix _ cond.right };
    body = λ k d inside. assign_keeps _ (kept.body k d inside);
  }

  part_keeps : (part : Part) → KeepsPart p part → KeepsPart q part
  part_keeps (part_is.Assign assign) kept = assign_keeps assign kept
  part_keeps (part_is.Branch guard) kept = guard_keeps guard kept

module _ (law : (env : Environment) (variables : List ℤ) (term : Term) → AreWithin env variables → IsBounded term → IsSmall env variables term) (env : Environment) where
  module _ (variables : List ℤ) (within : AreWithin env variables) where
    ix_small : (term : Term) → IsBounded term → IsSmall env variables term
    ix_small term = law env variables term within

    leaf_small : (factor : Factor) → HasBounded factor → HasSmall env variables factor
    leaf_small (factor_is.Number number) kept = tt
    leaf_small (factor_is.Paren inside) kept = tt
    leaf_small (factor_is.Param number) kept = tt
    leaf_small (factor_is.Var number) kept = tt
    leaf_small (factor_is.Index array sub) kept = ix_small sub kept
    leaf_small (factor_is.Cell array sub) kept = ix_small sub kept

    part_small : (part : Part) → KeepsPart bounded part → KeepsPart (small env variables) part
    part_small = part_keeps bounded (small env variables) ix_small leaf_small (λ number any. tt)

  pub item_small : (variables : List ℤ) → AreWithin env variables → (item : Item) → IsBoundedItem item → IsSmallItem env variables item
  item_small variables within (item_is.Assign assign) kept = part_small variables within (part_is.Assign assign) kept
  item_small variables within (item_is.Branch guard) kept = part_small variables within (part_is.Branch guard) kept
  item_small variables within (item_is.Inner var low high parts) kept = (
    ix_small variables within low kept.0,
    ix_small variables within high kept.1,
    λ inner small. λ k d inside. part_small (outer_of variables ∷ inner ∷ []) (turn_within env variables inner within small) _ (kept.2 k d inside),
  )
