-- The places of a kernel's items can be composed, and the terms of a value are those of its products.
use Rattle.std.proofs.Common.{◌≡◌, ℕ, ◌+◌, ◌≤◌, ◌^◌, ◌∷◌, ◌++◌, map, refl, ap, sym, ◌∙◌, arith}
use Rattle.std.specs.List.{flat_map}
use Rattle.spf_term.specs.Bounded.{IsBounded}
use Rattle.spf_term.specs.declared.term.Term.{Term}
use Rattle.spf_rel.specs.Graph.{IsWithinSize}
use Rattle.spf_kernel.specs.Bounded.{HasBounded, IsBoundedItem, bounded}
use Rattle.spf_kernel.specs.Kept.{Property, KeepsValue, KeepProds, KeepFactors, KeepsFactor, KeepsAssign, KeepsGuard, KeepsItem, KeepsPart}
use Rattle.spf_kernel.specs.Named.{IsNamedLeaf, IsNamedTerm, NameCounts, named}
use Rattle.spf_kernel.specs.declared.tree.Value.{Value, Value', out-Value, roll-Value, roll-out-Value, Row_of-Prod, end_of-Prod, more_of-Prod, items-the_row-Prod, items_shown-the_row-Prod-1, Row_of-Factor, end_of-Factor, more_of-Factor, items-the_row-Factor, items_shown-the_row-Factor-0}
use Rattle.spf_kernel.specs.declared.tree.Factor.{Factor}
use Rattle.spf_kernel.specs.declared.tree.Factor.TheVariants as factor_is
use Rattle.spf_kernel.specs.declared.tree.Assign.{Assign}
use Rattle.spf_kernel.specs.declared.tree.Guard.{Guard}
use Rattle.spf_kernel.specs.declared.tree.Part.{Part}
use Rattle.spf_kernel.specs.declared.tree.Part.TheVariants as part_is
use Rattle.spf_kernel.specs.declared.tree.Item.{Item}
use Rattle.spf_kernel.specs.declared.tree.Item.TheVariants as item_is
use Rattle.spf_exec.specs.BodyTerms.{fact_terms, facts_terms, prod_terms, prods_terms, value_terms}
use Rattle.spf_exec.specs.Placeable.{HasPlaceable, IsPlaceable, placeable}
use Rattle.spf_exec.specs.Rewritten.{Rewriting, rewritten_fact, rewritten_facts, rewritten_prod, rewritten_prods, rewritten_value}
use Rattle.spf_exec.proofs.Composing.{named_below, variables_fewer}

-- what has two properties has each that follows from both
module _ (p q r : Property) (ix : (term : Term) → p.ix term → q.ix term → r.ix term) (leaf : (factor : Factor) → p.leaf factor → q.leaf factor → r.leaf factor) (array : (number : ℕ) → p.array number → q.array number → r.array number) where
  mutual
    value_keeps : (value : Value) → KeepsValue p value → KeepsValue q value → KeepsValue r value
    value_keeps (Value' shape prods) h k = prods_keep prods h k

    prods_keep : {n : _} (row : Row_of-Prod n) → KeepProds p row → KeepProds q row → KeepProds r row
    prods_keep end_of-Prod h k = tt
    prods_keep (more_of-Prod minus shape facts others) h k = (facts_keep facts h.0 k.0, prods_keep others h.1 k.1)

    facts_keep : {n : _} (row : Row_of-Factor n) → KeepFactors p row → KeepFactors q row → KeepFactors r row
    facts_keep end_of-Factor h k = tt
    facts_keep (more_of-Factor fact others) h k = (fact_keeps fact h.0 k.0, facts_keep others h.1 k.1)

    fact_keeps : (fact : Factor) → KeepsFactor p fact → KeepsFactor q fact → KeepsFactor r fact
    fact_keeps (factor_is.Number number) h k = leaf (factor_is.Number number) h k
    fact_keeps (factor_is.Paren inside) h k = value_keeps inside h k
    fact_keeps (factor_is.Param number) h k = leaf (factor_is.Param number) h k
    fact_keeps (factor_is.Var number) h k = leaf (factor_is.Var number) h k
    fact_keeps (factor_is.Index array sub) h k = leaf (factor_is.Index array sub) h k
    fact_keeps (factor_is.Cell array sub) h k = leaf (factor_is.Cell array sub) h k

  assign_keeps : (assign : Assign) → KeepsAssign p assign → KeepsAssign q assign → KeepsAssign r assign
  assign_keeps assign h k = record { array = array assign.array h.array k.array; sub = ix assign.sub h.sub k.sub; value = value_keeps assign.value h.value k.value }

  guard_keeps : (guard : Guard) → KeepsGuard p guard → KeepsGuard q guard → KeepsGuard r guard
  guard_keeps guard h k = record {
    conds = λ n d inside. let one = h.conds n d inside in let other = k.conds n d inside in record { left = ix _ one.left other.left; right = ix _ one.right other.right };
    body = λ n d inside. assign_keeps _ (h.body n d inside) (k.body n d inside);
  }

  part_keeps : (part : Part) → KeepsPart p part → KeepsPart q part → KeepsPart r part
  part_keeps (part_is.Assign assign) h k = assign_keeps assign h k
  part_keeps (part_is.Branch guard) h k = guard_keeps guard h k

module _ (within : (term : Term) → IsBounded term → IsWithinSize 64 (2 ^ 34 + 2 ^ 30) (2 ^ 26) term) (counts : NameCounts) (few : counts.arrays ≤ 64) where
  module _ (variables : ℕ) (fits : variables ≤ 2) where
    ix_placeable : (term : Term) → IsNamedTerm counts variables term → IsBounded term → IsPlaceable term
    ix_placeable term h k = record { within = within term k; variables = variables_fewer variables 2 fits term (named_below counts variables term h) }

    leaf_placeable : (factor : Factor) → IsNamedLeaf counts variables factor → HasBounded factor → HasPlaceable factor
    leaf_placeable (factor_is.Number number) h k = tt
    leaf_placeable (factor_is.Paren inside) h k = tt
    leaf_placeable (factor_is.Param number) h k = tt
    leaf_placeable (factor_is.Var number) h k = omega (arith, h, fits)
    leaf_placeable (factor_is.Index array sub) h k = ix_placeable sub h.1 k
    leaf_placeable (factor_is.Cell array sub) h k = let inside = h.0 in (omega (arith, inside, few), ix_placeable sub h.1 k)

    part_placeable : (part : Part) → KeepsPart (named counts variables) part → KeepsPart bounded part → KeepsPart placeable part
    part_placeable = part_keeps (named counts variables) bounded placeable ix_placeable leaf_placeable (λ number h k. omega (arith, h, few))

  pub item_placeable : (item : Item) → KeepsItem (named counts) item → IsBoundedItem item → KeepsItem (λ variables. placeable) item
  item_placeable (item_is.Assign assign) h k = part_placeable 1 (omega arith) (part_is.Assign assign) h k
  item_placeable (item_is.Branch guard) h k = part_placeable 1 (omega arith) (part_is.Branch guard) h k
  item_placeable (item_is.Inner var low high parts) h k = (
    ix_placeable 1 (omega arith) low h.0 k.0,
    ix_placeable 1 (omega arith) high h.1 k.1,
    λ n d inside. part_placeable 2 (omega arith) _ (h.2 n d inside) (k.2 n d inside),
  )

-- ---- rewritten values

module _ (to : Rewriting) where
  facts_listed : {n : _} (row : Row_of-Factor n) → facts_terms to row ≡ flat_map (fact_terms to) (items-the_row-Factor n row)
  facts_listed end_of-Factor = refl
  facts_listed (more_of-Factor fact others) = ap (λ rest. fact_terms to fact ++ rest) (facts_listed others)

  prods_listed : {n : _} (row : Row_of-Prod n) → prods_terms to row ≡ flat_map (prod_terms to) (items-the_row-Prod n row)
  prods_listed end_of-Prod = refl
  prods_listed (more_of-Prod minus shape facts others) =
      let here = facts_listed facts ∙ ap (flat_map (fact_terms to)) (sym (items_shown-the_row-Factor-0 shape facts)) in
      let more = prods_listed others in
      λ i. here i ++ more i

  pub value_listed : (value : Value) → value_terms to value ≡ flat_map (prod_terms to) (out-Value value).prods
  unfolding out-Value denote.Hole.Carrier.out
  value_listed (Value' shape prods) = prods_listed prods ∙ ap (flat_map (prod_terms to)) (sym (items_shown-the_row-Prod-1 shape prods))

  facts_made : {n : _} (row : Row_of-Factor n) → items-the_row-Factor n (rewritten_facts to row) ≡ map (rewritten_fact to) (items-the_row-Factor n row)
  facts_made end_of-Factor = refl
  facts_made (more_of-Factor fact others) = ap (λ rest. rewritten_fact to fact ∷ rest) (facts_made others)

  prods_made : {n : _} (row : Row_of-Prod n) → items-the_row-Prod n (rewritten_prods to row) ≡ map (rewritten_prod to) (items-the_row-Prod n row)
  prods_made end_of-Prod = refl
  prods_made (more_of-Prod minus shape facts others) =
      let here = items_shown-the_row-Factor-0 shape (rewritten_facts to facts) ∙ facts_made facts ∙ ap (map (rewritten_fact to)) (sym (items_shown-the_row-Factor-0 shape facts)) in
      let more = prods_made others in
      λ i. record { minus = minus; facts = here i } ∷ more i

  pub value_made : (value : Value) → rewritten_value to value ≡ roll-Value (record { prods = map (rewritten_prod to) (out-Value value).prods })
  unfolding out-Value denote.Hole.Carrier.out
  value_made (Value' shape prods) =
      sym (roll-out-Value (Value' shape (rewritten_prods to prods)))
      ∙ ap (λ of. roll-Value (record { prods = of })) (items_shown-the_row-Prod-1 shape (rewritten_prods to prods) ∙ prods_made prods ∙ ap (map (rewritten_prod to)) (sym (items_shown-the_row-Prod-1 shape prods)))
