-- Rewritten items are small where their terms are.
use Rattle.std.proofs.Common.{ℕ, ◌<◌, ℤ, List, [], ◌∷◌, All, get_or}
use Rattle.std.proofs.lemmas.List.Elements.{All-map}
use Rattle.std.specs.Prelude.{◌^◌}
use Rattle.spf_term.specs.Bounded.{IsBounded, IsWithin}
use Rattle.spf_term.specs.Environment.{Environment}
use Rattle.spf_term.specs.Value.{IsSmall}
use Rattle.spf_term.specs.declared.term.Term.{Term}
use Rattle.spf_kernel.specs.Bounded.{AreBoundedFactors, AreBoundedProds, IsBoundedAssign, IsBoundedCond, IsBoundedFactor, IsBoundedGuard, IsBoundedItem, IsBoundedPart, IsBoundedValue}
use Rattle.spf_kernel.specs.Kept.{KeepFactors, KeepProds, KeepsAssign, KeepsCond, KeepsFactor, KeepsGuard, KeepsItem, KeepsPart, KeepsValue}
use Rattle.spf_kernel.specs.Named.{IsNamedTerm, NameCounts, named}
use Rattle.spf_kernel.specs.declared.tree.Value.{Value, Value', Row_of-Prod, end_of-Prod, more_of-Prod, Row_of-Factor, end_of-Factor, more_of-Factor}
use Rattle.spf_kernel.specs.declared.tree.Factor.{Factor}
use Rattle.spf_kernel.specs.declared.tree.Factor.TheVariants as factor_is
use Rattle.spf_kernel.specs.declared.tree.Assign.{Assign}
use Rattle.spf_kernel.specs.declared.tree.Cond.{Cond}
use Rattle.spf_kernel.specs.declared.tree.Guard.{Guard}
use Rattle.spf_kernel.specs.declared.tree.Part.{Part}
use Rattle.spf_kernel.specs.declared.tree.Part.TheVariants as part_is
use Rattle.spf_kernel.specs.declared.tree.Item.{Item}
use Rattle.spf_kernel.specs.declared.tree.Item.TheVariants as item_is
use Rattle.spf_store.specs.Small.{IsSmallAssign, IsSmallCond, IsSmallGuard, IsSmallItem, IsSmallPart, IsSmallValue, small}
use Rattle.spf_exec.specs.Composed.{applied, variable}
use Rattle.spf_exec.specs.Rewritten.{Rewriting, as_value, rewritten_assign, rewritten_cond, rewritten_fact, rewritten_facts, rewritten_guard, rewritten_item, rewritten_items, rewritten_part, rewritten_prods, rewritten_value}

module _ (exec : Environment) (to : Rewriting) (counts : NameCounts) where
  -- rewritten terms are small, and as values too, where these are the values of the variables, of which there are so many
  pub record AreSmallAt (variables : ℕ) (here : List ℤ) : Type 0 where
    pub index : (of : Term) → IsNamedTerm counts variables of → IsBounded of → IsSmall exec here (to.index of)
    pub cell : (array : ℕ) (sub : Term) → IsNamedTerm counts variables sub → IsBounded sub → IsSmall exec here (to.cell array sub)
    pub number : (n : ℕ) → n < variables → IsSmallValue exec here (as_value (to.index (variable n)))
    pub entry : (array : ℕ) (sub : Term) → IsNamedTerm counts variables sub → IsBounded sub → IsSmallValue exec here (as_value (applied array (to.index sub)))

  module _ (variables : ℕ) (here : List ℤ) (are : AreSmallAt variables here) where
    mutual
      value_small : (value : Value) → KeepsValue (named counts variables) value → IsBoundedValue value → IsSmallValue exec here (rewritten_value to value)
      value_small (Value' shape prods) is bounded = prods_small prods is bounded

      prods_small : {n : _} (row : Row_of-Prod n) → KeepProds (named counts variables) row → AreBoundedProds row → KeepProds (small exec here) (rewritten_prods to row)
      prods_small end_of-Prod is bounded = tt
      prods_small (more_of-Prod minus shape facts others) is bounded = (facts_small facts is.0 bounded.0, prods_small others is.1 bounded.1)

      facts_small : {n : _} (row : Row_of-Factor n) → KeepFactors (named counts variables) row → AreBoundedFactors row → KeepFactors (small exec here) (rewritten_facts to row)
      facts_small end_of-Factor is bounded = tt
      facts_small (more_of-Factor fact others) is bounded = (fact_small fact is.0 bounded.0, facts_small others is.1 bounded.1)

      fact_small : (fact : Factor) → KeepsFactor (named counts variables) fact → IsBoundedFactor fact → KeepsFactor (small exec here) (rewritten_fact to fact)
      fact_small (factor_is.Number number) is bounded = tt
      fact_small (factor_is.Paren inside) is bounded = value_small inside is bounded
      fact_small (factor_is.Param number) is bounded = tt
      fact_small (factor_is.Var number) is bounded = are.number number is
      fact_small (factor_is.Index array sub) is bounded = are.entry array sub is.1 bounded
      fact_small (factor_is.Cell array sub) is bounded = are.cell array sub is.1 bounded

    assign_small : (assign : Assign) → KeepsAssign (named counts variables) assign → IsBoundedAssign assign → IsSmallAssign exec here (rewritten_assign to assign)
    assign_small assign is bounded = record { array = tt; sub = are.cell assign.array assign.sub is.sub bounded.sub; value = value_small assign.value is.value bounded.value }

    cond_small : (cond : Cond) → KeepsCond (named counts variables) cond → IsBoundedCond cond → IsSmallCond exec here (rewritten_cond to cond)
    cond_small cond is bounded = record { left = are.index cond.left is.left bounded.left; right = are.index cond.right is.right bounded.right }

    guard_small : (guard : Guard) → KeepsGuard (named counts variables) guard → IsBoundedGuard guard → IsSmallGuard exec here (rewritten_guard to guard)
    guard_small guard is bounded = record {
      conds = All-map (IsSmallCond exec here) (rewritten_cond to) guard.conds (λ k d inside. cond_small (get_or guard.conds k d) (is.conds k d inside) (bounded.conds k d inside));
      body = All-map (IsSmallAssign exec here) (rewritten_assign to) guard.body (λ k d inside. assign_small (get_or guard.body k d) (is.body k d inside) (bounded.body k d inside));
    }

    pub part_small : (part : Part) → KeepsPart (named counts variables) part → IsBoundedPart part → IsSmallPart exec here (rewritten_part to part)
    part_small (part_is.Assign assign) is bounded = assign_small assign is bounded
    part_small (part_is.Branch guard) is bounded = guard_small guard is bounded

  module _ (position : ℤ) (outer : AreSmallAt 1 (position ∷ [])) (inner : (turn : ℤ) → IsWithin (2 ^ 22) turn → AreSmallAt 2 (position ∷ turn ∷ [])) where
    item_small : (item : Item) → KeepsItem (named counts) item → IsBoundedItem item → IsSmallItem exec (position ∷ []) (rewritten_item to item)
    item_small (item_is.Assign assign) is bounded = assign_small 1 (position ∷ []) outer assign is bounded
    item_small (item_is.Branch guard) is bounded = guard_small 1 (position ∷ []) outer guard is bounded
    item_small (item_is.Inner var low high parts) is bounded = (
      outer.index low is.0 bounded.0,
      outer.index high is.1 bounded.1,
      λ turn within. All-map (IsSmallPart exec (position ∷ turn ∷ [])) (rewritten_part to) parts
          (λ k d inside. part_small 2 (position ∷ turn ∷ []) (inner turn within) (get_or parts k d) (is.2 k d inside) (bounded.2 k d inside)),
    )

    pub items_small : (items : List Item) → All (KeepsItem (named counts)) items → All IsBoundedItem items → All (IsSmallItem exec (position ∷ [])) (rewritten_items to items)
    items_small items is bounded = All-map (IsSmallItem exec (position ∷ [])) (rewritten_item to) items (λ k d inside. item_small (get_or items k d) (is k d inside) (bounded k d inside))
