-- The items of a loop with composed terms in place of the source's.
use Rattle.std.specs.Prelude.{ℕ, ◌+◌, ℤ, pos, negsuc, Bool, true, false, Option, List, [], ◌∷◌, map, unsigned_abs}
use Rattle.spf_term.specs.declared.term.Atom.{Atom, Var, Param, App}
use Rattle.spf_term.specs.declared.term.Mono.{Mono}
use Rattle.spf_term.specs.declared.term.Term.{Term, out-Term}
use Rattle.spf_kernel.specs.declared.tree.Value.{Value, Value', roll-Value, Row_of-Prod, end_of-Prod, more_of-Prod, Row_of-Factor, end_of-Factor, more_of-Factor}
use Rattle.spf_kernel.specs.declared.tree.Prod.{Prod}
use Rattle.spf_kernel.specs.declared.tree.Factor.{Factor}
use Rattle.spf_kernel.specs.declared.tree.Factor.TheVariants as factor_is
use Rattle.spf_kernel.specs.declared.tree.Assign.{Assign}
use Rattle.spf_kernel.specs.declared.tree.Cond.{Cond}
use Rattle.spf_kernel.specs.declared.tree.Guard.{Guard}
use Rattle.spf_kernel.specs.declared.tree.Part.{Part}
use Rattle.spf_kernel.specs.declared.tree.Part.TheVariants as part_is
use Rattle.spf_kernel.specs.declared.tree.Item.{Item}
use Rattle.spf_kernel.specs.declared.tree.Item.TheVariants as item_is
use Rattle.spf_kernel.specs.declared.tree.Loop.{Loop}
use Rattle.spf_kernel.specs.declared.tree.Tree.{Tree}
use Rattle.spf_exec.specs.Composed.{applied, composed, first_packing, is_moved, iteration_in, packed_by, variable}
use Rattle.spf_exec.specs.declared.program.Moved.{Moved}

-- ---- a term as a value: a product for each monomial, and one for the constant

abbrev pub is_negative : ℤ → Bool
is_negative (pos number) = false
is_negative (negsuc number) = true

abbrev pub product_of : ℤ → List Factor → Prod
product_of number facts = record { minus = is_negative number; facts = factor_is.Number (unsigned_abs number) ∷ facts }

abbrev pub factor_of : Atom → Factor
factor_of (Var number) = factor_is.Var number
factor_of (Param number) = factor_is.Param number
factor_of (App fun arg) = factor_is.Index fun arg

abbrev pub products_of : List Mono → ℤ → List Prod
products_of [] constant = product_of constant [] ∷ []
products_of (mono ∷ monos) constant = product_of mono.coef (factor_of mono.atom ∷ []) ∷ products_of monos constant

abbrev pub as_value : Term → Value
as_value term = roll-Value (record { prods = products_of (out-Term term).monos (out-Term term).constant })

-- ---- other terms

-- what becomes of index expressions, and of the subscripts of each data array
pub record Rewriting : Type 0 where
  pub index : Term → Term
  pub cell : ℕ → Term → Term

module _ (to : Rewriting) where
  -- a loop variable or an entry of an index array that is a factor becomes a term in parentheses
  abbrev mutual
    pub rewritten_value : Value → Value
    rewritten_value (Value' shape prods) = Value' shape (rewritten_prods prods)

    pub rewritten_prods : {n : _} → Row_of-Prod n → Row_of-Prod n
    rewritten_prods end_of-Prod = end_of-Prod
    rewritten_prods (more_of-Prod minus shape facts others) = more_of-Prod minus shape (rewritten_facts facts) (rewritten_prods others)

    pub rewritten_facts : {n : _} → Row_of-Factor n → Row_of-Factor n
    rewritten_facts end_of-Factor = end_of-Factor
    rewritten_facts (more_of-Factor fact others) = more_of-Factor (rewritten_fact fact) (rewritten_facts others)

    pub rewritten_fact : Factor → Factor
    rewritten_fact (factor_is.Number number) = factor_is.Number number
    rewritten_fact (factor_is.Paren inside) = factor_is.Paren (rewritten_value inside)
    rewritten_fact (factor_is.Param number) = factor_is.Param number
    rewritten_fact (factor_is.Var number) = factor_is.Paren (as_value (to.index (variable number)))
    rewritten_fact (factor_is.Index array sub) = factor_is.Paren (as_value (applied array (to.index sub)))
    rewritten_fact (factor_is.Cell array sub) = factor_is.Cell array (to.cell array sub)

  abbrev pub rewritten_prod : Prod → Prod
  rewritten_prod prod = record { minus = prod.minus; facts = map rewritten_fact prod.facts }

  abbrev pub rewritten_assign : Assign → Assign
  rewritten_assign assign = record { array = assign.array; sub = to.cell assign.array assign.sub; sign = assign.sign; value = rewritten_value assign.value }

  abbrev pub rewritten_cond : Cond → Cond
  rewritten_cond cond = record { left = to.index cond.left; sign = cond.sign; right = to.index cond.right }

  abbrev pub rewritten_guard : Guard → Guard
  rewritten_guard guard = record { conds = map rewritten_cond guard.conds; body = map rewritten_assign guard.body }

  abbrev pub rewritten_part : Part → Part
  rewritten_part (part_is.Assign assign) = part_is.Assign (rewritten_assign assign)
  rewritten_part (part_is.Branch guard) = part_is.Branch (rewritten_guard guard)

  abbrev pub rewritten_item : Item → Item
  rewritten_item (item_is.Assign assign) = item_is.Assign (rewritten_assign assign)
  rewritten_item (item_is.Branch guard) = item_is.Branch (rewritten_guard guard)
  rewritten_item (item_is.Inner var low high parts) = item_is.Inner var (to.index low) (to.index high) (map rewritten_part parts)

  abbrev pub rewritten_items : List Item → List Item
  rewritten_items items = map rewritten_item items

-- ---- the executor's items

-- index expressions become composed terms, and subscripts of data arrays packed ones: with the iteration as a term of the
-- position, and the arrays that are packed, by functions from this number on
abbrev pub composing_by : Term → List (Option (List ℕ)) → ℕ → Rewriting
composing_by iteration arrays packings = record { index = composed iteration; cell = λ array sub. packed_by (is_moved arrays array) (packings + array) (composed iteration sub) }

module _ (tree : Tree) (moved : Moved) where
  abbrev pub composing : ℕ → Loop → Rewriting
  composing loop_no loop = composing_by (iteration_in tree moved loop_no loop) moved.arrays (first_packing tree)

  -- the items of a loop with the terms of the program
  abbrev pub executor_items : ℕ → Loop → List Item
  executor_items loop_no loop = rewritten_items (composing loop_no loop) loop.items
