-- How many places of a body take a term: the subscripts of data arrays, the bounds of a `for`, the sides of conditions, and
-- the loop variables and entries of index arrays that are factors.
use Rattle.std.specs.Prelude.{ℕ, ◌≡◌, ◌+◌, length, map}
use Rattle.std.specs.List.{sum_by}
use Rattle.spf_kernel.specs.declared.tree.Value.{Value, Value', Row_of-Prod, end_of-Prod, more_of-Prod, Row_of-Factor, end_of-Factor, more_of-Factor}
use Rattle.spf_kernel.specs.declared.tree.Factor.{Factor}
use Rattle.spf_kernel.specs.declared.tree.Factor.TheVariants as factor_is
use Rattle.spf_kernel.specs.declared.tree.Prod.{Prod}
use Rattle.spf_kernel.specs.declared.tree.Assign.{Assign}
use Rattle.spf_kernel.specs.declared.tree.Cond.{Cond}
use Rattle.spf_kernel.specs.declared.tree.Guard.{Guard}
use Rattle.spf_kernel.specs.declared.tree.Part.{Part}
use Rattle.spf_kernel.specs.declared.tree.Part.TheVariants as part_is
use Rattle.spf_kernel.specs.declared.tree.Item.{Item}
use Rattle.spf_kernel.specs.declared.tree.Item.TheVariants as item_is
use Rattle.spf_kernel.specs.declared.tree.Loop.{Loop}
use Rattle.spf_kernel.specs.declared.tree.Tree.{Tree}
use Rattle.spf_exec.specs.declared.program.Body.{Body}
use Rattle.spf_exec.specs.declared.program.Program.{Program}

abbrev mutual
  pub value_places : Value → ℕ
  value_places (Value' shape prods) = prods_places prods

  pub prods_places : {n : _} → Row_of-Prod n → ℕ
  prods_places end_of-Prod = 0
  prods_places (more_of-Prod minus shape facts others) = facts_places facts + prods_places others

  pub facts_places : {n : _} → Row_of-Factor n → ℕ
  facts_places end_of-Factor = 0
  facts_places (more_of-Factor fact others) = fact_places fact + facts_places others

  pub fact_places : Factor → ℕ
  fact_places (factor_is.Number number) = 0
  fact_places (factor_is.Paren inside) = value_places inside
  fact_places (factor_is.Param number) = 0
  fact_places (factor_is.Var number) = 1
  fact_places (factor_is.Index array sub) = 1
  fact_places (factor_is.Cell array sub) = 1

abbrev pub prod_places : Prod → ℕ
prod_places prod = sum_by fact_places prod.facts

-- the target's, and then the value's
abbrev pub assign_places : Assign → ℕ
assign_places assign = 1 + value_places assign.value

-- both sides
abbrev pub cond_places : Cond → ℕ
cond_places cond = 2

abbrev pub guard_places : Guard → ℕ
guard_places guard = sum_by cond_places guard.conds + sum_by assign_places guard.body

abbrev pub part_places : Part → ℕ
part_places (part_is.Assign assign) = assign_places assign
part_places (part_is.Branch guard) = guard_places guard

-- of a `for` both bounds, and then the parts'
abbrev pub item_places : Item → ℕ
item_places (item_is.Assign assign) = assign_places assign
item_places (item_is.Branch guard) = guard_places guard
item_places (item_is.Inner var low high parts) = 2 + sum_by part_places parts

abbrev pub loop_places : Loop → ℕ
loop_places loop = sum_by item_places loop.items

-- each body of the program has as many terms as its loop has places
abbrev pub HasTermForEachPlace : Program → Tree → Type 0
HasTermForEachPlace program tree = map (λ (body : Body). length body.terms) program.loops ≡ map loop_places tree.loops
