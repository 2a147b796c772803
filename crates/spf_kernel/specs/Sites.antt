-- The sites of a tree, each with a weight that its index expression has.
use Rattle.std.specs.Prelude.{ℕ, ◌+◌}
use Rattle.std.specs.List.{sum_by}
use Rattle.spf_kernel.specs.Types.{Term, Value, Value', Row_of-Prod, end_of-Prod, more_of-Prod, Row_of-Factor, end_of-Factor, more_of-Factor, Prod, Factor, Assign, Cond, Guard, Part, Item, Loop, Tree}

-- of what is nested in an index expression, of an entry of an index array, of an element of a data array, and of a bound
pub record Weights : Type 0 where
  pub nested : Term → ℕ
  pub table : Term → ℕ
  pub cell : Term → ℕ
  pub bound : Term → ℕ

module _ (weights : Weights) where
  abbrev mutual
    pub value_sites : Value → ℕ
    value_sites (Value' shape prods) = prods_sites prods

    pub prods_sites : {n : _} → Row_of-Prod n → ℕ
    prods_sites end_of-Prod = 0
    prods_sites (more_of-Prod minus shape facts others) = facts_sites facts + prods_sites others

    pub facts_sites : {n : _} → Row_of-Factor n → ℕ
    facts_sites end_of-Factor = 0
    facts_sites (more_of-Factor fact others) = fact_sites fact + facts_sites others

    pub fact_sites : Factor → ℕ
    fact_sites (Factor.Paren value) = value_sites value
    fact_sites (Factor.Index array sub) = weights.table sub
    fact_sites (Factor.Cell array sub) = weights.cell sub
    fact_sites fact = 0

  abbrev pub prod_sites : Prod → ℕ
  prod_sites prod = sum_by fact_sites prod.facts

  -- the target, and the sites of the value
  abbrev pub assign_sites : Assign → ℕ
  assign_sites assign = weights.cell assign.sub + value_sites assign.value

  abbrev pub cond_sites : Cond → ℕ
  cond_sites cond = weights.nested cond.left + weights.nested cond.right

  abbrev pub guard_sites : Guard → ℕ
  guard_sites guard = sum_by cond_sites guard.conds + sum_by assign_sites guard.body

  abbrev pub part_sites : Part → ℕ
  part_sites (Part.Assign assign) = assign_sites assign
  part_sites (Part.Branch guard) = guard_sites guard

  abbrev pub item_sites : Item → ℕ
  item_sites (Item.Assign assign) = assign_sites assign
  item_sites (Item.Branch guard) = guard_sites guard
  item_sites (Item.Inner var low high parts) = weights.bound low + weights.bound high + sum_by part_sites parts

  abbrev pub loop_sites : Loop → ℕ
  loop_sites loop = sum_by item_sites loop.items

-- an element of a data array, wherever it stands, is one data site
abbrev pub of_data : Weights
of_data = record { nested = λ term. 0; table = λ term. 0; cell = λ term. 1; bound = λ term. 0 }

-- how many data sites the loops have
abbrev pub data_sites : Tree → ℕ
data_sites tree = sum_by (loop_sites of_data) tree.loops
