-- What the events of an iteration make of the values of elements.
use Rattle.std.specs.Prelude.{ℕ, ◌+◌, ◌==◌, ℤ, pos, negsuc, neg_ℤ, ◌+ℤ◌, ◌*ℤ◌, Bool, if◌then◌else◌, List, [], ◌∷◌, slice_index_or}
use Rattle.spf_base.specs.Wrap.{wrap}
use Rattle.spf_term.specs.Environment.{Environment}
use Rattle.spf_term.specs.Value as term
use Rattle.spf_term.specs.declared.term.Term.{Term}
use Rattle.spf_touch.specs.Blend.{blend}
use Rattle.spf_kernel.specs.declared.tree.Value.{Value, Value', Row_of-Prod, end_of-Prod, more_of-Prod, Row_of-Factor, end_of-Factor, more_of-Factor}
use Rattle.spf_kernel.specs.declared.tree.Factor.{Factor}
use Rattle.spf_kernel.specs.declared.tree.Factor.TheVariants as factor_is
use Rattle.spf_kernel.specs.declared.tree.Assign.{Assign}
use Rattle.spf_kernel.specs.declared.tree.Becomes.{Becomes}
use Rattle.spf_store.specs.Event.{Event, Store}
use Rattle.spf_store.specs.Trace.{target_class}

-- the element at a place of the array whose first element this is; a place below 0 counts as 0
abbrev pub element_at : ℕ → ℤ → ℕ
element_at start (pos place) = start + place
element_at start (negsuc place) = start

abbrev pub signed : Bool → ℤ → ℤ
signed minus z = if minus then neg_ℤ z else z

-- what an assignment makes of the old value of its target, into which the value, wrapped to 64 bits, is blended as the class of
-- its sign has it: `=` stores the value, `+=` the sum of both, which wraps
abbrev pub stored : Becomes → ℤ → ℤ → ℤ
stored sign old value = blend (target_class sign) old (wrap value)

module _ (env : Environment) (starts : List ℕ) where
  -- the element of a data array at a subscript
  abbrev pub element : List ℤ → ℕ → Term → ℕ
  element variables array sub = element_at (slice_index_or starts array 0) (term.value env variables sub)

  module _ (variables : List ℤ) (cells : ℕ → ℤ) where
    -- the sum of the products, an integer
    abbrev mutual
      pub value : Value → ℤ
      value (Value' shape prods) = prods_value prods

      pub prods_value : {n : _} → Row_of-Prod n → ℤ
      prods_value end_of-Prod = pos 0
      prods_value (more_of-Prod minus shape facts others) = signed minus (facts_value facts) +ℤ prods_value others

      -- the product of the factors
      pub facts_value : {n : _} → Row_of-Factor n → ℤ
      facts_value end_of-Factor = pos 1
      facts_value (more_of-Factor fact others) = fact_value fact *ℤ facts_value others

      pub fact_value : Factor → ℤ
      fact_value (factor_is.Number number) = pos number
      fact_value (factor_is.Paren inside) = value inside
      fact_value (factor_is.Param number) = term.number_at env.params (pos number)
      fact_value (factor_is.Var number) = term.number_at variables (pos number)
      fact_value (factor_is.Index array sub) = term.number_at (term.table_at env array) (term.value env variables sub)
      fact_value (factor_is.Cell array sub) = cells (element variables array sub)

  -- the values once the assignment is carried out
  abbrev pub assigned : Assign → List ℤ → (ℕ → ℤ) → ℕ → ℤ
  assigned assign variables cells e =
      if e == element variables assign.array assign.sub
      then stored assign.sign (cells e) (value variables cells assign.value)
      else cells e

  -- the values after these events
  abbrev pub effect : List Event → (ℕ → ℤ) → ℕ → ℤ
  effect [] cells = cells
  effect (Store assign variables ∷ events) cells = effect events (assigned assign variables cells)
  effect (event ∷ events) cells = effect events cells
