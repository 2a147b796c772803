-- The actions of a unit, read off its trace.
use Rattle.std.specs.Prelude.{ℕ, ℤ, pos, ◌+ℤ◌, ◌*ℤ◌, List, [], ◌∷◌}
use Rattle.spf_term.specs.Environment.{Environment}
use Rattle.spf_term.specs.Value as term
use Rattle.spf_touch.specs.Actions.{Action, Made, both, cell, constant}
use Rattle.spf_kernel.specs.declared.tree.Value.{Value, Value', Row_of-Prod, end_of-Prod, more_of-Prod, Row_of-Factor, end_of-Factor, more_of-Factor}
use Rattle.spf_kernel.specs.declared.tree.Factor.{Factor}
use Rattle.spf_kernel.specs.declared.tree.Factor.TheVariants as factor_is
use Rattle.spf_kernel.specs.declared.tree.Assign.{Assign}
use Rattle.spf_store.specs.Effect.{element, signed}
use Rattle.spf_store.specs.Event.{Event, Store}
use Rattle.spf_store.specs.Trace.{target_class}

module _ (env : Environment) (starts : List ℕ) where
  module _ (variables : List ℤ) where
    -- how a value is made of the cells that it reads, from the left to the right
    abbrev mutual
      pub value_made : Value → Made
      value_made (Value' shape prods) = prods_made prods

      pub prods_made : {n : _} → Row_of-Prod n → Made
      prods_made end_of-Prod = constant (pos 0)
      prods_made (more_of-Prod minus shape facts others) = both (λ product rest. signed minus product +ℤ rest) (facts_made facts) (prods_made others)

      pub facts_made : {n : _} → Row_of-Factor n → Made
      facts_made end_of-Factor = constant (pos 1)
      facts_made (more_of-Factor fact others) = both (λ factor rest. factor *ℤ rest) (fact_made fact) (facts_made others)

      pub fact_made : Factor → Made
      fact_made (factor_is.Number number) = constant (pos number)
      fact_made (factor_is.Paren inside) = value_made inside
      fact_made (factor_is.Param number) = constant (term.number_at env.params (pos number))
      fact_made (factor_is.Var number) = constant (term.number_at variables (pos number))
      fact_made (factor_is.Index array sub) = constant (term.number_at (term.table_at env array) (term.value env variables sub))
      fact_made (factor_is.Cell array sub) = cell (element env starts variables array sub)

    -- an assignment stores or adds what its value is
    abbrev pub assign_action : Assign → Action
    assign_action assign = record {
      target = element env starts variables assign.array assign.sub;
      class = target_class assign.sign;
      made = value_made assign.value;
    }

  -- the assignments that are carried out
  abbrev pub actions_of : List Event → List Action
  actions_of [] = []
  actions_of (Store assign variables ∷ events) = assign_action variables assign ∷ actions_of events
  actions_of (_ ∷ events) = actions_of events
