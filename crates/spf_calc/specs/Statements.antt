-- What statements do one behind another, up to the first that breaks a rule.
use Rattle.std.specs.Prelude.{ℕ, ◌≡◌, ◌+◌, ◌⊎◌, ℤ, Option, None, Some, Result, Ok, Err, List, [], ◌∷◌, ◌++◌, codes, ⊤}
use Rattle.spf_rel.specs.Function.{IsFunction}
use Rattle.spf_term.specs.declared.fault.TermFault.TheVariants.{Wide}
use Rattle.spf_term.specs.declared.term.Term.{Term}
use Rattle.spf_reltext.specs.Printed.{parts_from, rel_naming, rel_text, set_text, term_text}
use Rattle.spf_reltext.specs.declared.names.RelNames.{RelNames}
use Rattle.spf_calc.specs.Evaluated.{Gives}
use Rattle.spf_calc.specs.Rules.{exp_of, least_rule}
use Rattle.spf_calc.specs.Situation.{Situation, with_line, with_name}
use Rattle.spf_calc.specs.declared.fault.CalcFault.{CalcFault}
use Rattle.spf_calc.specs.declared.fault.CalcFault.TheVariants.{Text, Rule, Memory}
use Rattle.spf_calc.specs.declared.raw.RawStatement.{RawStatement}
use Rattle.spf_calc.specs.declared.raw.RawStatement.TheVariants.{Let, Show, Function}
use Rattle.spf_calc.specs.declared.value.Value.{Value}
use Rattle.spf_calc.specs.declared.value.Value.TheVariants.{Points, Pairs}

module _ (names : RelNames) where
  abbrev pub value_text : Value → List ℕ
  value_text (Points set) = set_text names set
  value_text (Pairs rel) = rel_text names rel

  -- the outputs as terms in so many inputs, where there are such
  abbrev pub function_text : ℕ → Option (List Term) → List ℕ
  function_text ins None = codes "none"
  function_text ins (Some terms) = codes "[" ++ parts_from [] (codes ", ") (term_text (rel_naming ins 0 names)) 0 terms ++ codes "]"

  -- a relation is shown as terms, or there is none where they are too wide
  abbrev pub LeavesFunction : Situation → Value → Option Situation → Type 0
  LeavesFunction state (Points set) next = ⊥
  LeavesFunction state (Pairs rel) (Some next) = (found : Option (List Term)) × IsFunction rel (Ok found) × (next ≡ with_line state (function_text rel.ins found))
  LeavesFunction state (Pairs rel) None = (number : ℤ) × IsFunction rel (Err (Wide number))

  -- what is behind a statement with this value
  abbrev pub Leaves : Situation → RawStatement → Value → Option Situation → Type 0
  Leaves state (Let name exp) value next = next ≡ Some (with_name state name value)
  Leaves state (Show exp) value next = next ≡ Some (with_line state (value_text value))
  Leaves state (Function exp) value next = LeavesFunction state value next

  -- the statement has a value, and this is behind it
  abbrev pub Runs : Situation → RawStatement → Option Situation → Type 0
  Runs state statement (Some next) = (value : Value) × Gives names state.bindings (exp_of statement) (Some value) × Leaves state statement value (Some next)
  Runs state statement None = Gives names state.bindings (exp_of statement) None ⊎ ((value : Value) × Gives names state.bindings (exp_of statement) (Some value) × Leaves state statement value None)

  -- the least rule that the statement with this number breaks
  abbrev pub Breaks : ℕ → Situation → RawStatement → ℕ → Type 0
  Breaks number state statement rule =
      (least_rule state.bindings number statement ≡ Some rule) ⊎ ((rule ≡ 25) × (least_rule state.bindings number statement ≡ None) × Runs state statement None)

  -- what the statement with this number does, or the least rule that it breaks; out of memory is free
  abbrev pub IsStep : ℕ → Situation → RawStatement → Result Situation CalcFault → Type 0
  IsStep number state statement (Ok next) = (least_rule state.bindings number statement ≡ None) × Runs state statement (Some next)
  IsStep number state statement (Err (Rule at rule)) = (at ≡ number) × Breaks number state statement rule
  IsStep number state statement (Err (Text place kind)) = ⊥
  IsStep number state statement (Err Memory) = ⊤

  -- what statements, of which the first has this number, do one behind another, or the first refusal
  abbrev pub AreSteps : ℕ → Situation → List RawStatement → Result Situation CalcFault → Type 0
  AreSteps number state [] (Ok end) = end ≡ state
  AreSteps number state [] (Err fault) = ⊥
  AreSteps number state (statement ∷ statements) (Ok end) = (next : Situation) × IsStep number state statement (Ok next) × AreSteps (number + 1) next statements (Ok end)
  AreSteps number state (statement ∷ statements) (Err fault) =
      IsStep number state statement (Err fault) ⊎ ((next : Situation) × IsStep number state statement (Ok next) × AreSteps (number + 1) next statements (Err fault))
