-- What statements leave behind.
use Rattle.std.specs.Prelude.{ℕ, List, [], ◌∷◌, ◌++◌}
use Rattle.spf_calc.specs.declared.value.Binding.{Binding}
use Rattle.spf_calc.specs.declared.value.Value.{Value}

-- the values that were given names, and the text of the results
pub record Situation : Type 0 where
  pub bindings : List Binding
  pub shown : List ℕ

abbrev pub start : Situation
start = record { bindings = []; shown = [] }

-- a name is given to a value
abbrev pub with_name : Situation → List ℕ → Value → Situation
with_name state name value = record { bindings = state.bindings ++ record { name = name; value = value } ∷ []; shown = state.shown }

-- a text is shown, and a line feed behind it
abbrev pub with_line : Situation → List ℕ → Situation
with_line state text = record { bindings = state.bindings; shown = state.shown ++ text ++ 10 ∷ [] }
