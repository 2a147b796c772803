-- The names of parameters and functions, numbered by their first use.
use Rattle.std.specs.Prelude.{ℕ, ◌≡◌, if◌then◌else◌, List, [], ◌∷◌, ◌++◌, length, fold, position}
use Rattle.std.specs.List.{list_any}
use Rattle.std.specs.Option.{unwrap_or}
use Rattle.std.specs.Str.{bytes_eq}
use Rattle.spf_reltext.specs.Facts.{constraints_facts}
use Rattle.spf_reltext.specs.Rules.{variables}
use Rattle.spf_reltext.specs.declared.fact.Fact.{Fact}
use Rattle.spf_reltext.specs.declared.fact.Role.{Role}
use Rattle.spf_reltext.specs.declared.names.RelNames.{RelNames}
use Rattle.spf_reltext.specs.declared.raw.RawLiteral.{RawLiteral}

-- the place of a name, or how many there are
abbrev pub number_of : List (List ℕ) → List ℕ → ℕ
number_of names name = unwrap_or (position (bytes_eq name) names) (length names)

-- the names with this one behind them, where it isn't among them
abbrev pub inserted : List (List ℕ) → List ℕ → List (List ℕ)
inserted names name = if list_any (bytes_eq name) names then names else names ++ name ∷ []

abbrev pub with_param : RelNames → List ℕ → RelNames
with_param names name = record { params = inserted names.params name; funs = names.funs }

abbrev pub with_fun : RelNames → List ℕ → RelNames
with_fun names name = record { params = names.params; funs = inserted names.funs name }

-- a name that is no variable is a parameter, and one with brackets a function
abbrev pub noted : List (List ℕ) → RelNames → Role → RelNames
noted variables names Role.Alone = names
noted variables names (Role.Plain name) = if list_any (bytes_eq name) variables then names else with_param names name
noted variables names (Role.Entry name) = with_fun names name

abbrev pub fact_names : List (List ℕ) → RelNames → List Fact → RelNames
fact_names variables names facts = fold (λ (names : RelNames) (fact : Fact). noted variables names fact.role) names facts

abbrev pub literal_names : RelNames → RawLiteral → RelNames
literal_names names literal = fact_names (variables literal) names (constraints_facts literal.constraints)

-- the names, and behind them those that the literals use first, in the order of the text
abbrev pub names_of : RelNames → List RawLiteral → RelNames
names_of names literals = fold literal_names names literals

-- the list goes on behind what it had
abbrev pub GoesOn : List (List ℕ) → List (List ℕ) → Type 0
GoesOn old new = (more : List (List ℕ)) × (new ≡ old ++ more)

-- what the names had stays at its number
pub record Extends (old new : RelNames) : Type 0 where
  pub params : GoesOn old.params new.params
  pub funs : GoesOn old.funs new.funs
