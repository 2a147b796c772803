-- What the rules read: a role, the name that has it, and the names of the variables that are in scope there.
use Rattle.std.specs.Prelude.{ℕ, Bool, true, false, if◌then◌else◌, List, [], ◌∷◌, map, get_or}
use Rattle.spf_kernel.specs.Types.{Token, Note, Says, Scope}

pub record Fact : Type 0 where
  pub says : Says
  pub name : List ℕ
  pub variables : List (List ℕ)

abbrev pub fact_with : Says → List ℕ → List (List ℕ) → Fact
fact_with says name variables = record { says = says; name = name; variables = variables }

-- a role that is that of a name
abbrev pub has_name : Says → Bool
has_name (Says.Declared sort) = true
has_name Says.Variable = true
has_name (Says.Used brackets spot) = true
has_name _ = false

module _ (texts : List (List ℕ)) where
  abbrev pub text_of : Token → List ℕ
  text_of token = get_or texts token.at []

  -- the names of the variables in scope, the outer one first
  abbrev pub variables_in : Scope → List (List ℕ)
  variables_in Scope.Nothing = []
  variables_in (Scope.Within outer) = text_of outer ∷ []
  variables_in (Scope.Inside outer inner) = text_of outer ∷ text_of inner ∷ []

  abbrev pub fact_of : Note → Fact
  fact_of note = record { says = note.says; name = if has_name note.says then text_of note.token else []; variables = variables_in note.scope }

  abbrev pub facts_of : List Note → List Fact
  facts_of notes = map fact_of notes
