-- Which grammars can be read by a look at the next token alone.
use Rattle.std.specs.Prelude.{Bool, true, false, not, ◌&&◌, ◌||◌, List, [], ◌∷◌, ◌++◌, if◌then◌else◌}
use Rattle.std.specs.List.{list_any, list_all}
use Rattle.spf_lex.specs.Grammar.{Grammar, Nothing, One, Then, Or, Many}

-- whether the empty list is a text of the grammar
unfoldable pub nullable : {K : Type 0} → Grammar K → Bool
nullable Nothing = true
nullable (One k) = false
nullable (Then g h) = nullable g && nullable h
nullable (Or g h) = nullable g || nullable h
nullable (Many g) = true

-- the kinds that texts of the grammar begin with; what a `let` names is computed only where it is needed
unfoldable pub first : {K : Type 0} → Grammar K → List K
first Nothing = []
first (One k) = k ∷ []
first (Then g h) = let others = first h in first g ++ (if nullable g then others else [])
first (Or g h) = first g ++ first h
first (Many g) = first g

-- where a text of the grammar begins with another of its texts, the kind behind that one is among these
unfoldable pub extension : {K : Type 0} → Grammar K → List K
extension Nothing = []
extension (One k) = []
extension (Then g h) = extension h ++ (if nullable h then extension g else [])
extension (Or g h) = extension g ++ extension h ++ (if nullable g then first h else []) ++ (if nullable h then first g else [])
extension (Many g) = first g ++ extension g

module _ {K : Type 0} (same : K → K → Bool) where
  -- no kind is in both lists
  abbrev pub are_disjoint : List K → List K → Bool
  are_disjoint ks others = list_all (λ k. not (list_any (same k) others)) ks

  -- the next token alone tells which way to read on
  unfoldable pub is_clear : Grammar K → Bool
  unfolding nullable first extension
  is_clear Nothing = true
  is_clear (One k) = true
  is_clear (Then g h) = is_clear g && is_clear h && are_disjoint (extension g) (first h)
  is_clear (Or g h) = is_clear g && is_clear h && not (nullable g && nullable h) && are_disjoint (first g) (first h)
  is_clear (Many g) = is_clear g && not (nullable g) && are_disjoint (extension g) (first g)
