-- Words, one behind another, with a blank between two.
use Rattle.std.specs.Prelude.{ℕ, ◌≡◌, Bool, true, All, not, ◌==◌, List, [], ◌∷◌, ◌++◌, flat_map, codes, if◌then◌else◌}
use Rattle.std.specs.List.{list_all}

-- the words with one blank between two, and none in front or behind
abbrev pub joined : List (List ℕ) → List ℕ
joined [] = []
joined (word ∷ words) = word ++ flat_map (λ next. 32 ∷ next) words

-- no byte of the word is a blank
abbrev pub has_no_blank : List ℕ → Bool
has_no_blank word = list_all (λ b. not (b == 32)) word

-- words without blanks stand there, with a blank behind each
pub record IsEnded (text : List ℕ) : Type 0 where
  pub words : List (List ℕ)
  pub blanks : All (λ word. has_no_blank word ≡ true) words
  pub is : text ≡ flat_map (λ word. word ++ 32 ∷ []) words

-- the words of such a text, where this much of the first was read
unfoldable pub split : List ℕ → List ℕ → List (List ℕ)
split begun [] = []
split begun (b ∷ bs) = if b == 32 then begun ∷ split [] bs else split (begun ++ b ∷ []) bs

-- the names with a comma between two
abbrev pub listed : List (List ℕ) → List (List ℕ)
listed [] = []
listed (name ∷ names) = name ∷ flat_map (λ next. codes "," ∷ next ∷ []) names
