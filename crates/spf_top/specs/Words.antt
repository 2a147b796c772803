-- Which lists of words are accepted, what they ask for, and at which word a list is refused.
use Rattle.std.specs.Prelude.{◌≡◌, ℕ, ◌+◌, ◌-◌, ◌≤◌, List, [], ◌∷◌, ◌++◌, length, take, codes}
use Rattle.spf_top.specs.declared.words.Asked.{Asked}
use Rattle.spf_top.specs.declared.words.Asked.TheVariants.{Bundle, Calc}
use Rattle.spf_top.specs.declared.words.Goal.TheVariants.{Run, Plan, Emit}

-- the word of a command
abbrev pub word_of : Asked → List ℕ
word_of (Bundle Run) = codes "run"
word_of (Bundle Plan) = codes "plan"
word_of (Bundle Emit) = codes "emit"
word_of Calc = codes "calc"

-- the words ask for this command: its word alone
abbrev pub AsksFor : List (List ℕ) → Asked → Type 0
AsksFor words asked = words ≡ word_of asked ∷ []

-- the accepted lists of words: those that ask for a command
abbrev pub IsAccepted : List (List ℕ) → Type 0
IsAccepted words = (asked : Asked) × AsksFor words asked

-- some accepted list begins with these words
abbrev pub BeginsAccepted : List (List ℕ) → Type 0
BeginsAccepted words = (more : List (List ℕ)) × IsAccepted (words ++ more)

-- The first word, counted from 1, up to which the words begin no accepted list. Where there is no such word, since the
-- list only ends too early, it is the one behind the last.
pub record IsRefusedAt (words : List (List ℕ)) (word : ℕ) : Type 0 where
  pub first : 1 ≤ word
  pub last : word ≤ length words + 1
  pub before : BeginsAccepted (take (word - 1) words)
  pub here : word ≤ length words → BeginsAccepted (take word words) → ⊥
  pub behind : word ≡ length words + 1 → IsAccepted words → ⊥
