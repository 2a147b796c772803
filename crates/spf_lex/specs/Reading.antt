-- The reader that looks at the next token alone.
use Rattle.std.specs.Prelude.{ℕ, zero, suc, Bool, false, not, ◌&&◌, ◌||◌, List, [], ◌∷◌, length, Result, Ok, Err, if◌then◌else◌}
use Rattle.std.specs.List.{list_any}
use Rattle.spf_lex.specs.Grammar.{Grammar, Nothing, One, Then, Or, Many}
use Rattle.spf_lex.specs.LookAhead.{nullable, first}

-- reads on behind what was read
abbrev pub and_then : {K : Type 0} → Result (List K) (List K) → (List K → Result (List K) (List K)) → Result (List K) (List K)
and_then (Ok rest) read = read rest
and_then (Err rest) read = Err rest

-- reads as long as the rest begins as a part does, at most so many times
abbrev pub many_of : {K : Type 0} → (List K → Bool) → (List K → Result (List K) (List K)) → ℕ → List K → Result (List K) (List K)
many_of begins read zero kinds = Ok kinds
many_of begins read (suc n) kinds = if begins kinds then and_then (read kinds) (many_of begins read n) else Ok kinds

module _ {K : Type 0} (same : K → K → Bool) where
  -- whether the next kind is one of these
  abbrev pub is_next_of : List K → List K → Bool
  is_next_of ks [] = false
  is_next_of ks (k ∷ kinds) = list_any (same k) ks

  -- whether the next kind begins a text of the grammar
  abbrev pub starts : Grammar K → List K → Bool
  starts g kinds = is_next_of (first g) kinds

  -- one token of this kind
  abbrev pub kind_of : K → List K → Result (List K) (List K)
  kind_of k [] = Err []
  kind_of k (next ∷ kinds) = if same next k then Ok kinds else Err (next ∷ kinds)

  -- whether the next kind says to read the first of the two: it begins that one, or that one can be empty and it doesn't begin the other
  abbrev pub prefers : Grammar K → Grammar K → List K → Bool
  prefers g h kinds = starts g kinds || (nullable g && not (starts h kinds))

  -- what reading a text of the grammar leaves: `Ok` behind it, and `Err` where it can't go on
  unfoldable pub run : Grammar K → List K → Result (List K) (List K)
  run Nothing kinds = Ok kinds
  run (One k) kinds = kind_of k kinds
  run (Then g h) kinds = and_then (run g kinds) (run h)
  run (Or g h) kinds = (if prefers g h kinds then run g else run h) kinds
  run (Many g) kinds = many_of (starts g) (run g) (length kinds) kinds
