-- How a loop that reads the texts of a repetition goes on: what it has read stands in front of what it reads next.
use Rattle.std.proofs.Common.{◌≡◌, ℕ, zero, suc, ◌+◌, ◌-◌, ◌<◌, ◌≤◌, Bool, true, false, List, [], ◌∷◌, ◌++◌, length, Ok, Err, refl, ap, ◌∙◌, arith, append_assoc, append-nil}
use Rattle.spf_lex.specs.Language.{Lexed}
use Rattle.spf_lex.specs.Reader.{Reader, repeat}
use Rattle.spf_lex.specs.Derivation.{Outcome, made, read_many}

pub many_more : {T A : Type 0} (begins : List T → Bool) (read : List T → Outcome T A) (front : List A) (n : ℕ) (tokens : List T) (x : A) (rest : List T) → begins tokens ≡ true → read tokens ≡ Ok (x, rest)
    → made (λ others. front ++ others) (read_many begins read (suc n) tokens) ≡ made (λ others. (front ++ x ∷ []) ++ others) (read_many begins read n rest)
many_more {T} {A} begins read front n tokens x rest e f = rw (e, f) (by_outcome (read_many begins read n rest)) where
  by_outcome : (o : Outcome T (List A)) → made (λ others. front ++ others) (made (λ others. x ∷ others) o) ≡ made (λ others. (front ++ x ∷ []) ++ others) o
  by_outcome (Err left) = refl
  by_outcome (Ok y) = ap (λ (xs : List A). Ok (xs, y.1)) (simp append_assoc)

pub many_fails : {T A : Type 0} (begins : List T → Bool) (read : List T → Outcome T A) (front : List A) (n : ℕ) (tokens : List T) (rest : List T) → begins tokens ≡ true → read tokens ≡ Err rest
    → made (λ others. front ++ others) (read_many begins read (suc n) tokens) ≡ Err rest
many_fails begins read front n tokens rest e f = rw (e, f) refl

pub many_stops : {T A : Type 0} (begins : List T → Bool) (read : List T → Outcome T A) (front : List A) (n : ℕ) (tokens : List T) → begins tokens ≡ false
    → made (λ others. front ++ others) (read_many begins read n tokens) ≡ Ok (front, tokens)
many_stops {A = A} begins read front zero tokens e = ap (λ (xs : List A). Ok (xs, tokens)) (append-nil front)
many_stops {A = A} begins read front (suc n) tokens e = rw e (ap (λ (xs : List A). Ok (xs, tokens)) (append-nil front))

module _ {K A : Type 0} (begins : List (Lexed K) → Bool) (read : Reader K A) where
  -- these parts were read, so many turns are left, and so is this list
  abbrev pub Rest : List A → ℕ → List (Lexed K) → Outcome (Lexed K) (List A)
  Rest parts turns tokens = made (λ others. parts ++ others) (read_many begins read turns tokens)

  pub at_first : (tokens : List (Lexed K)) → repeat begins read tokens ≡ Rest [] (length tokens) tokens
  unfolding repeat
  at_first tokens = by_outcome (read_many begins read (length tokens) tokens) where
    by_outcome : (o : Outcome (Lexed K) (List A)) → o ≡ made (λ others. [] ++ others) o
    by_outcome (Ok x) = refl
    by_outcome (Err rest) = refl

  pub from_parts : (parts : List A) (tokens : List (Lexed K)) → made (λ others. parts ++ others) (repeat begins read tokens) ≡ Rest parts (length tokens - 0) tokens
  unfolding repeat
  from_parts parts tokens = ap (λ (n : ℕ). Rest parts n tokens) (omega arith)

  module _ (whole : Outcome (Lexed K) (List A)) (parts : List A) (turns turn : ℕ) (tokens : List (Lexed K)) (so_far : whole ≡ Rest parts (turns - turn) tokens) where
    turns_left : turn < turns → turns - turn ≡ suc (turns - (turn + 1))
    turns_left lt = omega arith

    -- a part more
    pub goes_on : turn < turns → begins tokens ≡ true → (part : A) (left : List (Lexed K)) → read tokens ≡ Ok (part, left) → whole ≡ Rest (parts ++ part ∷ []) (turns - (turn + 1)) left
    goes_on lt starts part left e = so_far ∙ ap (λ (n : ℕ). Rest parts n tokens) (turns_left lt) ∙ many_more begins read parts (turns - (turn + 1)) tokens part left starts e

    -- a part that isn't one
    pub fails : turn < turns → begins tokens ≡ true → (left : List (Lexed K)) → read tokens ≡ Err left → whole ≡ Err left
    fails lt starts left e = so_far ∙ ap (λ (n : ℕ). Rest parts n tokens) (turns_left lt) ∙ many_fails begins read parts (turns - (turn + 1)) tokens left starts e

    -- no part begins any more
    pub stops : begins tokens ≡ false → whole ≡ Ok (parts, tokens)
    stops none = so_far ∙ many_stops begins read parts (turns - turn) tokens none

    -- there were as many turns as there may be
    pub ends : turns ≤ turn → whole ≡ Ok (parts, tokens)
    ends le = let none : turns - turn ≡ 0 = omega arith in so_far ∙ ap (λ (n : ℕ). Rest parts n tokens) none ∙ ended
      where
        ended : Rest parts 0 tokens ≡ Ok (parts, tokens)
        ended = ap (λ (xs : List A). Ok (xs, tokens)) (append-nil parts)
