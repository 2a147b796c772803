-- What a reader leaves is what the tokens end in.
use Rattle.std.proofs.Common.{◌≡◌, ℕ, zero, suc, Bool, true, false, cond, List, [], ◌∷◌, ◌++◌, length, Ok, Err, refl, ap, ◌∙◌, append_assoc, inl, inr}
use Rattle.spf_lex.specs.Derivation.{Derivation, Outcome, read_on, made, read_many, derive}
use Rattle.spf_lex.specs.Grammar.{Grammar, Nothing, One, Then, Or, Many}
use Rattle.spf_lex.specs.Language.{Lexed, kind_of, kinds}
use Rattle.spf_lex.specs.Production.{Production}
use Rattle.spf_lex.specs.Reader.{Reader}
use Rattle.spf_lex.specs.Reading.{starts, prefers}

-- the list ends in this one
abbrev pub EndsIn : {T : Type 0} → List T → List T → Type 0
EndsIn {T} tokens rest = (front : List T) × (tokens ≡ front ++ rest)

-- what a reading leaves, whether it took a text or met a fault
abbrev pub rest_in : {T A : Type 0} → Outcome T A → List T
rest_in (Ok x) = x.1
rest_in (Err rest) = rest

-- what the reader leaves is what the tokens end in
abbrev pub LeavesSuffix : {K A : Type 0} → Reader K A → Type 0
LeavesSuffix {K} read = (tokens : List (Lexed K)) → EndsIn tokens (rest_in (read tokens))

ends_whole : {T : Type 0} (tokens : List T) → EndsIn tokens tokens
ends_whole tokens = ([], refl)

ends_behind : {T : Type 0} (tokens rest more : List T) → EndsIn tokens rest → EndsIn rest more → EndsIn tokens more
ends_behind {T} tokens rest more first second = (first.0 ++ second.0, rw append_assoc (first.1 ∙ ap (λ (ts : List T). first.0 ++ ts) second.1))

module _ {T : Type 0} where
  made_rest : {A B : Type 0} (f : A → B) (o : Outcome T A) → rest_in (made f o) ≡ rest_in o
  made_rest f (Ok x) = refl
  made_rest f (Err rest) = refl

  ends_made : {A B : Type 0} (f : A → B) (tokens : List T) (o : Outcome T A) → EndsIn tokens (rest_in o) → EndsIn tokens (rest_in (made f o))
  ends_made f tokens o ends = rw (made_rest f o) ends

  ends_then : {A B C : Type 0} (tokens : List T) (o : Outcome T A) (next : List T → Outcome T B) (f : A → B → C) → EndsIn tokens (rest_in o) → ((ts : List T) → EndsIn ts (rest_in (next ts)))
      → EndsIn tokens (rest_in (read_on o (λ d. made (f d.0) (next d.1))))
  ends_then tokens (Ok x) next f ends more = ends_made (f x.0) tokens (next x.1) (ends_behind tokens x.1 (rest_in (next x.1)) ends (more x.1))
  ends_then tokens (Err rest) next f ends more = ends

  ends_many : {A : Type 0} (begins : List T → Bool) (read : List T → Outcome T A) → ((ts : List T) → EndsIn ts (rest_in (read ts))) → (n : ℕ) (tokens : List T) → EndsIn tokens (rest_in (read_many begins read n tokens))
  ends_many begins read one zero tokens = ends_whole tokens
  ends_many {A} begins read one (suc n) tokens = by_next (begins tokens) (ends_many begins read one n) where
    by_next : (b : Bool) → ((ts : List T) → EndsIn ts (rest_in (read_many begins read n ts)))
        → EndsIn tokens (rest_in (cond b (read_on (read tokens) (λ d. made (λ ds. d.0 ∷ ds) (read_many begins read n d.1))) (Ok ([], tokens))))
    by_next false more = ends_whole tokens
    by_next true more = ends_then tokens (read tokens) (read_many begins read n) (λ d ds. d ∷ ds) (one tokens) more

module _ {K : Type 0} (same : K → K → Bool) where
  derive_ends : (g : Grammar K) (tokens : List (Lexed K)) → EndsIn tokens (rest_in (derive same kind_of g tokens))
  unfolding derive
  derive_ends Nothing tokens = ends_whole tokens
  derive_ends (One k) [] = ends_whole []
  derive_ends (One k) (t ∷ tokens) = by_test (same t.kind k) where
    by_test : (b : Bool) → EndsIn (t ∷ tokens) (rest_in {A = Lexed K} (cond b (Ok (t, tokens)) (Err (t ∷ tokens))))
    by_test true = (t ∷ [], refl)
    by_test false = ends_whole (t ∷ tokens)
  derive_ends (Then g h) tokens = ends_then tokens (derive same kind_of g tokens) (derive same kind_of h) (λ d e. (d, e)) (derive_ends g tokens) (derive_ends h)
  derive_ends (Or g h) tokens = by_side (prefers same g h (kinds tokens)) (derive_ends g tokens) (derive_ends h tokens) where
    by_side : (b : Bool) → EndsIn tokens (rest_in (derive same kind_of g tokens)) → EndsIn tokens (rest_in (derive same kind_of h tokens))
        → EndsIn tokens (rest_in {A = Derivation (Lexed K) (Or g h)} (cond b (made inl (derive same kind_of g tokens)) (made inr (derive same kind_of h tokens))))
    by_side true p q = ends_made inl tokens (derive same kind_of g tokens) p
    by_side false p q = ends_made inr tokens (derive same kind_of h tokens) q
  derive_ends (Many g) tokens = ends_many (λ ts. starts same g (kinds ts)) (derive same kind_of g) (derive_ends g) (length tokens) tokens

  -- a production's reader does so
  pub leaves_suffix : {A : Type 0} {empty : Bool} (p : Production same empty A) → LeavesSuffix p.read
  leaves_suffix p tokens = rw (p.agrees tokens) (ends_made p.make tokens (derive same kind_of p.shape.grammar tokens) (derive_ends p.shape.grammar tokens))
