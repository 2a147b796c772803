-- The reader of derivations goes as `run` goes, and gives a derivation of what it took.
use Rattle.std.proofs.Common.{◌≡◌, ◌⊎◌, ℕ, zero, suc, Bool, true, false, cond, List, [], ◌∷◌, ◌++◌, map, length, Result, Ok, Err, refl, sym, ap, subst, ◌∙◌, inl, inr, append_assoc}
use Rattle.std.specs.Prelude.{⊤}
use Rattle.std.proofs.lemmas.List.{length-map}
use Rattle.spf_lex.specs.Grammar.{Grammar, Nothing, One, Then, Or, Many, IsExact, IsReading}
use Rattle.spf_lex.specs.LookAhead.{is_clear}
use Rattle.spf_lex.specs.Reading.{run, and_then, many_of, starts, prefers}
use Rattle.spf_lex.specs.Derivation.{Derivation, Spells, SpellsEach, Outcome, read_on, made, read_many, derive, kinds_left, Derives, IsDerivation}
use Rattle.spf_lex.proofs.Readings.{reading}

left_made : {K T A B : Type 0} (kind : T → K) (make : A → B) (o : Outcome T A) → kinds_left kind (made make o) ≡ kinds_left kind o
left_made kind make (Ok x) = refl
left_made kind make (Err rest) = refl

module _ {K T : Type 0} (same : K → K → Bool) (exact : IsExact same) (kind : T → K) where
  -- reading goes as `run` goes
  GoesAs : {D : Type 0} → (List K → Result (List K) (List K)) → (List T → Outcome T D) → Type 0
  GoesAs run read = (tokens : List T) → run (map kind tokens) ≡ kinds_left kind (read tokens)

  goes_then : {A B : Type 0} (one two : List K → Result (List K) (List K)) (read : List T → Outcome T A) (next : List T → Outcome T B) → GoesAs one read → GoesAs two next
      → (tokens : List T) → and_then (one (map kind tokens)) two ≡ kinds_left {D = A × B} kind (read_on (read tokens) (λ d. made (λ e. (d.0, e)) (next d.1)))
  unfolding GoesAs
  goes_then {A} {B} one two read next first second tokens = rw (first tokens) (by_first (read tokens)) where
    by_first : (o : Outcome T A) → and_then (kinds_left kind o) two ≡ kinds_left {D = A × B} kind (read_on o (λ d. made (λ e. (d.0, e)) (next d.1)))
    by_first (Err rest) = refl
    by_first (Ok x) = second x.1 ∙ sym (left_made kind _ (next x.1))

  goes_many : {D : Type 0} (begins : List K → Bool) (one : List K → Result (List K) (List K)) (read : List T → Outcome T D) → GoesAs one read → (n : ℕ) (tokens : List T)
      → many_of begins one n (map kind tokens) ≡ kinds_left kind (read_many (λ ts. begins (map kind ts)) read n tokens)
  unfolding GoesAs
  goes_many begins one read first zero tokens = refl
  goes_many {D} begins one read first (suc n) tokens = by_next (begins (map kind tokens)) (goes_many begins one read first n) where
    more : List T → Outcome T (List D)
    more ts = read_many (λ ts. begins (map kind ts)) read n ts

    by_next : (b : Bool) → ((ts : List T) → many_of begins one n (map kind ts) ≡ kinds_left kind (read_many (λ ts. begins (map kind ts)) read n ts))
        → cond b (and_then (one (map kind tokens)) (many_of begins one n)) (Ok (map kind tokens)) ≡ kinds_left kind (cond b (read_on (read tokens) (λ d. made (λ ds. d.0 ∷ ds) (read_many (λ ts. begins (map kind ts)) read n d.1))) (Ok ([], tokens)))
    by_next false again = refl
    by_next true again = rw (first tokens) (by_first (read tokens)) where
      by_first : (o : Outcome T D) → and_then (kinds_left kind o) (many_of begins one n) ≡ kinds_left kind (read_on o (λ d. made (λ ds. d.0 ∷ ds) (read_many (λ ts. begins (map kind ts)) read n d.1)))
      by_first (Err rest) = refl
      by_first (Ok x) = again x.1 ∙ sym (left_made kind _ (read_many (λ ts. begins (map kind ts)) read n x.1))

  pub derive_run : (g : Grammar K) (tokens : List T) → run same g (map kind tokens) ≡ kinds_left kind (derive same kind g tokens)
  unfolding run derive GoesAs
  derive_run Nothing tokens = refl
  derive_run (One k) [] = refl
  derive_run (One k) (t ∷ tokens) = by_test (same (kind t) k) where
    by_test : (b : Bool) → cond b (Ok (map kind tokens)) (Err (kind t ∷ map kind tokens)) ≡ kinds_left kind (cond b (Ok (t, tokens)) (Err (t ∷ tokens)))
    by_test true = refl
    by_test false = refl
  derive_run (Then g h) tokens = goes_then (run same g) (run same h) (derive same kind g) (derive same kind h) (derive_run g) (derive_run h) tokens
  derive_run (Or g h) tokens = by_side (prefers same g h (map kind tokens)) (derive_run g tokens) (derive_run h tokens) where
    by_side : (b : Bool) → run same g (map kind tokens) ≡ kinds_left kind (derive same kind g tokens) → run same h (map kind tokens) ≡ kinds_left kind (derive same kind h tokens)
        → (cond b (run same g) (run same h)) (map kind tokens) ≡ kinds_left {D = Derivation T g ⊎ Derivation T h} kind (cond b (made inl (derive same kind g tokens)) (made inr (derive same kind h tokens)))
    by_side true e f = e ∙ sym (left_made kind inl (derive same kind g tokens))
    by_side false e f = f ∙ sym (left_made kind inr (derive same kind h tokens))
  derive_run (Many g) tokens =
      subst (λ (n : ℕ). many_of (starts same g) (run same g) n (map kind tokens) ≡ kinds_left kind (read_many (λ ts. starts same g (map kind ts)) (derive same kind g) (length tokens) tokens)) (sym (length-map tokens kind))
      (goes_many (starts same g) (run same g) (derive same kind g) (derive_run g) (length tokens) tokens)

  -- ---- what was read is spelled by the tokens in front of the rest

  -- a reader gives what the tokens in front of the rest spell
  Gives : {D : Type 0} → (List T → D → Type 0) → List T → Outcome T D → Type 0
  Gives Spelled tokens (Ok x) = (front : List T) × (tokens ≡ front ++ x.1) × Spelled front x.0
  Gives Spelled tokens (Err rest) = ⊤

  gives_made : {A B : Type 0} (P : List T → A → Type 0) (Q : List T → B → Type 0) (make : A → B) (tokens : List T) (o : Outcome T A) → ((front : List T) (d : A) → P front d → Q front (make d)) → Gives P tokens o → Gives Q tokens (made make o)
  unfolding Gives
  gives_made P Q make tokens (Ok x) weaker g = (g.0, g.1, weaker g.0 x.0 g.2)
  gives_made P Q make tokens (Err rest) weaker g = tt

  -- two parts, one behind another
  Both : {A B : Type 0} → (List T → A → Type 0) → (List T → B → Type 0) → List T → A → B → Type 0
  Both P Q tokens d e = (front : List T) × (back : List T) × (tokens ≡ front ++ back) × P front d × Q back e

  gives_then : {A B C : Type 0} (P : List T → A → Type 0) (Q : List T → B → Type 0) (R : List T → C → Type 0) (make : A → B → C) (tokens : List T) (o : Outcome T A) (next : List T → Outcome T B)
      → ((front : List T) (d : A) (e : B) → Both P Q front d e → R front (make d e)) → Gives P tokens o → ((ts : List T) → Gives Q ts (next ts)) → Gives R tokens (read_on o (λ d. made (make d.0) (next d.1)))
  unfolding Gives Both
  gives_then P Q R make tokens (Err rest) next joins g h = tt
  gives_then {B = B} P Q R make tokens (Ok x) next joins g h = by_next (next x.1) (h x.1) where
    by_next : (o : Outcome T B) → Gives Q x.1 o → Gives R tokens (made (make x.0) o)
    by_next (Err rest) q = tt
    by_next (Ok y) q = (g.0 ++ q.0, rw append_assoc (g.1 ∙ ap (λ (ts : List T). g.0 ++ ts) q.1), joins (g.0 ++ q.0) x.0 y.0 (g.0, q.0, refl, g.2, q.2))

  gives_many : {D : Type 0} (P : List T → D → Type 0) (begins : List T → Bool) (read : List T → Outcome T D) → ((ts : List T) → Gives P ts (read ts)) → (n : ℕ) (tokens : List T) → Gives (SpellsEach P) tokens (read_many begins read n tokens)
  unfolding Gives Both
  gives_many P begins read g zero tokens = ([], refl, refl)
  gives_many P begins read g (suc n) tokens = by_next (begins tokens) (gives_many P begins read g n) where
    by_next : (b : Bool) → ((ts : List T) → Gives (SpellsEach P) ts (read_many begins read n ts)) → Gives (SpellsEach P) tokens (cond b (read_on (read tokens) (λ d. made (λ ds. d.0 ∷ ds) (read_many begins read n d.1))) (Ok ([], tokens)))
    by_next false more = ([], refl, refl)
    by_next true more = gives_then P (SpellsEach P) (SpellsEach P) (λ d ds. d ∷ ds) tokens (read tokens) (read_many begins read n) (λ front d ds both. both) (g tokens) more

  derive_gives : (g : Grammar K) (tokens : List T) → Gives (Spells kind g) tokens (derive same kind g tokens)
  unfolding Gives Both Spells derive
  derive_gives Nothing tokens = ([], refl, refl)
  derive_gives (One k) [] = tt
  derive_gives (One k) (t ∷ tokens) = by_test (same (kind t) k) refl where
    by_test : (b : Bool) → same (kind t) k ≡ b → Gives (Spells kind (One k)) (t ∷ tokens) (cond b (Ok (t, tokens)) (Err (t ∷ tokens)))
    by_test false e = tt
    by_test true e = (t ∷ [], refl, (refl, (exact (kind t) k).0 e))
  derive_gives (Then g h) tokens = gives_then (Spells kind g) (Spells kind h) (Spells kind (Then g h)) (λ d e. (d, e)) tokens (derive same kind g tokens) (derive same kind h) (λ front d e both. both) (derive_gives g tokens) (derive_gives h)
  derive_gives (Or g h) tokens = by_side (prefers same g h (map kind tokens)) (derive_gives g tokens) (derive_gives h tokens) where
    by_side : (b : Bool) → Gives (Spells kind g) tokens (derive same kind g tokens) → Gives (Spells kind h) tokens (derive same kind h tokens) → Gives (Spells kind (Or g h)) tokens (cond b (made inl (derive same kind g tokens)) (made inr (derive same kind h tokens)))
    by_side true p q = gives_made (Spells kind g) (Spells kind (Or g h)) inl tokens (derive same kind g tokens) (λ front d s. s) p
    by_side false p q = gives_made (Spells kind h) (Spells kind (Or g h)) inr tokens (derive same kind h tokens) (λ front d s. s) q
  derive_gives (Many g) tokens = gives_many (Spells kind g) (λ ts. starts same g (map kind ts)) (derive same kind g) (derive_gives g) (length tokens) tokens

  derives_from_gives : (g : Grammar K) (tokens : List T) (o : Outcome T (Derivation T g)) → Gives (Spells kind g) tokens o → Derives kind g tokens o
  unfolding Gives
  derives_from_gives g tokens (Ok x) given = given
  derives_from_gives g tokens (Err rest) given = tt

  pub is_derivation : (g : Grammar K) → is_clear same g ≡ true → (tokens : List T) → IsDerivation kind g tokens (derive same kind g tokens)
  is_derivation g clear tokens = record {
    reading = subst (IsReading g (map kind tokens)) (derive_run g tokens) (reading same exact g clear (map kind tokens));
    derives = derives_from_gives g tokens (derive same kind g tokens) (derive_gives g tokens);
  }
