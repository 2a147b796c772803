-- The readers of productions give what is made of derivations: one lemma for each way to build a production.
use Rattle.std.proofs.Common.{◌≡◌, ℕ, zero, suc, Bool, true, false, cond, List, [], ◌∷◌, length, map, Ok, Err, refl, sym, ap, inl, inr, ◌∙◌}
use Rattle.std.specs.Prelude.{◌&&◌, ◌||◌, ◌⊎◌}
use Rattle.spf_lex.specs.Derivation.{Derivation, Outcome, read_on, made, read_many, derive}
use Rattle.spf_lex.specs.Grammar.{Grammar, Nothing, One, Then, Or, Many}
use Rattle.spf_lex.specs.Language.{Lexed, kind_of, kinds}
use Rattle.spf_lex.specs.LookAhead.{nullable, first}
use Rattle.spf_lex.specs.Reader.{Reader, Agrees, sees, after, expect, keyword, either, further, kinds_of, list_by, repeat, value_of}
use Rattle.spf_lex.specs.Reading.{starts, prefers}

-- ---- what a reading of a derivation goes on to

module _ {K T : Type 0} (same : K → K → Bool) (kind : T → K) where
  -- a reading shows what is made of the grammar's derivation
  abbrev pub Shows : {A : Type 0} → (g : Grammar K) → (Derivation T g → A) → List T → Outcome T A → Type 0
  Shows g make tokens reading = reading ≡ made make (derive same kind g tokens)

  pub shows_then : {A B : Type 0} (g h : Grammar K) (make : Derivation T g → A) (more : A → Derivation T h → B) (tokens : List T) (o : Outcome T A) (next : A × List T → Outcome T B)
      → Shows g make tokens o → ((a : A) (ts : List T) → Shows h (more a) ts (next (a, ts))) → Shows (Then g h) (λ d. more (make d.0) d.1) tokens (read_on o next)
  unfolding derive
  shows_then {A} {B} g h make more tokens o next one two = ap (λ (r : Outcome T A). read_on r next) one ∙ by_first (derive same kind g tokens) where
    by_first : (o : Outcome T (Derivation T g)) → read_on (made make o) next ≡ made {A = Derivation T g × Derivation T h} (λ d. more (make d.0) d.1) (read_on o (λ d. made (λ e. (d.0, e)) (derive same kind h d.1)))
    by_first (Err rest) = refl
    by_first (Ok x) = two (make x.0) x.1 ∙ by_second (derive same kind h x.1) where
      by_second : (o : Outcome T (Derivation T h)) → made (more (make x.0)) o ≡ made {A = Derivation T g × Derivation T h} (λ d. more (make d.0) d.1) (made (λ e. (x.0, e)) o)
      by_second (Err rest) = refl
      by_second (Ok y) = refl

  -- a last step, and what is made of it
  pub shows_made : {A B : Type 0} (g : Grammar K) (make : Derivation T g → A) (more : A → B) (tokens : List T) (o : Outcome T A) → Shows g make tokens o → Shows g (λ d. more (make d)) tokens (read_on o (λ a. Ok (more a.0, a.1)))
  shows_made {A} {B} g make more tokens o one = ap (λ (r : Outcome T A). read_on r (λ a. Ok (more a.0, a.1))) one ∙ by_first (derive same kind g tokens) where
    by_first : (o : Outcome T (Derivation T g)) → (read_on (made make o) (λ a. Ok (more a.0, a.1))) ≡ made (λ d. more (make d)) o
    by_first (Err rest) = refl
    by_first (Ok x) = refl

  pub shows_first : {A : Type 0} (g h : Grammar K) (make : Derivation T (Or g h) → A) (tokens : List T) (o : Outcome T A) → prefers same g h (map kind tokens) ≡ true → Shows g (λ d. make (inl d)) tokens o → Shows (Or g h) make tokens o
  unfolding derive
  shows_first {A} g h make tokens o e one = one ∙ rw e (by_outcome (derive same kind g tokens)) where
    by_outcome : (o : Outcome T (Derivation T g)) → made (λ d. make (inl d)) o ≡ made make (made inl o)
    by_outcome (Err rest) = refl
    by_outcome (Ok x) = refl

  pub shows_second : {A : Type 0} (g h : Grammar K) (make : Derivation T (Or g h) → A) (tokens : List T) (o : Outcome T A) → prefers same g h (map kind tokens) ≡ false → Shows h (λ d. make (inr d)) tokens o → Shows (Or g h) make tokens o
  unfolding derive
  shows_second {A} g h make tokens o e one = one ∙ rw e (by_outcome (derive same kind h tokens)) where
    by_outcome : (o : Outcome T (Derivation T h)) → made (λ d. make (inr d)) o ≡ made make (made inr o)
    by_outcome (Err rest) = refl
    by_outcome (Ok x) = refl

  shows_turns : {A : Type 0} (g : Grammar K) (make : Derivation T g → A) (begins : List T → Bool) (read : List T → Outcome T A) → ((ts : List T) → begins ts ≡ starts same g (map kind ts)) → ((ts : List T) → Shows g make ts (read ts))
      → (n : ℕ) (tokens : List T) → read_many begins read n tokens ≡ made (map make) (read_many (λ ts. starts same g (map kind ts)) (derive same kind g) n tokens)
  shows_turns g make begins read same_start one zero tokens = refl
  shows_turns {A} g make begins read same_start one (suc n) tokens = rw (same_start tokens) (by_next (starts same g (map kind tokens)) (shows_turns g make begins read same_start one n)) where
    by_next : (b : Bool) → ((ts : List T) → read_many begins read n ts ≡ made (map make) (read_many (λ ts. starts same g (map kind ts)) (derive same kind g) n ts))
        → cond b (read_on (read tokens) (λ a. made (λ others. a.0 ∷ others) (read_many begins read n a.1))) (Ok ([], tokens))
        ≡ made (map make) (cond b (read_on (derive same kind g tokens) (λ d. made (λ ds. d.0 ∷ ds) (read_many (λ ts. starts same g (map kind ts)) (derive same kind g) n d.1))) (Ok ([], tokens)))
    by_next false more = refl
    by_next true more = ap (λ (r : Outcome T A). read_on r (λ a. made (λ others. a.0 ∷ others) (read_many begins read n a.1))) (one tokens) ∙ by_first (derive same kind g tokens) where
      by_first : (o : Outcome T (Derivation T g)) → read_on (made make o) (λ a. made (λ others. a.0 ∷ others) (read_many begins read n a.1))
          ≡ made (map make) (read_on o (λ d. made (λ ds. d.0 ∷ ds) (read_many (λ ts. starts same g (map kind ts)) (derive same kind g) n d.1)))
      by_first (Err rest) = refl
      by_first (Ok x) = ap (λ (r : Outcome T (List A)). made (λ others. make x.0 ∷ others) r) (more x.1) ∙ by_second (read_many (λ ts. starts same g (map kind ts)) (derive same kind g) n x.1) where
        by_second : (o : Outcome T (List (Derivation T g))) → made (λ others. make x.0 ∷ others) (made (map make) o) ≡ made (map make) (made (λ ds. x.0 ∷ ds) o)
        by_second (Err rest) = refl
        by_second (Ok y) = refl

  pub shows_many : {A : Type 0} (g : Grammar K) (make : Derivation T g → A) (begins : List T → Bool) (read : List T → Outcome T A) → ((ts : List T) → begins ts ≡ starts same g (map kind ts)) → ((ts : List T) → Shows g make ts (read ts))
      → (tokens : List T) → Shows (Many g) (map make) tokens (read_many begins read (length tokens) tokens)
  unfolding derive
  shows_many g make begins read same_start one tokens = shows_turns g make begins read same_start one (length tokens) tokens

-- ---- whether nothing is a text

pub nothing_empty : (K : Type 0) → nullable {K = K} Nothing ≡ true
unfolding nullable
nothing_empty K = refl

module _ {K : Type 0} where
  pub one_nonempty : (kind : K) → nullable (One kind) ≡ false
  unfolding nullable
  one_nonempty kind = refl

  pub in_turn_empty : (g h : Grammar K) (one two : Bool) → nullable g ≡ one → nullable h ≡ two → nullable (Then g h) ≡ (one && two)
  unfolding nullable
  in_turn_empty g h one two e f = rw (e, f) refl

  pub or_empty : (g h : Grammar K) (empty : Bool) → nullable g ≡ false → nullable h ≡ empty → nullable (Or g h) ≡ empty
  unfolding nullable
  or_empty g h empty e f = rw (e, f) refl

  pub optional_empty : (g : Grammar K) → nullable (Or g Nothing) ≡ true
  unfolding nullable
  optional_empty g = or_true (nullable g) where
    or_true : (b : Bool) → (b || true) ≡ true
    or_true true = refl
    or_true false = refl

  pub kinds_nonempty : {A : Type 0} (entry : K × A) (others : List (K × A)) → nullable (kinds_of entry others) ≡ false
  unfolding nullable
  kinds_nonempty entry [] = refl
  kinds_nonempty entry (next ∷ others) = kinds_nonempty next others

  pub many_empty : (g : Grammar K) → nullable (Many g) ≡ true
  unfolding nullable
  many_empty g = refl

-- ---- reading

second_made : {T A B C : Type 0} (make : A ⊎ B → C) (o : Outcome T B) → made (λ d. make (inr d)) o ≡ made make (made inr o)
second_made make (Ok x) = refl
second_made make (Err rest) = refl

or_false : (b : Bool) → (b || false) ≡ b
or_false true = refl
or_false false = refl

module _ {K : Type 0} (same : K → K → Bool) where
  pub pure_agrees : {A : Type 0} (a : A) → Agrees same Nothing (λ d. a) (λ tokens. Ok (a, tokens))
  unfolding derive
  pure_agrees a tokens = refl

  pub expect_agrees : (kind : K) → Agrees same (One kind) (λ token. token) (expect same kind)
  unfolding expect derive
  expect_agrees kind [] = refl
  expect_agrees kind (t ∷ tokens) = by_test (same t.kind kind) where
    by_test : (b : Bool) → ◌≡◌ {A = Outcome (Lexed K) (Lexed K)} (cond b (Ok (t, tokens)) (Err (t ∷ tokens))) (made (λ t. t) (cond b (Ok (t, tokens)) (Err (t ∷ tokens))))
    by_test true = refl
    by_test false = refl

  pub then_agrees : {A B : Type 0} (g h : Grammar K) (make : Derivation (Lexed K) g → A) (more : A → Derivation (Lexed K) h → B) (p : Reader K A) (next : A → Reader K B) → Agrees same g make p
      → ((a : A) → Agrees same h (more a) (next a)) → Agrees same (Then g h) (λ d. more (make d.0) d.1) (λ tokens. read_on (p tokens) (λ x. next x.0 x.1))
  then_agrees g h make more p next one two tokens = shows_then same kind_of g h make more tokens (p tokens) (λ x. next x.0 x.1) (one tokens) (λ a ts. two a ts)

  pub map_agrees : {A B : Type 0} (g : Grammar K) (make : Derivation (Lexed K) g → A) (f : A → B) (p : Reader K A) → Agrees same g make p → Agrees same g (λ d. f (make d)) (λ tokens. made f (p tokens))
  map_agrees {A} {B} g make f p one tokens = ap (made f) (one tokens) ∙ by_outcome (derive same kind_of g tokens) where
    by_outcome : (o : Outcome (Lexed K) (Derivation (Lexed K) g)) → made f (made make o) ≡ made (λ d. f (make d)) o
    by_outcome (Ok x) = refl
    by_outcome (Err rest) = refl

  -- a choice by whether the first side begins, which can't be empty
  pub or_agrees : {A : Type 0} (g h : Grammar K) (make : Derivation (Lexed K) g → A) (other : Derivation (Lexed K) h → A) (p q : Reader K A) → nullable g ≡ false → Agrees same g make p → Agrees same h other q
      → Agrees same (Or g h) (either make other) (λ tokens. cond (starts same g (kinds tokens)) (p tokens) (q tokens))
  or_agrees {A} g h make other p q some one two tokens = by_test (starts same g (kinds tokens)) refl where
    by_test : (b : Bool) → starts same g (kinds tokens) ≡ b → cond b (p tokens) (q tokens) ≡ made (either make other) (derive same kind_of (Or g h) tokens)
    by_test true e = shows_first same kind_of g h (either make other) tokens (p tokens) (rw e refl) (one tokens)
    by_test false e = shows_second same kind_of g h (either make other) tokens (q tokens) (rw (e, some) refl) (two tokens)

  many_by : {A : Type 0} (g : Grammar K) (make : Derivation (Lexed K) g → A) (begins : List (Lexed K) → Bool) (p : Reader K A) → ((tokens : List (Lexed K)) → begins tokens ≡ starts same g (kinds tokens)) → Agrees same g make p
      → Agrees same (Many g) (map make) (repeat begins p)
  unfolding repeat
  many_by g make begins p starting one tokens = shows_many same kind_of g make begins p starting one tokens

  pub many_agrees : {A : Type 0} (g : Grammar K) (make : Derivation (Lexed K) g → A) (p : Reader K A) → Agrees same g make p → Agrees same (Many g) (map make) (repeat (λ tokens. starts same g (kinds tokens)) p)
  many_agrees g make p one = many_by g make (λ tokens. starts same g (kinds tokens)) p (λ tokens. refl) one

  pub and_more_agrees : {A : Type 0} (g h : Grammar K) (make : Derivation (Lexed K) g → A) (other : Derivation (Lexed K) h → A) (p q : Reader K A) (begins : List (Lexed K) → Bool) → Agrees same g make p
      → ((tokens : List (Lexed K)) → begins tokens ≡ starts same h (kinds tokens)) → Agrees same h other q
      → Agrees same (Then g (Many h)) (λ d. make d.0 ∷ map other d.1) (λ tokens. read_on (p tokens) (λ x. made (λ others. x.0 ∷ others) (repeat begins q x.1)))
  and_more_agrees g h make other p q begins one starting two =
      then_agrees g (Many h) make (λ a d. a ∷ map other d) p (λ a tokens. made (λ others. a ∷ others) (repeat begins q tokens)) one (λ a.
      map_agrees (Many h) (map other) (λ others. a ∷ others) (repeat begins q) (many_by h other begins q starting two))

  pub further_agrees : {A : Type 0} (kind : K) (g : Grammar K) (make : Derivation (Lexed K) g → A) (p : Reader K A) → Agrees same g make p → Agrees same (Then (One kind) g) (λ d. make d.1) (further same kind p)
  further_agrees kind g make p one = then_agrees (One kind) g (λ token. token) (λ token d. make d) (expect same kind) (λ token. p) (expect_agrees kind) (λ token. one)

  sees_starts : (kind : K) (g : Grammar K) (tokens : List (Lexed K)) → sees same kind tokens ≡ starts same (Then (One kind) g) (kinds tokens)
  unfolding sees first nullable
  sees_starts kind g [] = refl
  sees_starts kind g (t ∷ tokens) = sym (or_false (same t.kind kind))

  pub separated_agrees : {A : Type 0} (kind : K) (g : Grammar K) (make : Derivation (Lexed K) g → A) (p : Reader K A) → Agrees same g make p
      → Agrees same (Then g (Many (Then (One kind) g))) (λ d. make d.0 ∷ map (λ e. make e.1) d.1) (list_by same kind p)
  unfolding list_by
  separated_agrees kind g make p one = and_more_agrees g (Then (One kind) g) make (λ e. make e.1) p (further same kind p) (sees same kind) one (sees_starts kind g) (further_agrees kind g make p one)

  -- one token of a kind, which is taken if it comes next
  pub flag_agrees : (kind : K) → Agrees same (Or (One kind) Nothing) (either (λ d. true) (λ d. false)) (λ tokens. Ok (sees same kind tokens, after same kind tokens))
  unfolding sees after derive nullable first
  flag_agrees kind [] = refl
  flag_agrees kind (t ∷ tokens) = by_test (same t.kind kind) refl where
    by_test : (b : Bool) → same t.kind kind ≡ b → Ok (b, cond b tokens (t ∷ tokens)) ≡ made (either (λ d. true) (λ d. false)) (derive same kind_of (Or (One kind) Nothing) (t ∷ tokens))
    by_test true e = rw e refl
    by_test false e = rw e refl

  pub keyword_agrees : {A : Type 0} (entry : K × A) (others : List (K × A)) → Agrees same (kinds_of entry others) (value_of entry others) (keyword same (entry ∷ others))
  unfolding sees after derive nullable first
  keyword_agrees entry [] [] = refl
  keyword_agrees {A} entry [] (t ∷ tokens) = by_test (same t.kind entry.0) where
    by_test : (b : Bool) → ◌≡◌ {A = Outcome (Lexed K) A} (cond b (Ok (entry.1, cond b tokens (t ∷ tokens))) (Err (t ∷ tokens))) (made (λ d. entry.1) (cond b (Ok (t, tokens)) (Err (t ∷ tokens))))
    by_test true = refl
    by_test false = refl
  keyword_agrees entry (next ∷ others) [] = keyword_agrees next others [] ∙ second_made (value_of entry (next ∷ others)) (derive same kind_of (kinds_of next others) [])
  keyword_agrees {A} entry (next ∷ others) (t ∷ tokens) =
      by_test (same t.kind entry.0) refl
      (keyword_agrees next others (t ∷ tokens) ∙ second_made (value_of entry (next ∷ others)) (derive same kind_of (kinds_of next others) (t ∷ tokens)))
    where
      by_test : (b : Bool) → same t.kind entry.0 ≡ b → keyword same (next ∷ others) (t ∷ tokens) ≡ made (value_of entry (next ∷ others)) (made inr (derive same kind_of (kinds_of next others) (t ∷ tokens)))
          → cond b (Ok (entry.1, cond b tokens (t ∷ tokens))) (keyword same (next ∷ others) (t ∷ tokens)) ≡ made (value_of entry (next ∷ others)) (derive same kind_of (kinds_of entry (next ∷ others)) (t ∷ tokens))
      by_test true e others_agree = rw e refl
      by_test false e others_agree = rw e others_agree
