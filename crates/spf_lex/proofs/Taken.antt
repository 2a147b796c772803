-- What a reader takes: a text behind which it answers `Ok`, and what some text begins with where it answers `Err`. It holds of every grammar.
use Rattle.std.proofs.Common.{◌≡◌, ◌≤◌, ℕ, zero, suc, Bool, true, false, List, [], ◌∷◌, ◌++◌, length, Result, Ok, Err, MatchResult, refl, sym, ap, subst, ◌∙◌, append_assoc, append-nil, inl, inr, arith, length-append, if◌then◌else◌}
use Rattle.spf_lex.specs.Grammar.{Grammar, Nothing, One, Then, Or, Many, In, Begins, IsExact, rest_of}
use Rattle.spf_lex.specs.Reading.{run, and_then, many_of, starts, prefers, kind_of}
use Rattle.spf_lex.proofs.Texts.{some_text}

-- what stands in front of the rest of an outcome, for a language and the beginnings of its texts
pub record Takes {K : Type 0} (Text Begun : List K → Type 0) (kinds : List K) (outcome : Result (List K) (List K)) : Type 0 where
  pub front : List K
  pub splits : kinds ≡ front ++ rest_of outcome
  pub verdict : MatchResult outcome (λ rest. Text front) (λ rest. Begun front)

pub Takes-map : {K : Type 0} {Text Begun Text' Begun' : List K → Type 0} {kinds : List K} (outcome : Result (List K) (List K)) → ((f : List K) → Text f → Text' f) → ((f : List K) → Begun f → Begun' f) → Takes Text Begun kinds outcome → Takes Text' Begun' kinds outcome
Takes-map (Ok rest) a b t = record { front = t.front; splits = t.splits; verdict = a t.front t.verdict }
Takes-map (Err rest) a b t = record { front = t.front; splits = t.splits; verdict = b t.front t.verdict }

-- reading on behind a first text
pub Takes-and_then : {K : Type 0} {Text Begun Text' Begun' Text'' Begun'' : List K → Type 0} (kinds : List K) (outcome : Result (List K) (List K)) (read : List K → Result (List K) (List K))
    → ((f b : List K) → Text f → Text' b → Text'' (f ++ b)) → ((f : List K) → Begun f → Begun'' f) → ((f b : List K) → Text f → Begun' b → Begun'' (f ++ b))
    → Takes Text Begun kinds outcome → ((rest : List K) → Takes Text' Begun' rest (read rest)) → Takes Text'' Begun'' kinds (and_then outcome read)
Takes-and_then kinds (Err rest) read whole first second t u = record { front = t.front; splits = t.splits; verdict = first t.front t.verdict }
Takes-and_then {K = K} {Text' = Text'} {Begun' = Begun'} {Text'' = Text''} {Begun'' = Begun''} kinds (Ok rest) read whole first second t u = go (read rest) (u rest)
  where
    go : (outcome : Result (List K) (List K)) → Takes Text' Begun' rest outcome → Takes Text'' Begun'' kinds outcome
    go (Ok left) v = record { front = t.front ++ v.front; splits = t.splits ∙ ap (λ (x : List K). t.front ++ x) v.splits ∙ sym (append_assoc t.front v.front left); verdict = whole t.front v.front t.verdict v.verdict }
    go (Err left) v = record { front = t.front ++ v.front; splits = t.splits ∙ ap (λ (x : List K). t.front ++ x) v.splits ∙ sym (append_assoc t.front v.front left); verdict = second t.front v.front t.verdict v.verdict }

-- ---- many

many_more : {K : Type 0} (g : Grammar K) (f b : List K) → In g f → In (Many g) b → In (Many g) (f ++ b)
unfolding In
many_more g f b t u = (f ∷ u.0, ap (λ (x : List _). f ++ x) u.1, (t, u.2))

many_begins_more : {K : Type 0} (g : Grammar K) (f b : List K) → In g f → Begins (Many g) b → Begins (Many g) (f ++ b)
many_begins_more g f b t u = (u.0, subst (λ (x : List _). In (Many g) x) (sym (append_assoc f b u.0)) (many_more g f (b ++ u.0) t u.1))

many_begins : {K : Type 0} (g : Grammar K) (f : List K) → Begins g f → Begins (Many g) f
unfolding In
many_begins g f t = (t.0, ((f ++ t.0) ∷ [], sym (append-nil (f ++ t.0)), (t.1, tt)))

many_none : {K : Type 0} (g : Grammar K) → In (Many g) []
unfolding In
many_none g = ([], refl, tt)

pub many_takes : {K : Type 0} (g : Grammar K) (begins : List K → Bool) (read : List K → Result (List K) (List K)) → ((kinds : List K) → Takes (In g) (Begins g) kinds (read kinds)) → (n : ℕ) (kinds : List K) → Takes (In (Many g)) (Begins (Many g)) kinds (many_of begins read n kinds)
many_takes g begins read takes zero kinds = record { front = []; splits = refl; verdict = many_none g }
many_takes {K} g begins read takes (suc n) kinds = go (begins kinds) (many_takes g begins read takes n)
  where
    go : (b : Bool) → ((rest : List K) → Takes (In (Many g)) (Begins (Many g)) rest (many_of begins read n rest)) → Takes (In (Many g)) (Begins (Many g)) kinds (if b then and_then (read kinds) (many_of begins read n) else Ok kinds)
    go true again = Takes-and_then kinds (read kinds) (many_of begins read n) (many_more g) (many_begins g) (many_begins_more g) (takes kinds) again
    go false again = record { front = []; splits = refl; verdict = many_none g }

-- ---- every grammar

kind_takes : {K : Type 0} (same : K → K → Bool) → IsExact same → (k : K) (kinds : List K) → Takes (In (One k)) (Begins (One k)) kinds (kind_of same k kinds)
unfolding In
kind_takes same exact k [] = record { front = []; splits = refl; verdict = (k ∷ [], refl) }
kind_takes {K} same exact k (next ∷ kinds) = go (same next k) refl
  where
    go : (b : Bool) → same next k ≡ b → Takes (In (One k)) (Begins (One k)) (next ∷ kinds) (if b then Ok kinds else Err (next ∷ kinds))
    go true e = record { front = next ∷ []; splits = refl; verdict = ap (λ (x : K). x ∷ []) ((exact next k).0 e) }
    go false e = record { front = []; splits = refl; verdict = (k ∷ [], refl) }

then_text : {K : Type 0} (g h : Grammar K) (f b : List K) → In g f → In h b → In (Then g h) (f ++ b)
unfolding In
then_text g h f b t u = (f, b, refl, t, u)

then_first : {K : Type 0} (g h : Grammar K) (f : List K) → Begins g f → Begins (Then g h) f
then_first g h f t = let u = some_text h in (t.0 ++ u.0, subst (λ (x : List _). In (Then g h) x) (append_assoc f t.0 u.0) (then_text g h (f ++ t.0) u.0 t.1 u.1))

then_second : {K : Type 0} (g h : Grammar K) (f b : List K) → In g f → Begins h b → Begins (Then g h) (f ++ b)
then_second g h f b t u = (u.0, subst (λ (x : List _). In (Then g h) x) (sym (append_assoc f b u.0)) (then_text g h f (b ++ u.0) t u.1))

or_left : {K : Type 0} (g h : Grammar K) (f : List K) → In g f → In (Or g h) f
unfolding In
or_left g h f t = inl t

or_right : {K : Type 0} (g h : Grammar K) (f : List K) → In h f → In (Or g h) f
unfolding In
or_right g h f t = inr t

pub run_takes : {K : Type 0} (same : K → K → Bool) → IsExact same → (g : Grammar K) (kinds : List K) → Takes (In g) (Begins g) kinds (run same g kinds)
unfolding In run
run_takes same exact Nothing kinds = record { front = []; splits = refl; verdict = refl }
run_takes same exact (One k) kinds = kind_takes same exact k kinds
run_takes same exact (Then g h) kinds =
    Takes-and_then kinds (run same g kinds) (run same h) (then_text g h) (then_first g h) (then_second g h) (run_takes same exact g kinds) (run_takes same exact h)
run_takes {K} same exact (Or g h) kinds = go (prefers same g h kinds) (run_takes same exact g kinds) (run_takes same exact h kinds)
  where
    go : (b : Bool) → Takes (In g) (Begins g) kinds (run same g kinds) → Takes (In h) (Begins h) kinds (run same h kinds) → Takes (In (Or g h)) (Begins (Or g h)) kinds ((if b then run same g else run same h) kinds)
    go true t u = Takes-map (run same g kinds) (or_left g h) (λ f b. (b.0, or_left g h (f ++ b.0) b.1)) t
    go false t u = Takes-map (run same h kinds) (or_right g h) (λ f b. (b.0, or_right g h (f ++ b.0) b.1)) u
run_takes same exact (Many g) kinds = many_takes g (starts same g) (run same g) (run_takes same exact g) (length kinds) kinds

-- the rest is no longer than what was read from
pub Takes-shorter : {K : Type 0} {Text Begun : List K → Type 0} (kinds : List K) (outcome : Result (List K) (List K)) → Takes Text Begun kinds outcome → length (rest_of outcome) ≤ length kinds
Takes-shorter kinds outcome t = omega (arith, ap length t.splits, length-append t.front (rest_of outcome))
