-- What it is for a reader to follow each text of a language: it takes a text that its input begins with, and more only where the text can be extended.
use Rattle.std.proofs.Common.{◌≡◌, ◌⊎◌, ◌≤◌, Bool, true, List, [], ◌∷◌, ◌++◌, length, Result, Ok, Err, refl, subst, arith, inl, inr}
use Rattle.std.specs.List.{list_any}
use Rattle.spf_lex.specs.Grammar.{Grammar, In, IsExact, rest_of}
use Rattle.spf_lex.specs.LookAhead.{first, extension, are_disjoint}
use Rattle.spf_lex.specs.Reading.{run, and_then, starts}
use Rattle.spf_lex.proofs.Texts.{not_in_both, first_from_In, Begins-first}

-- an outcome is behind the next kind of the rest, which is among these kinds
pub record GoesOn {K : Type 0} (same : K → K → Bool) (kinds rest : List K) (outcome : Result (List K) (List K)) : Type 0 where
  pub next : K
  pub others : List K
  pub is : rest ≡ next ∷ others
  pub allowed : list_any (same next) kinds ≡ true
  pub behind : length (rest_of outcome) ≤ length others

-- a text is read to its end, or past it by one of the kinds
abbrev pub Ends : {K : Type 0} → (K → K → Bool) → List K → List K → Result (List K) (List K) → Type 0
Ends same kinds rest outcome = (outcome ≡ Ok rest) ⊎ GoesOn same kinds rest outcome

-- a reader keeps to each text of a language, and goes on behind it by some of the kinds alone
pub record Follows {K : Type 0} (same : K → K → Bool) (Text : List K → Type 0) (kinds : List K) (read : List K → Result (List K) (List K)) : Type 0 where
  pub ends : (text rest : List K) → Text text → Ends same kinds rest (read (text ++ rest))
  pub passes : (text front : List K) (k : K) (back more : List K) → text ≡ front ++ k ∷ back → Text text → length (rest_of (read (front ++ k ∷ more))) ≤ length more

-- what is read on is no longer
pub and_then-shorter : {K : Type 0} (outcome : Result (List K) (List K)) (read : List K → Result (List K) (List K)) → ((rest : List K) → length (rest_of (read rest)) ≤ length rest) → length (rest_of (and_then outcome read)) ≤ length (rest_of outcome)
and_then-shorter (Ok rest) read short = short rest
and_then-shorter (Err rest) read short = omega arith

module _ {K : Type 0} (same : K → K → Bool) where
  pub GoesOn-more : (kinds kinds' rest : List K) (outcome : Result (List K) (List K)) → ((k : K) → list_any (same k) kinds ≡ true → list_any (same k) kinds' ≡ true) → GoesOn same kinds rest outcome → GoesOn same kinds' rest outcome
  GoesOn-more kinds kinds' rest outcome sub o = record { next = o.next; others = o.others; is = o.is; allowed = sub o.next o.allowed; behind = o.behind }

  pub Ends-more : (kinds kinds' rest : List K) (outcome : Result (List K) (List K)) → ((k : K) → list_any (same k) kinds ≡ true → list_any (same k) kinds' ≡ true) → Ends same kinds rest outcome → Ends same kinds' rest outcome
  Ends-more kinds kinds' rest outcome sub (inl e) = inl e
  Ends-more kinds kinds' rest outcome sub (inr o) = inr (GoesOn-more kinds kinds' rest outcome sub o)

  -- a text of g can't be extended by what a text of h begins with
  pub no_way_on : IsExact same → (g h : Grammar K) → are_disjoint same (extension g) (first h) ≡ true → (k : K) (back rest : List K) (outcome : Result (List K) (List K)) → In h (k ∷ back) → GoesOn same (extension g) (k ∷ rest) outcome → ⊥
  no_way_on exact g h apart k back rest outcome t o =
      let same_kind : o.next ≡ k = let e = o.is in cc in
      not_in_both same exact k (extension g) (first h) apart (subst (λ (x : K). list_any (same x) (extension g) ≡ true) same_kind o.allowed) (first_from_In same exact h k back t)

  -- a text that the next kind begins is read past that kind
  pub starts_passes : (exact : IsExact same) (g : Grammar K) → Follows same (In g) (extension g) (run same g) → (k : K) (more : List K) → starts same g (k ∷ more) ≡ true → length (rest_of (run same g (k ∷ more))) ≤ length more
  starts_passes exact g follows k more e = let b = Begins-first same exact g k e in follows.passes (k ∷ b.0) [] k b.0 more refl b.1
