-- The one theorem on reading: what `run` answers at a clear grammar is right, and whole texts are what it reads to the end.
use Rattle.std.proofs.Common.{◌≡◌, ◌↔◌, ◌≤◌, Bool, true, not, ◌&&◌, suc, List, [], ◌∷◌, ◌++◌, length, Result, Ok, Err, refl, sym, ap, subst, ◌∙◌, append_assoc, append-nil, inl, inr, arith}
use Rattle.std.proofs.lemmas.Bool.{and_parts}
use Rattle.spf_lex.specs.Grammar.{Grammar, Nothing, One, Then, Or, Many, In, Begins, IsExact, IsReading, rest_of}
use Rattle.spf_lex.specs.LookAhead.{nullable, first, extension, are_disjoint, is_clear}
use Rattle.spf_lex.specs.Reading.{run, kind_of}
use Rattle.spf_lex.proofs.Taken.{Takes, run_takes}
use Rattle.spf_lex.proofs.Follows.{Follows}
use Rattle.spf_lex.proofs.Sequences.{then_follows}
use Rattle.spf_lex.proofs.Choices.{or_follows}
use Rattle.spf_lex.proofs.Repetitions.{many_follows}

module _ {K : Type 0} (same : K → K → Bool) (exact : IsExact same) where
  nothing_follows : Follows same (In Nothing) [] (run same Nothing)
  unfolding In run
  nothing_follows = record {
    ends = λ text rest t. inl (rw t refl);
    passes = λ text front k back more e t. absurd (none front k back (sym t ∙ e));
  }
    where
      none : (front : List K) (k : K) (back : List K) → [] ≡ front ++ k ∷ back → ⊥
      none [] k back e = absurd cc
      none (f ∷ front) k back e = absurd cc

  kind_follows : (k : K) → Follows same (In (One k)) [] (run same (One k))
  unfolding In run
  kind_follows k = record {
    ends = λ text rest t. inl (rw (t, (exact k k).1 refl) refl);
    passes = λ text front j back more e t. only front j back more (sym t ∙ e);
  }
    where
      only : (front : List K) (j : K) (back more : List K) → k ∷ [] ≡ front ++ j ∷ back → length (rest_of (kind_of same k (front ++ j ∷ more))) ≤ length more
      only [] j back more e = let same_kind : j ≡ k = cc in rw (same_kind, (exact k k).1 refl) (omega arith)
      only (f ∷ []) j back more e = absurd cc
      only (f ∷ f' ∷ front) j back more e = absurd cc

  -- the reader of a clear grammar follows its texts
  pub follows : (g : Grammar K) → is_clear same g ≡ true → Follows same (In g) (extension g) (run same g)
  unfolding is_clear extension
  follows Nothing clear = nothing_follows
  follows (One k) clear = kind_follows k
  follows (Then g h) clear =
      let both = and_parts (is_clear same g && is_clear same h) (are_disjoint same (extension g) (first h)) clear in
      let each = and_parts (is_clear same g) (is_clear same h) both.0 in
      then_follows same exact g h both.1 (follows g each.0) (follows h each.1)
  follows (Or g h) clear =
      let apart = and_parts (is_clear same g && is_clear same h && not (nullable g && nullable h)) (are_disjoint same (first g) (first h)) clear in
      let one = and_parts (is_clear same g && is_clear same h) (not (nullable g && nullable h)) apart.0 in
      let each = and_parts (is_clear same g) (is_clear same h) one.0 in
      or_follows same exact g h one.1 apart.1 (follows g each.0) (follows h each.1)
  follows (Many g) clear =
      let apart = and_parts (is_clear same g && not (nullable g)) (are_disjoint same (extension g) (first g)) clear in
      let some = and_parts (is_clear same g) (not (nullable g)) apart.0 in
      many_follows same exact g some.1 apart.1 (follows g some.0)

  module _ (g : Grammar K) (clear : is_clear same g ≡ true) where
    -- no text goes on where reading stopped
    longest : (kinds front : List K) (k : K) (more : List K) → kinds ≡ front ++ rest_of (run same g kinds) → rest_of (run same g kinds) ≡ k ∷ more → ¬ Begins g (front ++ k ∷ [])
    longest kinds front k more splits rest begun =
        let at : run same g kinds ≡ run same g (front ++ k ∷ more) = ap (run same g) (splits ∙ ap (λ (x : List K). front ++ x) rest) in
        let text : In g (front ++ k ∷ begun.0) = rw append_assoc at begun.1 in
        let behind : length (rest_of (run same g (front ++ k ∷ more))) ≤ length more = (follows g clear).passes _ front k begun.0 more refl text in
        let behind' : length (rest_of (run same g kinds)) ≤ length more = subst (λ (r : Result (List K) (List K)). length (rest_of r) ≤ length more) (sym at) behind in
        omega (arith, ap length rest)

    -- a fault doesn't stand behind a text
    no_text : (kinds front rest : List K) → kinds ≡ front ++ rest → run same g kinds ≡ Err rest → ¬ In g front
    no_text kinds front rest splits e text =
        let fault : run same g (front ++ rest) ≡ Err rest = rw splits at e in
        elim ((follows g clear).ends front rest text) [
          | inl ok ↦ let other : Ok rest ≡ Err rest = sym ok ∙ fault in absurd cc
          | inr o ↦ let behind : length rest ≤ length o.others = rw fault at o.behind in let is : length rest ≡ suc (length o.others) = ap length o.is in omega arith
        ]

    reading_of : (kinds : List K) (outcome : Result (List K) (List K)) → run same g kinds ≡ outcome → Takes (In g) (Begins g) kinds outcome → IsReading g kinds outcome
    reading_of kinds (Ok rest) e t = record {
      front = t.front;
      splits = t.splits;
      begins = ([], rw append-nil t.verdict);
      longest = λ k more. rw e at (longest kinds t.front k more (rw e t.splits));
      verdict = t.verdict;
    }
    reading_of kinds (Err rest) e t = record {
      front = t.front;
      splits = t.splits;
      begins = t.verdict;
      longest = λ k more. rw e at (longest kinds t.front k more (rw e t.splits));
      verdict = no_text kinds t.front rest t.splits e;
    }

    pub reading : (kinds : List K) → IsReading g kinds (run same g kinds)
    reading kinds = reading_of kinds (run same g kinds) refl (run_takes same exact g kinds)

    whole_text : (kinds : List K) → In g kinds → run same g kinds ≡ Ok []
    whole_text kinds text =
        elim ((follows g clear).ends kinds [] text) [
          | inl ok ↦ rw append-nil at ok
          | inr o ↦ absurd (let e = o.is in cc)
        ]

    text_read : (kinds : List K) (outcome : Result (List K) (List K)) → outcome ≡ Ok [] → Takes (In g) (Begins g) kinds outcome → In g kinds
    text_read kinds (Ok rest) e t =
        let none : rest ≡ [] = cc in
        let is : kinds ≡ t.front = t.splits ∙ ap (λ (x : List K). t.front ++ x) none ∙ append-nil t.front in
        rw is t.verdict
    text_read kinds (Err rest) e t = absurd cc

    pub whole : (kinds : List K) → In g kinds ↔ (run same g kinds ≡ Ok [])
    whole kinds = (whole_text kinds, λ e. text_read kinds (run same g kinds) e (run_takes same exact g kinds))
