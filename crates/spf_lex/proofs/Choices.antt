-- A reader of either of two follows the texts of both.
use Rattle.std.proofs.Common.{◌≡◌, ◌≤◌, Bool, true, false, not, ◌&&◌, List, [], ◌∷◌, ◌++◌, length, refl, inl, inr, if◌then◌else◌}
use Rattle.std.specs.List.{list_any}
use Rattle.std.proofs.lemmas.Bool.{false_from_ne_true, not-true}
use Rattle.spf_lex.specs.Grammar.{Grammar, Or, In, IsExact, rest_of}
use Rattle.spf_lex.specs.LookAhead.{nullable, first, extension, are_disjoint}
use Rattle.spf_lex.specs.Reading.{run, starts}
use Rattle.spf_lex.proofs.Texts.{any_left, any_right, not_in_both, nullable_from_In, first_from_In, Begins-first}
use Rattle.spf_lex.proofs.Steps.{run_first, run_second}
use Rattle.spf_lex.proofs.Follows.{Ends, Follows, Ends-more}

module _ {K : Type 0} (same : K → K → Bool) (exact : IsExact same) (g h : Grammar K) (one : not (nullable g && nullable h) ≡ true) (apart : are_disjoint same (first g) (first h) ≡ true) (left : Follows same (In g) (extension g) (run same g)) (right : Follows same (In h) (extension h) (run same h)) where
  -- the next kind tells which of the two a text is of
  first_is_next : (k : K) (back more : List K) → In g (k ∷ back) → run same (Or g h) (k ∷ more) ≡ run same g (k ∷ more)
  first_is_next k back more t = run_first same g h (k ∷ more) (rw (first_from_In same exact g k back t) refl)

  second_is_next : (k : K) (back more : List K) → In h (k ∷ back) → run same (Or g h) (k ∷ more) ≡ run same h (k ∷ more)
  second_is_next k back more t =
      let begins = first_from_In same exact h k back t in
      let other : list_any (same k) (first g) ≡ false = false_from_ne_true _ (λ e. not_in_both same exact k (first g) (first h) apart e begins) in
      run_second same g h (k ∷ more) (rw (other, begins) (none (nullable g)))
    where
      none : (b : Bool) → (b && false) ≡ false
      none true = refl
      none false = refl

  or_passes_first : (front : List K) (k : K) (back more : List K) → In g (front ++ k ∷ back) → length (rest_of (run same (Or g h) (front ++ k ∷ more))) ≤ length more
  or_passes_first [] k back more t = rw (first_is_next k back more t) (left.passes (k ∷ back) [] k back more refl t)
  or_passes_first (f ∷ front) k back more t = rw (first_is_next f (front ++ k ∷ back) (front ++ k ∷ more) t) (left.passes (f ∷ front ++ k ∷ back) (f ∷ front) k back more refl t)

  or_passes_second : (front : List K) (k : K) (back more : List K) → In h (front ++ k ∷ back) → length (rest_of (run same (Or g h) (front ++ k ∷ more))) ≤ length more
  or_passes_second [] k back more t = rw (second_is_next k back more t) (right.passes (k ∷ back) [] k back more refl t)
  or_passes_second (f ∷ front) k back more t = rw (second_is_next f (front ++ k ∷ back) (front ++ k ∷ more) t) (right.passes (f ∷ front ++ k ∷ back) (f ∷ front) k back more refl t)

  more_first : (k : K) → list_any (same k) (extension g) ≡ true → list_any (same k) (extension (Or g h)) ≡ true
  unfolding extension
  more_first k e = any_left same k _ _ (any_left same k _ _ (any_left same k (extension g) (extension h) e))

  more_second : (k : K) → list_any (same k) (extension h) ≡ true → list_any (same k) (extension (Or g h)) ≡ true
  unfolding extension
  more_second k e = any_left same k _ _ (any_left same k _ _ (any_right same k (extension g) (extension h) e))

  -- the empty text can be extended to a text of the other
  more_from_first : (k : K) → nullable g ≡ true → list_any (same k) (first h) ≡ true → list_any (same k) (extension (Or g h)) ≡ true
  unfolding extension
  more_from_first k n e = any_left same k _ _ (any_right same k (extension g ++ extension h) _ (rw n e))

  more_from_second : (k : K) → nullable h ≡ true → list_any (same k) (first g) ≡ true → list_any (same k) (extension (Or g h)) ≡ true
  unfolding extension
  more_from_second k n e = any_right same k _ (if nullable h then first g else []) (rw n e)

  ends_first : (text rest : List K) → In g text → run same (Or g h) (text ++ rest) ≡ run same g (text ++ rest) → Ends same (extension (Or g h)) rest (run same (Or g h) (text ++ rest))
  ends_first text rest t e = rw e (Ends-more same (extension g) (extension (Or g h)) rest (run same g (text ++ rest)) more_first (left.ends text rest t))

  ends_second : (text rest : List K) → In h text → run same (Or g h) (text ++ rest) ≡ run same h (text ++ rest) → Ends same (extension (Or g h)) rest (run same (Or g h) (text ++ rest))
  ends_second text rest t e = rw e (Ends-more same (extension h) (extension (Or g h)) rest (run same h (text ++ rest)) more_second (right.ends text rest t))

  -- behind the empty text of the first, by what the next kind begins
  none_of_first : (k : K) (more : List K) → In g [] → (a b : Bool) → starts same g (k ∷ more) ≡ a → starts same h (k ∷ more) ≡ b → Ends same (extension (Or g h)) (k ∷ more) (run same (Or g h) (k ∷ more))
  none_of_first k more t true b e f = ends_first [] (k ∷ more) t (run_first same g h (k ∷ more) (rw e refl))
  none_of_first k more t false false e f = ends_first [] (k ∷ more) t (run_first same g h (k ∷ more) (rw (e, f, nullable_from_In g t) refl))
  none_of_first k more t false true e f =
      let begun = Begins-first same exact h k f in
      inr (record { next = k; others = more; is = refl; allowed = more_from_first k (nullable_from_In g t) f; behind = or_passes_second [] k begun.0 more begun.1 })

  none_of_second : (k : K) (more : List K) → In h [] → nullable g ≡ false → (a : Bool) → starts same g (k ∷ more) ≡ a → Ends same (extension (Or g h)) (k ∷ more) (run same (Or g h) (k ∷ more))
  none_of_second k more t n false e = ends_second [] (k ∷ more) t (run_second same g h (k ∷ more) (rw (e, n) refl))
  none_of_second k more t n true e =
      let begun = Begins-first same exact g k e in
      inr (record { next = k; others = more; is = refl; allowed = more_from_second k (nullable_from_In h t) e; behind = or_passes_first [] k begun.0 more begun.1 })

  -- where the second has the empty text, the first hasn't
  other_has_none : In h [] → nullable g ≡ false
  other_has_none t = false_from_ne_true (nullable g) (λ n. let both : (nullable g && nullable h) ≡ true = rw (n, nullable_from_In h t) refl in absurd (let e = not-true _ one in cc))

  or_ends_first : (text rest : List K) → In g text → Ends same (extension (Or g h)) rest (run same (Or g h) (text ++ rest))
  or_ends_first (k ∷ text) rest t = ends_first (k ∷ text) rest t (first_is_next k text (text ++ rest) t)
  or_ends_first [] [] t = ends_first [] [] t (run_first same g h [] (rw (nullable_from_In g t) refl))
  or_ends_first [] (k ∷ more) t = none_of_first k more t _ _ refl refl

  or_ends_second : (text rest : List K) → In h text → Ends same (extension (Or g h)) rest (run same (Or g h) (text ++ rest))
  or_ends_second (k ∷ text) rest t = ends_second (k ∷ text) rest t (second_is_next k text (text ++ rest) t)
  or_ends_second [] [] t = ends_second [] [] t (run_second same g h [] (rw (other_has_none t) refl))
  or_ends_second [] (k ∷ more) t = none_of_second k more t (other_has_none t) _ refl

  or_passes : (text front : List K) (k : K) (back more : List K) → text ≡ front ++ k ∷ back → In (Or g h) text → length (rest_of (run same (Or g h) (front ++ k ∷ more))) ≤ length more
  unfolding In
  or_passes text front k back more e (inl t) = or_passes_first front k back more (rw e at t)
  or_passes text front k back more e (inr t) = or_passes_second front k back more (rw e at t)

  or_ends : (text rest : List K) → In (Or g h) text → Ends same (extension (Or g h)) rest (run same (Or g h) (text ++ rest))
  unfolding In
  or_ends text rest (inl t) = or_ends_first text rest t
  or_ends text rest (inr t) = or_ends_second text rest t

  pub or_follows : Follows same (In (Or g h)) (extension (Or g h)) (run same (Or g h))
  or_follows = record { ends = or_ends; passes = or_passes }
