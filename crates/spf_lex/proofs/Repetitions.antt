-- A reader of any number of texts, one behind another, follows them.
use Rattle.std.proofs.Common.{◌≡◌, ◌≤◌, ℕ, zero, suc, Bool, true, false, not, List, [], ◌∷◌, ◌++◌, length, Result, refl, sym, ap, ◌∙◌, append_assoc, inl, inr, arith, length-append, le_refl, le_trans}
use Rattle.std.specs.List.{list_any}
use Rattle.std.proofs.lemmas.Bool.{not-true, both_ways}
use Rattle.spf_lex.specs.Grammar.{Grammar, Many, joined, Each, In, IsExact, rest_of}
use Rattle.spf_lex.specs.LookAhead.{nullable, first, extension, are_disjoint}
use Rattle.spf_lex.specs.Reading.{run, and_then, many_of, starts}
use Rattle.spf_lex.proofs.Texts.{element_of_append, any_left, any_right, nullable_from_In, first_from_In}
use Rattle.spf_lex.proofs.Taken.{Takes-shorter, many_takes, run_takes}
use Rattle.spf_lex.proofs.Follows.{GoesOn, Ends, Follows, and_then-shorter, no_way_on, starts_passes}

module _ {K : Type 0} (same : K → K → Bool) (exact : IsExact same) (g : Grammar K) (some : not (nullable g) ≡ true) (apart : are_disjoint same (extension g) (first g) ≡ true) (left : Follows same (In g) (extension g) (run same g)) where
  -- reads on with at most n parts
  abbrev go_on : ℕ → List K → Result (List K) (List K)
  go_on n kinds = many_of (starts same g) (run same g) n kinds

  not_empty : In g [] → ⊥
  not_empty t = both_ways (nullable g) (not-true (nullable g) some) (nullable_from_In g t)

  far_enough : (n : ℕ) (kinds more : List K) → length (rest_of (run same g kinds)) ≤ length more → length (rest_of (and_then (run same g kinds) (go_on n))) ≤ length more
  far_enough n kinds more le = le_trans (and_then-shorter (run same g kinds) (go_on n) (λ rest. Takes-shorter rest (go_on n rest) (many_takes g (starts same g) (run same g) (run_takes same exact g) n rest))) le

  begins_part : (k : K) (part more : List K) → In g (k ∷ part) → starts same g (k ∷ more) ≡ true
  begins_part k part more t = first_from_In same exact g k part t

  step : (n : ℕ) (kinds : List K) → starts same g kinds ≡ true → go_on (suc n) kinds ≡ and_then (run same g kinds) (go_on n)
  step n kinds e = rw e refl

  more_first : (k : K) → list_any (same k) (first g) ≡ true → list_any (same k) (extension (Many g)) ≡ true
  unfolding extension
  more_first k e = any_left same k (first g) (extension g) e

  more_part : (k : K) → list_any (same k) (extension g) ≡ true → list_any (same k) (extension (Many g)) ≡ true
  unfolding extension
  more_part k e = any_right same k (first g) (extension g) e

  -- behind the last part
  none_left : (n : ℕ) (rest : List K) → Ends same (extension (Many g)) rest (go_on n rest)
  none_left zero rest = inl refl
  none_left (suc n) [] = inl refl
  none_left (suc n) (k ∷ more) = by_next (starts same g (k ∷ more)) refl
    where
      by_next : (b : Bool) → starts same g (k ∷ more) ≡ b → Ends same (extension (Many g)) (k ∷ more) (go_on (suc n) (k ∷ more))
      by_next true e = inr (record { next = k; others = more; is = refl; allowed = more_first k e; behind = rw (step n (k ∷ more) e) (far_enough n (k ∷ more) more (starts_passes same exact g left k more e)) })
      by_next false e = inl (rw e refl)

  -- a part can't go on into the next one
  no_way_on_to : (k : K) (back rest : List K) (parts : List (List K)) (outcome : Result (List K) (List K)) → Each (In g) parts → k ∷ back ≡ joined parts → GoesOn same (extension g) (k ∷ rest) outcome → ⊥
  unfolding In first
  no_way_on_to k back rest parts outcome each e o = no_way_on same exact g (Many g) apart k back rest outcome (parts, e, each) o

  -- where a part goes on behind its end, it was the last one
  last_part : (n : ℕ) (part back rest : List K) (parts : List (List K)) → Each (In g) parts → back ≡ joined parts → GoesOn same (extension g) (back ++ rest) (run same g (part ++ (back ++ rest))) → Ends same (extension (Many g)) rest (and_then (run same g (part ++ (back ++ rest))) (go_on n))
  last_part n part [] rest parts each e o = inr (record { next = o.next; others = o.others; is = o.is; allowed = more_part o.next o.allowed; behind = far_enough n (part ++ rest) o.others o.behind })
  last_part n part (k ∷ back) rest parts each e o = absurd (no_way_on_to k back (back ++ rest) parts _ each e o)

  many_ends : (n : ℕ) (parts : List (List K)) (rest : List K) → length (joined parts ++ rest) ≤ n → Each (In g) parts → Ends same (extension (Many g)) rest (go_on n (joined parts ++ rest))
  many_ends n [] rest le each = none_left n rest
  many_ends n ([] ∷ parts) rest le each = absurd (not_empty each.0)
  many_ends zero ((k ∷ part) ∷ parts) rest le each = absurd (omega arith)
  many_ends (suc n) ((k ∷ part) ∷ parts) rest le each =
      rw (append_assoc (k ∷ part) (joined parts) rest, step n (k ∷ part ++ (joined parts ++ rest)) (begins_part k part (part ++ (joined parts ++ rest)) each.0))
      (elim (left.ends (k ∷ part) (joined parts ++ rest) each.0) [
        | inl e ↦ rw e (many_ends n parts rest (omega (arith, length-append (part ++ joined parts) rest, length-append part (joined parts), length-append (joined parts) rest)) each.1)
        | inr o ↦ last_part n (k ∷ part) (joined parts) rest parts each.1 refl o
      ])

  part_passes : (part middle : List K) (k : K) (back more : List K) (parts : List (List K)) → Each (In g) parts → joined parts ≡ middle ++ k ∷ back → GoesOn same (extension g) (middle ++ k ∷ more) (run same g (part ++ (middle ++ k ∷ more))) → ⊥
  part_passes part [] k back more parts each e o = no_way_on_to k back more parts _ each (sym e) o
  part_passes part (m ∷ middle) k back more parts each e o = no_way_on_to m (middle ++ k ∷ back) (middle ++ k ∷ more) parts _ each (sym e) o

  -- the first kind of a list that begins with a part
  starts_at : (k : K) (part : List K) (front : List K) (j : K) (others more : List K) → In g (k ∷ part) → k ∷ part ≡ front ++ j ∷ others → starts same g (front ++ j ∷ more) ≡ true
  starts_at k part [] j others more t e = begins_part j others more (rw e at t)
  starts_at k part (f ∷ front) j others more t e = begins_part f (front ++ j ∷ others) (front ++ j ∷ more) (rw e at t)

  many_passes : (n : ℕ) (parts : List (List K)) (front : List K) (k : K) (back more : List K) → length (front ++ k ∷ more) ≤ n → joined parts ≡ front ++ k ∷ back → Each (In g) parts → length (rest_of (go_on n (front ++ k ∷ more))) ≤ length more
  many_passes n [] front k back more le e each = absurd (nil_is_short front e)
    where
      nil_is_short : (front : List K) → [] ≡ front ++ k ∷ back → ⊥
      nil_is_short [] e = absurd cc
      nil_is_short (f ∷ front) e = absurd cc
  many_passes n ([] ∷ parts) front k back more le e each = absurd (not_empty each.0)
  many_passes zero ((p ∷ part) ∷ parts) front k back more le e each = absurd (omega (arith, length-append front (k ∷ more)))
  many_passes (suc n) ((p ∷ part) ∷ parts) front k back more le e each =
      elim (element_of_append front k back (p ∷ part) (joined parts) e) [
        | inl f ↦ rw (step n (front ++ k ∷ more) (starts_at p part front k f.others more each.0 f.is)) (far_enough n (front ++ k ∷ more) more (left.passes (p ∷ part) front k f.others more f.is each.0))
        | inr s ↦ rw (s.front_is, append_assoc (p ∷ part) s.middle (k ∷ more), step n (p ∷ part ++ (s.middle ++ k ∷ more)) (begins_part p part (part ++ (s.middle ++ k ∷ more)) each.0))
            (elim (left.ends (p ∷ part) (s.middle ++ k ∷ more) each.0) [
              | inl e' ↦ rw e' (many_passes n parts s.middle k back more (omega (arith, ap length s.front_is, length-append front (k ∷ more), length-append (p ∷ part) s.middle, length-append s.middle (k ∷ more))) s.is each.1)
              | inr o ↦ absurd (part_passes (p ∷ part) s.middle k back more parts each.1 s.is o)
            ])
      ]

  pub many_follows : Follows same (In (Many g)) (extension (Many g)) (run same (Many g))
  unfolding In run
  many_follows = record {
    ends = λ text rest t. rw t.1 (many_ends (length (joined t.0 ++ rest)) t.0 rest (le_refl _) t.2);
    passes = λ text front k back more e t. many_passes (length (front ++ k ∷ more)) t.0 front k back more (le_refl _) (sym t.1 ∙ e) t.2;
  }
