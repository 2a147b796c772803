-- A reader of one text and then another follows the texts of both.
use Rattle.std.proofs.Common.{◌≡◌, ◌≤◌, Bool, true, List, [], ◌∷◌, ◌++◌, length, refl, sym, ◌∙◌, append_assoc, inl, inr, le_trans}
use Rattle.spf_lex.specs.Grammar.{Grammar, Then, In, IsExact, rest_of}
use Rattle.spf_lex.specs.LookAhead.{first, extension, are_disjoint}
use Rattle.spf_lex.specs.Reading.{run, and_then}
use Rattle.spf_lex.proofs.Texts.{element_of_append, any_left, any_right, nullable_from_In}
use Rattle.spf_lex.proofs.Taken.{Takes-shorter, run_takes}
use Rattle.spf_lex.proofs.Follows.{Ends, Follows, Ends-more, and_then-shorter, no_way_on}

module _ {K : Type 0} (same : K → K → Bool) (exact : IsExact same) (g h : Grammar K) (apart : are_disjoint same (extension g) (first h) ≡ true) (left : Follows same (In g) (extension g) (run same g)) (right : Follows same (In h) (extension h) (run same h)) where
  -- a reader that the first part takes far enough is far enough
  far_enough : (kinds more : List K) → length (rest_of (run same g kinds)) ≤ length more → length (rest_of (and_then (run same g kinds) (run same h))) ≤ length more
  far_enough kinds more le = le_trans (and_then-shorter (run same g kinds) (run same h) (λ rest. Takes-shorter rest (run same h rest) (run_takes same exact h rest))) le

  then_ends : (front back rest : List K) → In h back → Ends same (extension g) (back ++ rest) (run same g (front ++ (back ++ rest))) → Ends same (extension (Then g h)) rest (and_then (run same g (front ++ (back ++ rest))) (run same h))
  unfolding extension
  then_ends front back rest u (inl e) = rw e (Ends-more same (extension h) _ rest (run same h (back ++ rest)) (λ k. any_left same k (extension h) _) (right.ends back rest u))
  then_ends front [] rest u (inr o) = inr (record {
    next = o.next;
    others = o.others;
    is = o.is;
    allowed = any_right same o.next (extension h) _ (rw (nullable_from_In h u) o.allowed);
    behind = far_enough (front ++ rest) o.others o.behind;
  })
  then_ends front (k ∷ back) rest u (inr o) = absurd (no_way_on same exact g h apart k back (back ++ rest) _ u o)

  then_passes : (front middle : List K) (k : K) (back more : List K) → In h (middle ++ k ∷ back) → Ends same (extension g) (middle ++ k ∷ more) (run same g (front ++ (middle ++ k ∷ more))) → length (rest_of (and_then (run same g (front ++ (middle ++ k ∷ more))) (run same h))) ≤ length more
  then_passes front middle k back more u (inl e) = rw e (right.passes (middle ++ k ∷ back) middle k back more refl u)
  then_passes front [] k back more u (inr o) = absurd (no_way_on same exact g h apart k back more _ u o)
  then_passes front (m ∷ middle) k back more u (inr o) = absurd (no_way_on same exact g h apart m (middle ++ k ∷ back) (middle ++ k ∷ more) _ u o)

  pub then_follows : Follows same (In (Then g h)) (extension (Then g h)) (run same (Then g h))
  unfolding In run
  then_follows = record {
    ends = λ text rest t. rw (t.2, append_assoc t.0 t.1 rest) (then_ends t.0 t.1 rest t.4 (left.ends t.0 (t.1 ++ rest) t.3));
    passes = λ text front k back more e t. elim (element_of_append front k back t.0 t.1 (sym t.2 ∙ e)) [
      | inl f ↦ far_enough (front ++ k ∷ more) more (left.passes t.0 front k f.others more f.is t.3)
      | inr s ↦ rw (s.front_is, append_assoc t.0 s.middle (k ∷ more)) (then_passes t.0 s.middle k back more (rw s.is at t.4) (left.ends t.0 (s.middle ++ k ∷ more) t.3))
    ];
  }
