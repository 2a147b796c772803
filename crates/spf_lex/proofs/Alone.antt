-- Where no text of a clear grammar begins with another, the text in front of some kinds is told by the kinds.
use Rattle.std.proofs.Common.{◌≡◌, ◌⊎◌, Bool, true, List, [], ◌∷◌, ◌++◌, Ok, Err, refl, sym, ap, ◌∙◌, append_assoc, append-nil, inl, inr}
use Rattle.std.proofs.lemmas.List.{append_cancel_right}
use Rattle.spf_lex.specs.Grammar.{Grammar, In, IsExact, IsReading, rest_of}
use Rattle.spf_lex.specs.LookAhead.{extension, is_clear}
use Rattle.spf_lex.specs.Reading.{run}
use Rattle.spf_lex.proofs.Follows.{Ends}
use Rattle.spf_lex.proofs.Readings.{follows}

-- of two fronts of one list, the first goes past the second, or the second goes on from the first
by_fronts : {K : Type 0} (a rest b left : List K) → a ++ rest ≡ b ++ left
    → ((k : K) × (back : List K) × (a ≡ b ++ k ∷ back) × (left ≡ k ∷ (back ++ rest))) ⊎ ((more : List K) × (b ≡ a ++ more))
by_fronts [] rest b left e = inr (b, refl)
by_fronts (k ∷ a) rest [] left e = inl (k, a, refl, sym e)
by_fronts (k ∷ a) rest (j ∷ b) left e =
    let same : k ≡ j = cc in
    let tails : a ++ rest ≡ b ++ left = cc in
    elim (by_fronts a rest b left tails) [
      | inl past ↦ inl (past.0, past.1, rw same (ap (λ (ks : List _). j ∷ ks) past.2), past.3)
      | inr on ↦ inr (on.0, rw same (ap (λ (ks : List _). j ∷ ks) on.1))
    ]

module _ {K : Type 0} (same : K → K → Bool) (exact : IsExact same) (g : Grammar K) (clear : is_clear same g ≡ true) (alone : extension g ≡ []) where
  -- reading stops behind the text
  text_ends : (front rest : List K) → In g front → run same g (front ++ rest) ≡ Ok rest
  text_ends front rest text = stops ((follows same exact g clear).ends front rest text)
    where
      stops : Ends same (extension g) rest (run same g (front ++ rest)) → run same g (front ++ rest) ≡ Ok rest
      stops (inl e) = e
      stops (inr on) = absurd (let none = rw alone at on.allowed in cc)

  pub same_front : (a b rest left : List K) → In g a → In g b → a ++ rest ≡ b ++ left → a ≡ b
  same_front a b rest left text other e =
      let rests : Ok rest ≡ Ok left = sym (text_ends a rest text) ∙ ap (run same g) e ∙ text_ends b left other in
      let is : rest ≡ left = ap rest_of rests in
      append_cancel_right a b left (rw is at e)

  -- no reading stops at a fault where a text stands in front
  pub no_fault : (front rest left : List K) → In g front → IsReading g (front ++ rest) (Err left) → ⊥
  no_fault front rest left text reading =
      elim (by_fronts front rest reading.front left reading.splits) [
        | inl past ↦ reading.longest past.0 (past.1 ++ rest) past.3 (past.1, rw (append_assoc, ← past.2) text)
        | inr on ↦
            let begun : In g (front ++ (on.0 ++ reading.begins.0)) = rw (← append_assoc, ← on.1) reading.begins.1 in
            let whole : run same g (front ++ (on.0 ++ reading.begins.0)) ≡ Ok [] = rw append-nil at (text_ends (front ++ (on.0 ++ reading.begins.0)) [] begun) in
            let none : on.0 ++ reading.begins.0 ≡ [] = ap rest_of (sym (text_ends front (on.0 ++ reading.begins.0) text) ∙ whole) in
            reading.verdict (rw on.1 (rw (no_more on.0 reading.begins.0 none, append-nil) text))
      ]
    where
      no_more : (a b : List K) → a ++ b ≡ [] → a ≡ []
      no_more [] b e = refl
      no_more (k ∷ a) b e = absurd cc
