-- Units that are dealt to their tiles.
use Rattle.std.proofs.Common.{◌≡◌, ◌≢◌, ℕ, ◌+◌, ◌<◌, List, [], ◌∷◌, ◌++◌, length, get_or, set, take, inl, inr, refl, sym, ap, ◌∙◌, eqb, append_assoc, append-nil}
use Rattle.std.proofs.lemmas.Bool.{and_from, and_parts, cases_eq, eq-eqb, eqb-true, ne_eqb}
use Rattle.std.proofs.lemmas.Grind.{get_or-set_at}
use Rattle.std.proofs.lemmas.List.{get_or-set_other}
use Rattle.std.proofs.lemmas.List.Elements.{filter_more}
use Rattle.std.proofs.lemmas.List.Kept.{AllPairs-filter}
use Rattle.spf_space.proofs.InOrder.{stands}
use Rattle.spf_space.specs.InOrder.{AreInOrder, ComesBefore, units_in}
use Rattle.spf_space.specs.Places.{Place, place_of}
use Rattle.spf_space.specs.declared.places.Places.{Places}
use Rattle.spf_space.specs.declared.shape.Shape.{Shape}
use Rattle.spf_touch.proofs.Members.{in_filter}
use Rattle.spf_tiles.specs.Lists.{AreLists, dealt_to}

-- one more unit
module _ (t : ℕ) (tiles units : List ℕ) (i d : ℕ) (inside : i < length units) where
  in_more : get_or tiles (get_or units i d) 0 ≡ t → dealt_to t tiles (take (i + 1) units) ≡ dealt_to t tiles (take i units) ++ get_or units i d ∷ []
  in_more same = rw (eq-eqb (get_or tiles (get_or units i d) 0) t same) at (filter_more (λ u. eqb (get_or tiles u 0) t) units i d inside)

  in_others : get_or tiles (get_or units i d) 0 ≢ t → dealt_to t tiles (take (i + 1) units) ≡ dealt_to t tiles (take i units)
  in_others other =
      let step = rw (ne_eqb (get_or tiles (get_or units i d) 0) t other) at (filter_more (λ u. eqb (get_or tiles u 0) t) units i d inside) in
      step ∙ append-nil (dealt_to t tiles (take i units))

pub put_more : (xs : List (List ℕ)) (start : ℕ → List ℕ) (tiles units : List ℕ) (i d tile : ℕ) (row : List ℕ) → i < length units → tile ≡ get_or tiles (get_or units i d) 0 → tile < length xs →
    row ≡ get_or xs tile [] ++ get_or units i d ∷ [] → ((t : ℕ) → get_or xs t [] ≡ start t ++ dealt_to t tiles (take i units)) →
    (t : ℕ) → get_or (set xs tile row) t [] ≡ start t ++ dealt_to t tiles (take (i + 1) units)
put_more xs start tiles units i d tile row inside is there row_is old t = elim (cases_eq tile t) [
  | inl same ↦
      get_or-set_at xs tile t row [] (sym same) there ∙ row_is ∙ ap (λ l. l ++ get_or units i d ∷ []) (ap (λ k. get_or xs k []) same ∙ old t)
      ∙ append_assoc (start t) (dealt_to t tiles (take i units)) (get_or units i d ∷ []) ∙ ap (λ l. start t ++ l) (sym (in_more t tiles units i d inside (sym is ∙ same)))
  | inr other ↦ get_or-set_other xs tile t row [] (λ e. other (sym e)) ∙ old t ∙ ap (λ l. start t ++ l) (sym (in_others t tiles units i d inside (λ e. other (is ∙ e))))
]

module _ (shape : Shape) (places : Places) (units : List ℕ) (are : AreInOrder shape places units) where
  abbrev place : ℕ → Place
  place = place_of shape.steps shape.loops places.tiles places.orders

  tile_of : (u : ℕ) → (place u).tile ≡ get_or places.tiles u 0
  unfolding place_of
  tile_of u = refl

  pub lists_are : (tiles : ℕ) (lists : List (List ℕ)) → length lists ≡ tiles → ((t : ℕ) → get_or lists t [] ≡ dealt_to t places.tiles units) → AreLists place (units_in shape) tiles lists
  lists_are tiles lists each dealt = record {
    each_tile = each;
    units = λ t u lt.
        let kept = in_filter (λ v. eqb (get_or places.tiles v 0) t) units u in (
          λ h. let both = and_parts _ _ (sym kept ∙ rw (dealt t) at h) in ((stands shape places units are u).0 both.1, tile_of u ∙ eqb-true _ t both.0),
          λ h. rw (dealt t) (kept ∙ and_from _ _ (eq-eqb (get_or places.tiles u 0) t (sym (tile_of u) ∙ h.1)) ((stands shape places units are u).1 h.0)),
        );
    rising = λ t. rw (dealt t) (AllPairs-filter (ComesBefore shape places) (λ u. eqb (get_or places.tiles u 0) t) units are.order);
  }
