-- The order of the tiles is Before.
use Rattle.std.proofs.Common.{◌≡◌, ◌≢◌, ℕ, ◌<◌, ◌≤◌, ◌↔◌, true, List, [], length, get_or, replicate, inl, inr, refl, subst, arith}
use Rattle.std.proofs.lemmas.Bool.{cases_lt}
use Rattle.std.proofs.lemmas.List.{get_or_past}
use Rattle.std.specs.List.{All}
use Rattle.spf_touch.specs.Conflict.{Conflict}
use Rattle.spf_touch.specs.Ordered.{is_in}
use Rattle.spf_touch.specs.declared.touch.Touch.{Touch}
use Rattle.spf_space.specs.Places.{ArePlacesOf, IsBelow, place_of}
use Rattle.spf_space.specs.Units.{units_of}
use Rattle.spf_space.specs.declared.shape.LoopShape.{LoopShape}
use Rattle.spf_layers.specs.Fits.{Fits}
use Rattle.spf_layers.specs.Groups.{Group}
use Rattle.spf_layers.specs.Legality.{IsLegal}
use Rattle.spf_core.specs.History.{is_before}
use Rattle.spf_tiles.specs.Before.{Before, Leads, Link}
use Rattle.spf_tiles.specs.Links.{LayersLink, Rises}
use Rattle.spf_tiles.specs.Parts.{IsOrderFor}
use Rattle.spf_tiles.specs.TileSets.{AreAdded}
use Rattle.spf_tiles.proofs.Chains.{chain_last, chain_like, chain_rises, leads_join}
use Rattle.spf_tiles.proofs.Neighbours.{Near, link_near, near_link}
use Rattle.spf_tiles.proofs.TileSets.{none_has}

module _ (steps : ℕ) (loops : List LoopShape) (tiles : List ℕ) (orders : List (List ℕ)) where
  below_tiles : (p q : ℕ) → IsBelow (place_of steps loops tiles orders p) (place_of steps loops tiles orders q) → get_or tiles p 0 ≤ get_or tiles q 0
  unfolding place_of
  below_tiles p q (inl less) = omega (arith, less)
  below_tiles p q (inr same) = omega (arith, same.0)

  -- for legal places a link goes from a lesser tile to a greater one
  pub link_rises : ArePlacesOf steps loops tiles orders → (touches : ℕ → List Touch) → IsLegal touches (place_of steps loops tiles orders) (length (units_of steps loops)) →
      (c d : ℕ) → Link touches tiles c d → c < d
  link_rises places touches legal c d link =
      let inside : link.second < length tiles = link.inside in
      let count : length tiles ≡ length (units_of steps loops) = places.each_unit in
      let up = below_tiles link.first link.second (legal link.first link.second link.ascend (omega arith) link.conflict) in
      let e : get_or tiles link.first 0 ≡ c = link.here in
      let f : get_or tiles link.second 0 ≡ d = link.there in
      let differ : c ≢ d = link.differ in
      omega arith

  conflict_before : ArePlacesOf steps loops tiles orders → (touches : ℕ → List Touch) → (p q : ℕ) → p < q → q < length (units_of steps loops) → Conflict (touches p) (touches q) →
      (place_of steps loops tiles orders p).tile ≢ (place_of steps loops tiles orders q).tile → Before touches tiles (place_of steps loops tiles orders p).tile (place_of steps loops tiles orders q).tile
  unfolding place_of
  conflict_before places touches p q less inside conflict differ =
      (0, record { first = p; second = q; differ = differ; ascend = less; inside = omega (arith, places.each_unit, inside); conflict = conflict; here = refl; there = refl })

  pub order_for : ArePlacesOf steps loops tiles orders → (touches : ℕ → List Touch) → IsLegal touches (place_of steps loops tiles orders) (length (units_of steps loops)) →
      (count : ℕ) (order : List (List ℕ)) → length order ≡ count → ((a b : ℕ) → (is_before order a b ≡ true) ↔ Before touches tiles a b) →
      IsOrderFor touches (place_of steps loops tiles orders) (length (units_of steps loops)) count order
  order_for places touches legal count order each is = record {
    each_tile = each;
    transitive = λ a b c h k. (is a c).1 (leads_join (Link touches tiles) a b c ((is a b).0 h) ((is b c).0 k));
    upward = λ a b h. let chain = (is a b).0 h in chain_rises (Link touches tiles) (link_rises places touches legal) a chain.0 b chain.1;
    linked = λ p q less inside conflict differ. (is _ _).1 (conflict_before places touches p q less inside conflict differ);
  }

-- touches that the same layers fit have the same legal places
pub legal_too : (steps : ℕ) (loops : List LoopShape) (tiles : List ℕ) (orders : List (List ℕ)) (touches others : ℕ → List Touch) (layers : List (List Group)) →
    Fits touches (length (units_of steps loops)) layers → Fits others (length (units_of steps loops)) layers →
    IsLegal touches (place_of steps loops tiles orders) (length (units_of steps loops)) → IsLegal others (place_of steps loops tiles orders) (length (units_of steps loops))
legal_too steps loops tiles orders touches others layers fits also legal p q less inside conflict =
    let first : p < length (units_of steps loops) = omega arith in
    let differ : p ≢ q = λ same. omega arith in
    legal p q less inside ((fits.conflicts p q first inside differ).1 ((also.conflicts p q first inside differ).0 conflict))

module _ (touches : ℕ → List Touch) (tiles : List ℕ) (layers : List (List Group)) (fits : Fits touches (length tiles) layers) (count : ℕ) (few : count ≤ 1024) (below : All (λ t. t < count) tiles)
    (rises : (c d : ℕ) → Link touches tiles c d → c < d) (links : List ℕ) (size : ℕ) (added : AreAdded (replicate size 0) links (LayersLink tiles layers (length layers))) where
  there : (c d : ℕ) → Link touches tiles c d → d < count
  there c d link = subst (λ t. t < count) link.there (below link.second 0 link.inside)

  near_rises : (c d : ℕ) → Near touches tiles layers fits c d → Rises links c d
  near_rises c d near =
      let link = near_link touches tiles layers fits c d near in
      let up : c < d = rises c d link in
      let low : d < count = there c d link in
      (up, omega arith, (added c d (omega arith)).1 (inr near.1))

  rises_near : (c d : ℕ) → Rises links c d → Leads (Link touches tiles) c d
  rises_near c d (up, low, link) = elim ((added c d (omega arith)).0 link) [
    | inl none ↦ absurd (none_has size c d none)
    | inr near ↦ (0, near_link touches tiles layers fits c d ((λ same. omega arith), near))
  ]

  link_leads : (c d : ℕ) → Link touches tiles c d → Leads (Rises links) c d
  link_leads c d link =
      let chain = link_near touches tiles layers fits c d link in
      chain_like (Near touches tiles layers fits) (Rises links) (λ a b near. (0, near_rises a b near)) c chain.0 d chain.1

  pub order_before : (rows : List (List ℕ)) → length rows ≡ count → ((a b : ℕ) → b < count → (is_before rows a b ≡ true) ↔ Leads (Rises links) a b) →
      (a b : ℕ) → (is_before rows a b ≡ true) ↔ Before touches tiles a b
  order_before rows same chains a b = (
    λ h. elim (cases_lt b count) [
      | inl inside ↦ (let chain = (chains a b inside).0 h in chain_like (Rises links) (Link touches tiles) rises_near a chain.0 b chain.1)
      | inr past ↦ (let out : length rows ≤ b = omega arith in let none : is_in [] a ≡ true = rw (get_or_past rows b [] out) at h in cc)
    ],
    λ h.
        let last = chain_last (Link touches tiles) a h.0 b h.1 in
        (chains a b (there last.0 b last.1)).1 (chain_like (Link touches tiles) (Rises links) link_leads a h.0 b h.1),
  )
