-- Links between neighbouring groups suffice.
use Rattle.std.proofs.Common.{◌≡◌, ◌≢◌, ℕ, zero, suc, ◌+◌, ◌<◌, ◌⊎◌, List, [], length, get_or, inl, inr, ◌∙◌, refl, sym, subst, add-one, arith}
use Rattle.std.proofs.lemmas.Bool.{cases_eq, cases_lt, cases_order}
use Rattle.std.proofs.lemmas.List.{get_or_past}
use Rattle.spf_touch.specs.declared.touch.Touch.{Touch}
use Rattle.spf_layers.specs.Fits.{Fits, StandApart, StandsIn}
use Rattle.spf_layers.specs.Groups.{Group, element_groups, group_at}
use Rattle.spf_touch.proofs.Members.{in_at}
use Rattle.spf_layers.proofs.Members.{stands_within}
use Rattle.spf_tiles.specs.Before.{Leads, Link}
use Rattle.spf_tiles.specs.Links.{LayersLink}
use Rattle.spf_tiles.proofs.Chains.{leads_join}

element_there : (layers : List (List Group)) (e p q : ℕ) → StandApart (element_groups layers e) p q → e < length layers
element_there layers e p q apart = elim (cases_lt e (length layers)) [
  | inl lt ↦ lt
  | inr past ↦ let none : StandApart [] p q = rw get_or_past at apart in let here = none.here in cc
]

module _ (touches : ℕ → List Touch) (tiles : List ℕ) (layers : List (List Group)) (fits : Fits touches (length tiles) layers) where
  -- two tiles with units in neighbouring groups
  abbrev pub Near : ℕ → ℕ → Type 0
  Near c d = (c ≢ d) × LayersLink tiles layers (length layers) c d

  abbrev tile : ℕ → ℕ
  tile u = get_or tiles u 0

  pub near_link : (c d : ℕ) → Near c d → Link touches tiles c d
  near_link c d (differ, (e, there, (n, inside, linked))) =
      let at = fits.groups e in
      let p = linked.here in
      let q = linked.there in
      let rise : p.0 < q.0 = at.between n (n + 1) p.0 q.0 (omega arith) p.1 q.1 in
      let low : q.0 < length tiles = at.inside (n + 1) q.0 q.1 in
      record {
        first = p.0;
        second = q.0;
        differ = differ;
        ascend = rise;
        inside = low;
        conflict = (fits.conflicts p.0 q.0 (omega arith) low (λ same. omega arith)).1
            (e, record { first = n; second = n + 1; differ = λ same. omega arith; here = p.1; there = q.1; clash = at.changes n inside });
        here = p.2;
        there = q.2;
      }

  -- the tiles are one, or a chain leads from the first to the second
  abbrev Joined : ℕ → ℕ → Type 0
  Joined a b = (a ≡ b) ⊎ Leads Near a b

  join : (a b c : ℕ) → Joined a b → Joined b c → Joined a c
  join a b c (inl same) next = subst (λ x. Joined x c) (sym same) next
  join a b c (inr first) (inl same) = inr (subst (λ x. Leads Near a x) same first)
  join a b c (inr first) (inr next) = inr (leads_join Near a b c first next)

  module _ (e : ℕ) (there : e < length layers) where
    step : (n p q : ℕ) → StandsIn (element_groups layers e) n p → StandsIn (element_groups layers e) (n + 1) q → Joined (tile p) (tile q)
    step n p q here next = elim (cases_eq (tile p) (tile q)) [
      | inl same ↦ inl same
      | inr differ ↦ inr (
        0,
        (differ, (e, there, (n, stands_within (element_groups layers e) (n + 1) q next, record { here = (p, here, refl); there = (q, next, refl) }))),
      )
    ]

    between : (i j p q : ℕ) → i < j → StandsIn (element_groups layers e) i p → StandsIn (element_groups layers e) j q → Joined (tile p) (tile q)
    between i zero p q lt here next = absurd (omega arith)
    between i (suc k) p q lt here next =
        let groups = element_groups layers e in
        let last : StandsIn groups (k + 1) q = rw add-one next in
        elim (cases_eq i k) [
          | inl same ↦ step k p q (subst (λ n. StandsIn groups n p) same here) last
          | inr far ↦
              let inside = stands_within groups (suc k) q next in
              let units = (group_at groups k).units in
              let r = get_or units 0 0 in
              let mid : StandsIn groups k r = in_at units 0 0 ((fits.groups e).filled k (omega arith)) in
              join (tile p) (tile r) (tile q) (between i k p r (omega arith) here mid) (step k r q mid last)
        ]

  pub link_near : (c d : ℕ) → Link touches tiles c d → Leads Near c d
  link_near c d link =
      let p = link.first in
      let q = link.second in
      let rise : p < q = link.ascend in
      let inside : q < length tiles = link.inside in
      let found = (fits.conflicts p q (omega arith) inside (λ same. omega arith)).0 link.conflict in
      let apart = found.1 in
      let there = element_there layers found.0 p q apart in
      let joined : Joined (tile p) (tile q) = elim (cases_order apart.first apart.second) [
        | inl same ↦ absurd (apart.differ same)
        | inr (inl lt) ↦ between found.0 there apart.first apart.second p q lt apart.here apart.there
        | inr (inr gt) ↦ let back = (fits.groups found.0).between apart.second apart.first q p gt apart.there apart.here in absurd (omega arith)
      ] in
      elim joined [
        | inl same ↦ absurd (link.differ (sym link.here ∙ same ∙ link.there))
        | inr chain ↦ rw (link.here, link.there) at chain
      ]
