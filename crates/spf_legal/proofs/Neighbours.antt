-- The first pair that falls stands in neighbouring groups.
use Rattle.std.proofs.Common.{◌≡◌, ℕ, zero, suc, ◌+◌, ◌<◌, ◌≤◌, ◌⊎◌, true, false, Option, Some, None, List, length, get_or, inl, inr, add-one, arith}
use Rattle.std.proofs.lemmas.Bool.{cases_Bool, cases_eq, cases_lt, cases_order}
use Rattle.spf_touch.specs.Conflict.{is_shared}
use Rattle.spf_touch.proofs.Classes.{shared_same}
use Rattle.spf_layers.specs.Fits.{StandsIn}
use Rattle.spf_layers.specs.Groups.{Group, group_at}
use Rattle.spf_layers.specs.Legality.{IsFirst}
use Rattle.spf_touch.proofs.Members.{in_at}
use Rattle.spf_layers.proofs.Members.{stands_within}
use Rattle.spf_legal.specs.Falling.{AreOrdered, FallsApart, NeighboursFall}

module _ (number : ℕ → ℕ) (count : ℕ) (groups : List Group) (ordered : AreOrdered count groups) where
  abbrev Neighbours : ℕ → ℕ → Type 0
  Neighbours = NeighboursFall number groups (length groups)

  abbrev Apart : ℕ → ℕ → Type 0
  Apart = FallsApart number groups

  -- what stands in two groups of classes that aren't shared
  module _ (i j p q : ℕ) (lt : i < j) (here : StandsIn groups i p) (there : StandsIn groups j q) (falls : number q < number p) where
    falls_apart : is_shared (group_at groups i).class (group_at groups j).class ≡ false → Apart p q
    falls_apart clash = record {
      ascend = ordered.between i j p q lt here there;
      apart = record { first = i; second = j; differ = λ e. omega arith; here = here; there = there; clash = clash };
      falls = falls;
    }

  neighbours_apart : (p q : ℕ) → Neighbours p q → Apart p q
  neighbours_apart p q (n, inside, between) = falls_apart n (n + 1) p q (omega arith) between.here between.there between.falls (ordered.changes n inside)

  a_unit : (n : ℕ) → n < length groups → (u : ℕ) × StandsIn groups n u
  a_unit n lt = let units = (group_at groups n).units in (get_or units 0 0, in_at units 0 0 (ordered.filled n lt))

  -- a pair that falls and doesn't stand in neighbouring groups has a neighbour of the second unit that falls too and is above
  -- the first one, or there is such a pair with a lesser second unit
  abbrev Better : ℕ → ℕ → Type 0
  Better p q = ((r : ℕ) × (p < r) × Neighbours r q) ⊎ ((a : ℕ) × (b : ℕ) × (b < q) × Apart a b)

  -- the group before the second one (k) has a unit r; where its class is shared with the first one's, the group before that has a unit s
  shared_step : (i k j p q r : ℕ) → i < k → k + 1 ≡ j → StandsIn groups i p → StandsIn groups k r → StandsIn groups j q →
      is_shared (group_at groups i).class (group_at groups k).class ≡ true → number r < number p → Better p q
  shared_step i zero j p q r lt e here mid there shared falls = absurd (omega arith)
  shared_step i (suc h) j p q r lt e here mid there shared falls =
      let k_in : suc h < length groups = stands_within groups (suc h) r mid in
      let differ : is_shared (group_at groups h).class (group_at groups (suc h)).class ≡ false = rw add-one at (ordered.changes h (omega arith)) in
      let same = shared_same (group_at groups i).class (group_at groups (suc h)).class shared in
      let low : i < h = elim (cases_eq i h) [
        | inl at ↦ let no : is_shared (group_at groups i).class (group_at groups (suc h)).class ≡ false = rw at differ in cc
        | inr other ↦ omega arith
      ] in
      let s = a_unit h (omega arith) in
      let before_q : r < q = ordered.between (suc h) j r q (omega arith) mid there in
      let before_r : s.0 < r = ordered.between h (suc h) s.0 r (omega arith) s.1 mid in
      elim (cases_lt (number r) (number s.0)) [
        | inl down ↦ inr (s.0, r, before_q, falls_apart h (suc h) s.0 r (omega arith) s.1 mid down differ)
        | inr up ↦
            let down : number s.0 < number p = omega arith in
            let turned : is_shared (group_at groups i).class (group_at groups h).class ≡ false =
            elim (cases_Bool (is_shared (group_at groups i).class (group_at groups h).class)) [
              | inl both ↦
                  let also = shared_same (group_at groups i).class (group_at groups h).class both in
                  let no : is_shared (group_at groups i).class (group_at groups (suc h)).class ≡ false = rw also differ in cc
              | inr not ↦ not
            ] in
            inr (p, s.0, omega arith, falls_apart i h p s.0 low here s.1 down turned)
      ]

  step : (p q i j : ℕ) → i + 1 < j → StandsIn groups i p → StandsIn groups j q → number q < number p → Better p q
  step p q i zero lt here there falls = absurd (omega arith)
  step p q i (suc k) lt here there falls =
      let inside = stands_within groups (suc k) q there in
      let r = a_unit k (omega arith) in
      let above : p < r.0 = ordered.between i k p r.0 (omega arith) here r.1 in
      let before_q : r.0 < q = ordered.between k (suc k) r.0 q (omega arith) r.1 there in
      elim (cases_lt (number q) (number r.0)) [
        | inl down ↦ inl (r.0, above, (k, rw add-one inside, record { here = r.1; there = rw add-one there; falls = down }))
        | inr up ↦ elim (cases_Bool (is_shared (group_at groups i).class (group_at groups k).class)) [
          | inl shared ↦ shared_step i k (suc k) p q r.0 (omega arith) (omega arith) here r.1 there shared (omega arith)
          | inr clash ↦ inr (p, r.0, before_q, falls_apart i k p r.0 (omega arith) here r.1 (omega arith) clash)
        ]
      ]

  -- a pair that falls stands in neighbouring groups, or there is a better one
  neighbours_or : (p q : ℕ) → Apart p q → Neighbours p q ⊎ Better p q
  neighbours_or p q pair = elim (cases_order pair.apart.first pair.apart.second) [
    | inl same ↦ absurd (pair.apart.differ same)
    | inr (inl lt) ↦ elim (cases_eq (pair.apart.first + 1) pair.apart.second) [
      | inl next ↦ inl (
        pair.apart.first,
        rw (← next) at (stands_within groups pair.apart.second q pair.apart.there),
        record { here = pair.apart.here; there = rw next pair.apart.there; falls = pair.falls },
      )
      | inr far ↦ inr (step p q pair.apart.first pair.apart.second (omega arith) pair.apart.here pair.apart.there pair.falls)
    ]
    | inr (inr gt) ↦ let back = ordered.between pair.apart.second pair.apart.first q p gt pair.apart.there pair.apart.here in let up = pair.ascend in absurd (omega arith)
  ]

  -- no pair has a second unit below that of every pair in neighbouring groups
  lowest : (least : ℕ) → ((a b : ℕ) → Neighbours a b → least ≤ b) → (fuel a b : ℕ) → b < fuel → Apart a b → least ≤ b
  lowest least bound zero a b lt pair = absurd (omega arith)
  lowest least bound (suc fuel) a b lt pair = elim (neighbours_or a b pair) [
    | inl near ↦ bound a b near
    | inr (inl (r, above, near)) ↦ bound r b near
    | inr (inr (c, d, less, other)) ↦ omega (arith, lowest least bound fuel c d (omega arith) other)
  ]

  none : ((p q : ℕ) → Neighbours p q → ⊥) → (p q : ℕ) → Apart p q → ⊥
  none never p q pair = let above : suc q ≤ q = lowest (suc q) (λ a b near. absurd (never a b near)) (suc q) p q (omega arith) pair in omega arith

  pub first_of_neighbours : (o : Option (ℕ × ℕ)) → IsFirst Neighbours o → IsFirst Apart o
  first_of_neighbours None never = none never
  first_of_neighbours (Some (p, q)) first =
      let least : (a b : ℕ) → Apart a b → q ≤ b = λ a b pair. lowest q first.least (suc b) a b (omega arith) pair in
      record {
        there = neighbours_apart p q first.there;
        least = least;
        greatest = λ a pair. elim (neighbours_or a q pair) [
          | inl near ↦ first.greatest a near
          | inr (inl (r, above, near)) ↦ omega (arith, first.greatest r near)
          | inr (inr (c, d, less, other)) ↦ absurd (omega (arith, least c d other))
        ];
      }
