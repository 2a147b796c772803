-- Exact groups fit the touches: for the groups of one element, from the last unit to the first.
use Rattle.std.proofs.Common.{◌≡◌, ℕ, zero, suc, ◌+◌, ◌<◌, ◌≤◌, true, false, Option, Some, None, List, [], ◌∷◌, length, inl, inr, refl, sym, ap, ◌∙◌, arith, eqb}
use Rattle.std.proofs.lemmas.Bool.{cases_Bool, cases_eq, eqb-true, or_cases, or_left, or_right, eq-eqb}
use Rattle.std.specs.List.{AllPairs, range_with_len}
use Rattle.spf_touch.specs.Conflict.{is_shared}
use Rattle.spf_touch.specs.Frame.{class_at}
use Rattle.spf_touch.specs.Ordered.{is_in}
use Rattle.spf_touch.proofs.Classes.{shared_same}
use Rattle.spf_touch.proofs.Members.{in_head, in_tail}
use Rattle.spf_touch.specs.declared.class.Class.{Class}
use Rattle.spf_touch.specs.declared.class.Class.TheVariants.{Read, Write, Add}
use Rattle.spf_touch.specs.declared.touch.Touch.{Touch}
use Rattle.spf_layers.specs.Fits.{StandsIn}
use Rattle.spf_layers.specs.Groups.{Group, group_at, groups_from, in_front, touched_in_front}
use Rattle.spf_touch.proofs.Members.{pairs_cons}
use Rattle.spf_layers.proofs.Members.{stands_within}

pub in_range : (from n u : ℕ) → is_in (range_with_len from n) u ≡ true → (from ≤ u) × (u < from + n)
in_range from zero u h = cc
in_range from (suc n) u h = elim (or_cases (eqb u from) (is_in (range_with_len (from + 1) n) u) h) [
  | inl same ↦ let at = eqb-true u from same in (omega arith, omega arith)
  | inr later ↦ let rest = in_range (from + 1) n u later in (omega (arith, rest.0), omega (arith, rest.1))
]

pub is_in_range : (from n u : ℕ) → from ≤ u → u < from + n → is_in (range_with_len from n) u ≡ true
is_in_range from zero u low high = absurd (omega arith)
is_in_range from (suc n) u low high = elim (cases_eq u from) [
  | inl same ↦ or_left (eqb u from) (is_in (range_with_len (from + 1) n) u) (eq-eqb u from same)
  | inr other ↦ or_right (eqb u from) (is_in (range_with_len (from + 1) n) u) (is_in_range (from + 1) n u (omega arith) (omega arith))
]

module _ (touches : ℕ → List Touch) (e : ℕ) where
  -- a group by itself: its units are some of these, ascend and touch the element in its class
  pub record IsGroup (us : List ℕ) (g : Group) : Type 0 where
    pub filled : 0 < length g.units
    pub alone : g.class ≡ Write → length g.units ≡ 1
    pub ascending : AllPairs (λ (u v : ℕ). u < v) g.units
    pub touched : (u : ℕ) → is_in g.units u ≡ true → class_at (touches u) e ≡ Some g.class
    pub members : (u : ℕ) → is_in g.units u ≡ true → is_in us u ≡ true

  -- a group and those behind it
  pub record Leads (g : Group) (gs : List Group) : Type 0 where
    pub before : (n u v : ℕ) → is_in g.units u ≡ true → StandsIn gs n v → u < v
    pub changes : 0 < length gs → is_shared g.class (group_at gs 0).class ≡ false

  abbrev pub AreGroups : List ℕ → List Group → Type 0
  AreGroups us [] = Unit {0}
  AreGroups us (g ∷ gs) = IsGroup us g × Leads g gs × AreGroups us gs

  -- each unit that touches the element stands in a group
  abbrev pub AreAll : List ℕ → List Group → Type 0
  AreAll us gs = (u : ℕ) (c : Class) → is_in us u ≡ true → class_at (touches u) e ≡ Some c → (n : ℕ) × StandsIn gs n u

  pub group_of : (us : List ℕ) (gs : List Group) (n : ℕ) → AreGroups us gs → n < length gs → IsGroup us (group_at gs n)
  group_of us [] n h lt = absurd (omega arith)
  group_of us (g ∷ gs) zero h lt = h.0
  group_of us (g ∷ gs) (suc n) h lt = group_of us gs n h.2 (omega arith)

  weaker : (u : ℕ) (us : List ℕ) (gs : List Group) → AreGroups us gs → AreGroups (u ∷ us) gs
  weaker u us [] h = h
  weaker u us (g ∷ gs) h =
      let one = h.0 in
      (record { filled = one.filled; alone = one.alone; ascending = one.ascending; touched = one.touched; members = λ v k. in_tail u us v (one.members v k) }, h.1, weaker u us gs h.2)

  below : (u : ℕ) (us : List ℕ) (gs : List Group) → AreGroups us gs → ((v : ℕ) → is_in us v ≡ true → u < v) → (n v : ℕ) → StandsIn gs n v → u < v
  below u us gs h low n v k = low v ((group_of us gs n h (stands_within gs n v k)).members v k)

  single : (u : ℕ) (c : Class) (us : List ℕ) → class_at (touches u) e ≡ Some c → IsGroup (u ∷ us) (record { class = c; units = u ∷ [] })
  single u c us h = record {
    filled = omega arith;
    alone = λ _. refl;
    ascending = pairs_cons (λ (x y : ℕ). x < y) u [] (λ v k. cc) (λ i j d lt in'. absurd (omega arith));
    touched = λ v k. elim (or_cases (eqb v u) false k) [ inl same ↦ rw (eqb-true v u same) h | inr none ↦ cc ];
    members = λ v k. elim (or_cases (eqb v u) false k) [ inl same ↦ or_left (eqb v u) (is_in us v) same | inr none ↦ cc ];
  }

  not_write : (c d : Class) → is_shared c d ≡ true → c ≡ Write → ⊥
  not_write Read d h k = cc
  not_write Write d h k = cc
  not_write Add d h k = cc

  front_one : (u : ℕ) (c : Class) (us : List ℕ) (g : Group) → class_at (touches u) e ≡ Some c → ((v : ℕ) → is_in us v ≡ true → u < v) →
      IsGroup us g → is_shared c g.class ≡ true → IsGroup (u ∷ us) (record { class = c; units = u ∷ g.units })
  front_one u c us g h low one shared = record {
    filled = omega arith;
    alone = λ write. absurd (not_write c g.class shared write);
    ascending = pairs_cons (λ (x y : ℕ). x < y) u g.units (λ v k. low v (one.members v k)) one.ascending;
    touched = λ v k. elim (or_cases (eqb v u) (is_in g.units v) k) [
      | inl same ↦ rw (eqb-true v u same) h
      | inr later ↦ one.touched v later ∙ ap Some (sym (shared_same c g.class shared))
    ];
    members = λ v k. elim (or_cases (eqb v u) (is_in g.units v) k) [
      | inl same ↦ or_left (eqb v u) (is_in us v) same
      | inr later ↦ in_tail u us v (one.members v later)
    ];
  }

  front_groups : (u : ℕ) (c : Class) (us : List ℕ) (gs : List Group) → class_at (touches u) e ≡ Some c → ((v : ℕ) → is_in us v ≡ true → u < v) →
      AreGroups us gs → AreGroups (u ∷ us) (in_front u c gs)
  front_groups u c us [] h low all = (single u c us h, record { before = λ n v w k l. cc; changes = λ lt. absurd (omega arith) }, tt)
  front_groups u c us (g ∷ gs) h low all = elim (cases_Bool (is_shared c g.class)) [
    | inl shared ↦ rw shared (
      front_one u c us g h low all.0 shared,
      record {
        before = λ n v w k l. elim (or_cases (eqb v u) (is_in g.units v) k) [
          | inl same ↦ rw (eqb-true v u same) (below u us gs all.2 low n w l)
          | inr later ↦ all.1.before n v w later l
        ];
        changes = λ lt. rw (shared_same c g.class shared) (all.1.changes lt);
      },
      weaker u us gs all.2,
    )
    | inr apart ↦ rw apart (
      single u c us h,
      record {
        before = λ n v w k l. elim (or_cases (eqb v u) false k) [
          | inl same ↦ rw (eqb-true v u same) (below u us (g ∷ gs) all low n w l)
          | inr none ↦ cc
        ];
        changes = λ lt. apart;
      },
      weaker u us (g ∷ gs) all,
    )
  ]

  -- what stands in a group still does, one group further or in the same one
  kept : (u : ℕ) (c : Class) (gs : List Group) (n v : ℕ) → StandsIn gs n v → (m : ℕ) × StandsIn (in_front u c gs) m v
  kept u c [] n v h = cc
  kept u c (g ∷ gs) zero v h = elim (cases_Bool (is_shared c g.class)) [
    | inl shared ↦ rw shared (0, in_tail u g.units v h)
    | inr apart ↦ rw apart (1, h)
  ]
  kept u c (g ∷ gs) (suc n) v h = elim (cases_Bool (is_shared c g.class)) [
    | inl shared ↦ rw shared (suc n, h)
    | inr apart ↦ rw apart (suc (suc n), h)
  ]

  fresh : (u : ℕ) (c : Class) (gs : List Group) → StandsIn (in_front u c gs) 0 u
  fresh u c [] = in_head u []
  fresh u c (g ∷ gs) = elim (cases_Bool (is_shared c g.class)) [
    | inl shared ↦ rw shared (in_head u g.units)
    | inr apart ↦ rw apart (in_head u [])
  ]

  front_all : (u : ℕ) (o : Option Class) (us : List ℕ) (gs : List Group) → class_at (touches u) e ≡ o → AreAll us gs → AreAll (u ∷ us) (touched_in_front u o gs)
  front_all u None us gs h all v c k touch = elim (or_cases (eqb v u) (is_in us v) k) [
    | inl same ↦ let no : class_at (touches v) e ≡ None = rw (eqb-true v u same) h in cc
    | inr later ↦ all v c later touch
  ]
  front_all u (Some d) us gs h all v c k touch = elim (or_cases (eqb v u) (is_in us v) k) [
    | inl same ↦ rw (eqb-true v u same) (0, fresh u d gs)
    | inr later ↦ let old = all v c later touch in kept u d gs old.0 v old.1
  ]

  front_or_none : (u : ℕ) (o : Option Class) (us : List ℕ) (gs : List Group) → class_at (touches u) e ≡ o → ((v : ℕ) → is_in us v ≡ true → u < v) →
      AreGroups us gs → AreGroups (u ∷ us) (touched_in_front u o gs)
  front_or_none u None us gs h low all = weaker u us gs all
  front_or_none u (Some c) us gs h low all = front_groups u c us gs h low all

  pub exact : (from n : ℕ) → AreGroups (range_with_len from n) (groups_from touches e (range_with_len from n)) × AreAll (range_with_len from n) (groups_from touches e (range_with_len from n))
  exact from zero = (tt, λ u c k. cc)
  exact from (suc n) =
      let rest = exact (from + 1) n in
      let us = range_with_len (from + 1) n in (
        front_or_none from (class_at (touches from) e) us (groups_from touches e us) refl (λ v k. omega (arith, (in_range (from + 1) n v k).0)) rest.0,
        front_all from (class_at (touches from) e) us (groups_from touches e us) refl rest.1,
      )
