-- Exact groups of all elements fit the touches.
use Rattle.std.proofs.Common.{◌≡◌, ◌≢◌, ◌⊎◌, ℕ, zero, suc, ◌<◌, ◌≤◌, true, false, Some, List, [], ◌∷◌, length, get_or, map, inl, inr, refl, sym, ◌∙◌, arith, add-one, eqb}
use Rattle.std.proofs.lemmas.Bool.{cases_Bool, cases_lt, eq-eqb, eqb-true}
use Rattle.std.proofs.lemmas.List.{get_or_past}
use Rattle.std.proofs.lemmas.List.FromFn.{get_or-map-range_with_len, length-map-range_with_len}
use Rattle.std.specs.List.{AllPairs, Any, range_with_len}
use Rattle.spf_touch.specs.Conflict.{Conflict, is_shared}
use Rattle.spf_touch.specs.Frame.{IsOnce, IsTouched, class_at}
use Rattle.spf_touch.specs.declared.class.Class.{Class}
use Rattle.spf_touch.specs.declared.class.Class.TheVariants.{Read, Write, Add}
use Rattle.spf_touch.specs.declared.touch.Touch.{Touch}
use Rattle.spf_layers.specs.Fits.{AgreeAt, AreLayered, Fits, StandApart, StandsIn}
use Rattle.spf_layers.specs.Groups.{Group, element_groups, group_at, groups_at}
use Rattle.spf_layers.proofs.Exact.{AreGroups, exact, group_of, in_range, is_in_range}
use Rattle.spf_layers.proofs.Members.{one_unit, stands_within}

shared_or_write : (c : Class) → (is_shared c c ≡ true) ⊎ (c ≡ Write)
shared_or_write Read = inl refl
shared_or_write Write = inr refl
shared_or_write Add = inl refl

-- the class of a touch, where no element is named twice
class_of_touch : (ts : List Touch) (k : ℕ) (d : Touch) → IsOnce ts → k < length ts → class_at ts (get_or ts k d).element ≡ Some (get_or ts k d).class
class_of_touch [] k d once lt = absurd (omega arith)
class_of_touch (t ∷ ts) zero d once lt = rw (eq-eqb t.element t.element refl) refl
class_of_touch (t ∷ ts) (suc k) d once lt =
    let rest = class_of_touch ts k d once.1 (omega arith) in
    elim (cases_Bool (eqb t.element (get_or ts k d).element)) [
      | inl same ↦ let no = once.0 in let at : t.element ≡ (get_or ts k d).element = eqb-true _ _ same in let none = rw at at no in cc
      | inr other ↦ rw other rest
    ]

-- two touch lists clash at an element in the classes that they have there
record ClashAt (a b : List Touch) : Type 0 where
  pub element : ℕ
  pub c : Class
  pub d : Class
  pub here : class_at a element ≡ Some c
  pub there : class_at b element ≡ Some d
  pub clash : is_shared c d ≡ false

clash_of : (a b : List Touch) → IsOnce a → IsOnce b → Conflict a b → ClashAt a b
clash_of a b p q (k, s, inside, at, (j, t, inside', at', clash)) =
    let one = class_of_touch a k s p inside in
    let other = class_of_touch b j t q inside' in
    record {
      element = s.element;
      c = s.class;
      d = t.class;
      here = rw at at one;
      there = rw clash.0 (rw at' at other);
      clash = clash.1;
    }

-- a touch of the element in the class that the list has there
touch_at : (ts : List Touch) (e : ℕ) (c : Class) → class_at ts e ≡ Some c → Any (λ (t : Touch). (t.element ≡ e) × (t.class ≡ c)) ts
touch_at [] e c h = cc
touch_at (t ∷ ts) e c h = elim (cases_Bool (eqb t.element e)) [
  | inl same ↦ let k : Some t.class ≡ Some c = rw same at h in (0, t, omega arith, refl, (eqb-true t.element e same, cc))
  | inr other ↦ let rest = touch_at ts e c (rw other at h) in (suc rest.0, rest.1, omega (arith, rest.2), rest.3, rest.4)
]

conflict_at : (a b : List Touch) (e : ℕ) (c d : Class) → class_at a e ≡ Some c → class_at b e ≡ Some d → is_shared c d ≡ false → Conflict a b
conflict_at a b e c d h k clash =
    let p = touch_at a e c h in
    let q = touch_at b e d k in
    (p.0, p.1, p.2, p.3, (q.0, q.1, q.2, q.3, (p.4.0 ∙ sym q.4.0, rw (p.4.1, q.4.1) clash)))

module _ (touches : ℕ → List Touch) (e : ℕ) (us : List ℕ) where
  layered_between : (gs : List Group) → AreGroups touches e us gs → (m n u v : ℕ) → m < n → StandsIn gs m u → StandsIn gs n v → u < v
  layered_between [] h m n u v lt p q = cc
  layered_between (g ∷ gs) h m zero u v lt p q = absurd (omega arith)
  layered_between (g ∷ gs) h zero (suc n) u v lt p q = h.1.before n u v p q
  layered_between (g ∷ gs) h (suc m) (suc n) u v lt p q = layered_between gs h.2 m n u v (omega arith) p q

  layered_changes : (gs : List Group) → AreGroups touches e us gs → (n : ℕ) → suc n < length gs → is_shared (group_at gs n).class (group_at gs (suc n)).class ≡ false
  layered_changes [] h n lt = absurd (omega arith)
  layered_changes (g ∷ gs) h zero lt = h.1.changes (omega arith)
  layered_changes (g ∷ gs) h (suc n) lt = layered_changes gs h.2 n (omega arith)

  touched_in : (gs : List Group) → AreGroups touches e us gs → (n u : ℕ) → StandsIn gs n u → class_at (touches u) e ≡ Some (group_at gs n).class
  touched_in gs h n u k = (group_of touches e us gs n h (stands_within gs n u k)).touched u k

  layered_ascending : (gs : List Group) → AreGroups touches e us gs → (n : ℕ) → AllPairs (λ (u v : ℕ). u < v) (group_at gs n).units
  layered_ascending [] h n i j d lt in' = absurd (omega arith)
  layered_ascending (g ∷ gs) h zero i j d lt in' = h.0.ascending i j d lt in'
  layered_ascending (g ∷ gs) h (suc n) i j d lt in' = layered_ascending gs h.2 n i j d lt in'

  layered_alone : (gs : List Group) → AreGroups touches e us gs → (n : ℕ) → (group_at gs n).class ≡ Write → length (group_at gs n).units ≡ 1
  layered_alone [] h n write = cc
  layered_alone (g ∷ gs) h zero write = h.0.alone write
  layered_alone (g ∷ gs) h (suc n) write = layered_alone gs h.2 n write

  agreed : (gs : List Group) → AreGroups touches e us gs → (n u v : ℕ) → StandsIn gs n u → StandsIn gs n v → u ≢ v → AgreeAt touches e u v
  agreed gs h n u v p q differ c d at at' =
      let one = touched_in gs h n u p in
      let other = touched_in gs h n v q in
      let mine : c ≡ (group_at gs n).class = cc in
      let yours : d ≡ (group_at gs n).class = cc in
      elim (shared_or_write (group_at gs n).class) [
        | inl shared ↦ rw (mine, yours) shared
        | inr write ↦ absurd (differ (one_unit (group_at gs n).units u v (layered_alone gs h n write) p q))
      ]

pub layered : (touches : ℕ → List Touch) (count e : ℕ) → AreLayered touches count e (groups_at touches count e)
layered touches count e =
    let us = range_with_len 0 count in
    let gs = groups_at touches count e in
    let h : AreGroups touches e us gs = (exact touches e 0 count).0 in
    record {
      ascending = layered_ascending touches e us gs h;
      between = layered_between touches e us gs h;
      inside = λ n u k. omega (arith, (in_range 0 count u ((group_of touches e us gs n h (stands_within gs n u k)).members u k)).1);
      filled = λ n lt. (group_of touches e us gs n h lt).filled;
      alone = layered_alone touches e us gs h;
      changes = λ n lt. rw add-one (layered_changes touches e us gs h n (omega arith));
      agree = agreed touches e us gs h;
    }

none_layered : (touches : ℕ → List Touch) (count e : ℕ) → AreLayered touches count e []
none_layered touches count e = record {
  ascending = λ n i j d lt in'. absurd (omega arith);
  between = λ m n u v lt p q. cc;
  inside = λ n u k. cc;
  filled = λ n lt. absurd (omega arith);
  alone = λ n write. cc;
  changes = λ n lt. absurd (omega arith);
  agree = λ n u v p. cc;
}

module _ (touches : ℕ → List Touch) (count cells : ℕ) where
  abbrev exact_layers : List (List Group)
  exact_layers = map (groups_at touches count) (range_with_len 0 cells)

  groups_inside : (e : ℕ) → e < cells → element_groups exact_layers e ≡ groups_at touches count e
  groups_inside e lt = get_or-map-range_with_len (groups_at touches count) 0 cells e e [] lt (omega arith)

  groups_outside : (e : ℕ) → cells ≤ e → element_groups exact_layers e ≡ []
  groups_outside e le = get_or_past exact_layers e [] (rw length-map-range_with_len le)

  module _ (once : (u : ℕ) → u < count → IsOnce (touches u)) (inside : (u e : ℕ) → u < count → IsTouched (touches u) e → e < cells) where
    apart : (u v : ℕ) → u < count → v < count → u ≢ v → Conflict (touches u) (touches v) → (e : ℕ) × StandApart (element_groups exact_layers e) u v
    apart u v lt lt' differ conflict =
        let at = clash_of (touches u) (touches v) (once u lt) (once v lt') conflict in
        let e = at.element in
        let us = range_with_len 0 count in
        let gs = groups_at touches count e in
        let all = exact touches e 0 count in
        let one = all.1 u at.c (is_in_range 0 count u (omega arith) (omega arith)) at.here in
        let other = all.1 v at.d (is_in_range 0 count v (omega arith) (omega arith)) at.there in
        let mine : Some at.c ≡ Some (group_at gs one.0).class = sym at.here ∙ touched_in touches e us gs all.0 one.0 u one.1 in
        let yours : Some at.d ≡ Some (group_at gs other.0).class = sym at.there ∙ touched_in touches e us gs all.0 other.0 v other.1 in
        let c_is : at.c ≡ (group_at gs one.0).class = cc in
        let d_is : at.d ≡ (group_at gs other.0).class = cc in
        let clash : is_shared (group_at gs one.0).class (group_at gs other.0).class ≡ false = rw (← c_is, ← d_is) at.clash in
        let far : one.0 ≢ other.0 = λ same. elim (shared_or_write (group_at gs one.0).class) [
          | inl shared ↦ let no = rw (← same) at clash in cc
          | inr write ↦ differ (one_unit (group_at gs one.0).units u v (layered_alone touches e us gs all.0 one.0 write) one.1 (rw same other.1))
        ] in
        (e, rw (groups_inside e (inside u e lt (rw at.here refl))) (record { first = one.0; second = other.0; differ = far; here = one.1; there = other.1; clash = clash }))

    conflicting : (u v e : ℕ) → StandApart (groups_at touches count e) u v → Conflict (touches u) (touches v)
    conflicting u v e a =
        let us = range_with_len 0 count in
        let gs = groups_at touches count e in
        let all = exact touches e 0 count in
        conflict_at (touches u) (touches v) e (group_at gs a.first).class (group_at gs a.second).class
        (touched_in touches e us gs all.0 a.first u a.here) (touched_in touches e us gs all.0 a.second v a.there) a.clash

    pub exact_fit : Fits touches count exact_layers
    exact_fit = record {
      groups = λ e. elim (cases_lt e cells) [
        | inl lt ↦ rw (groups_inside e lt) (layered touches count e)
        | inr le ↦ rw (groups_outside e le) (none_layered touches count e)
      ];
      conflicts = λ u v lt lt' differ. (
        apart u v lt lt' differ,
        λ (e, a). elim (cases_lt e cells) [
          | inl lt ↦ conflicting u v e (rw (groups_inside e lt) at a)
          | inr le ↦ let none : StandApart [] u v = rw (groups_outside e le) at a in let no = none.here in cc
        ],
      );
    }
