-- Renamed units, and units that are alike, conflict as the others do and do what they do.
use Rattle.std.proofs.Common.{◌≡◌, ℕ, zero, suc, ◌<◌, ℤ, true, Option, Some, None, List, [], ◌∷◌, map, inl, inr, refl, sym, ap, ◌∙◌, subst, arith, eqb}
use Rattle.std.proofs.lemmas.Bool.{eqb-true, or_cases}
use Rattle.std.specs.Prelude.{Any, IsSome}
use mathlib.Core.Path.{fun_ext}
use Rattle.spf_touch.specs.Blend.{blend}
use Rattle.spf_touch.specs.Conflict.{Clash, Conflict}
use Rattle.spf_touch.specs.Frame.{Behavior, IsTouched, after_unit, after_units, blend_at, class_at}
use Rattle.spf_touch.specs.Ordered.{IsLegalOrder, is_in}
use Rattle.spf_touch.specs.Renaming.{AreAlike, Renaming, renamed_touch, renamed_touches, renamed_units, unpacked}
use Rattle.spf_touch.specs.RenamingLaw.{at_origins, class_there, one_origin}
use Rattle.spf_touch.proofs.Members.{in_head, in_tail}
use Rattle.spf_touch.specs.declared.class.Class.{Class}
use Rattle.spf_touch.specs.declared.touch.Touch.{Touch}

-- ---- conflicts and orders

any_later : (P : Touch → Type 0) (t : Touch) (ts : List Touch) → Any P ts → Any P (t ∷ ts)
any_later P t ts a = (suc a.0, a.1, omega arith, a.3, a.4)

any_mapped : (P : Touch → Type 0) (f : Touch → Touch) (ts : List Touch) → Any (λ t. P (f t)) ts → Any P (map f ts)
any_mapped P f [] (k, x, inside, at, p) = absurd (omega arith)
any_mapped P f (t ∷ ts) (zero, x, inside, at, p) = (0, f t, omega arith, refl, subst (λ y. P (f y)) (sym at) p)
any_mapped P f (t ∷ ts) (suc k, x, inside, at, p) = any_later P (f t) (map f ts) (any_mapped P f ts (k, x, omega arith, at, p))

any_unmapped : (P : Touch → Type 0) (f : Touch → Touch) (ts : List Touch) → Any P (map f ts) → Any (λ t. P (f t)) ts
any_unmapped P f [] (k, x, inside, at, p) = absurd (omega arith)
any_unmapped P f (t ∷ ts) (zero, x, inside, at, p) = (0, t, omega arith, refl, subst P (sym at) p)
any_unmapped P f (t ∷ ts) (suc k, x, inside, at, p) = any_later (λ t. P (f t)) t ts (any_unmapped P f ts (k, x, omega arith, at, p))

module _ (renaming : Renaming) (a b : List Touch) where
  pub conflict_there : Conflict a b → Conflict (renamed_touches renaming a) (renamed_touches renaming b)
  conflict_there (k, s, inside, at, (j, t, inside', at', clash)) =
      any_mapped (λ s. Any (Clash s) (renamed_touches renaming b)) (renamed_touch renaming) a
      (k, s, inside, at, any_mapped (Clash (renamed_touch renaming s)) (renamed_touch renaming) b (j, t, inside', at', (ap renaming.to clash.0, clash.1)))

  pub conflict_back : Conflict (renamed_touches renaming a) (renamed_touches renaming b) → Conflict a b
  conflict_back clashes =
      let first = any_unmapped (λ s. Any (Clash s) (renamed_touches renaming b)) (renamed_touch renaming) a clashes in
      let second = any_unmapped (Clash (renamed_touch renaming first.1)) (renamed_touch renaming) b first.4 in
      (first.0, first.1, first.2, first.3, (second.0, second.1, second.2, second.3, (one_origin renaming first.1.element second.1.element second.4.0, second.4.1)))

legal_below : (units : Behavior) (us : List ℕ) (v : ℕ) → IsLegalOrder units us → is_in us v ≡ true → v < units.count
legal_below units [] v legal h = cc
legal_below units (u ∷ us) v legal h = elim (or_cases (eqb v u) (is_in us v) h) [
  | inl here ↦ rw (eqb-true v u here) legal.0
  | inr later ↦ legal_below units us v legal.3 later
]

-- an order that is legal for units is so for others of which no more conflict
pub legal_there : (mine theirs : Behavior) → mine.count ≡ theirs.count →
    ((u v : ℕ) → u < theirs.count → v < theirs.count → Conflict (mine.touches u) (mine.touches v) → Conflict (theirs.touches u) (theirs.touches v)) →
    (us : List ℕ) → IsLegalOrder theirs us → IsLegalOrder mine us
legal_there mine theirs count clash [] legal = tt
legal_there mine theirs count clash (u ∷ us) legal = (
  subst (λ n. u < n) (sym count) legal.0,
  legal.1,
  λ v there clashes. legal.2 v there (clash u v legal.0 (legal_below theirs us v legal.3 there) clashes),
  legal_there mine theirs count clash us legal.3,
)

-- ---- what renamed units do

after_there : (renaming : Renaming) (units : Behavior) (u : ℕ) (values : ℕ → ℤ) →
    unpacked renaming (after_unit (renamed_units renaming units) u values) ≡ after_unit units u (unpacked renaming values)
after_there renaming units u values = fun_ext (λ e. rw (class_there renaming (units.touches u) e, renaming.returns e) refl)

pub renamed_values : (renaming : Renaming) (units : Behavior) (us : List ℕ) (values : ℕ → ℤ) →
    unpacked renaming (after_units (renamed_units renaming units) us values) ≡ after_units units us (unpacked renaming values)
renamed_values renaming units [] values = refl
renamed_values renaming units (u ∷ us) values =
    renamed_values renaming units us (after_unit (renamed_units renaming units) u values) ∙ ap (after_units units us) (after_there renaming units u values)

-- ---- units that are alike

blend_same : (c : Option Class) (old x y : ℤ) → (IsSome c → x ≡ y) → blend_at c old x ≡ blend_at c old y
blend_same None old x y same = refl
blend_same (Some c) old x y same = ap (blend c old) (same refl)

module _ (mine theirs : Behavior) (alike : AreAlike mine theirs) where
  pub alike_turned : AreAlike theirs mine
  alike_turned = record {
    count = sym alike.count;
    touch = λ u inside. sym (alike.touch u (subst (λ n. u < n) (sym alike.count) inside));
    give = λ u values inside e touched.
        let mine_inside = subst (λ n. u < n) (sym alike.count) inside in
        sym (alike.give u values mine_inside e (subst (λ touches. IsTouched touches e) (sym (alike.touch u mine_inside)) touched));
  }

  pub alike_on : (others : Behavior) → AreAlike theirs others → AreAlike mine others
  alike_on others more = record {
    count = alike.count ∙ more.count;
    touch = λ u inside. alike.touch u inside ∙ more.touch u (subst (λ n. u < n) alike.count inside);
    give = λ u values inside e touched.
        alike.give u values inside e touched
        ∙ more.give u values (subst (λ n. u < n) alike.count inside) e (subst (λ touches. IsTouched touches e) (alike.touch u inside) touched);
  }

  pub alike_renamed : (renaming : Renaming) → AreAlike (renamed_units renaming mine) (renamed_units renaming theirs)
  alike_renamed renaming = record {
    count = alike.count;
    touch = λ u inside. ap (renamed_touches renaming) (alike.touch u inside);
    give = λ u values inside.
        at_origins renaming (λ x. mine.given u (unpacked renaming values) (renaming.back x) ≡ theirs.given u (unpacked renaming values) (renaming.back x)) (mine.touches u)
        (λ e touched. rw (renaming.returns e) (alike.give u (unpacked renaming values) inside e touched));
  }

  pub alike_conflict : (u v : ℕ) → u < mine.count → v < mine.count → Conflict (mine.touches u) (mine.touches v) → Conflict (theirs.touches u) (theirs.touches v)
  alike_conflict u v first second clashes =
      subst (λ touches. Conflict touches (theirs.touches v)) (alike.touch u first) (subst (λ touches. Conflict (mine.touches u) touches) (alike.touch v second) clashes)

  alike_after : (u : ℕ) (values : ℕ → ℤ) → u < mine.count → after_unit mine u values ≡ after_unit theirs u values
  alike_after u values inside = fun_ext (λ e.
      blend_same (class_at (mine.touches u) e) (values e) (mine.given u values e) (theirs.given u values e) (alike.give u values inside e)
      ∙ ap (λ touches. blend_at (class_at touches e) (values e) (theirs.given u values e)) (alike.touch u inside))

  pub alike_values : (us : List ℕ) (values : ℕ → ℤ) → ((u : ℕ) → is_in us u ≡ true → u < mine.count) → after_units mine us values ≡ after_units theirs us values
  alike_values [] values below = refl
  alike_values (u ∷ us) values below =
      alike_values us (after_unit mine u values) (λ v there. below v (in_tail u us v there)) ∙ ap (after_units theirs us) (alike_after u values (below u (in_head u us)))
