-- The frame law of units that are lists of actions.
use Rattle.std.specs.Prelude.{◌≡◌, ℕ, ◌<◌, ℤ, ◌+ℤ◌, Bool, true, false, List, [], ◌∷◌, Option, Some, None, IsSome, FitsSigned, ◌==◌, refl, cond}
use Rattle.std.specs.List.{flat_map}
use Rattle.std.proofs.Common.{ap, ◌∙◌, sym, subst, inl, inr, arith, eqb}
use Rattle.std.proofs.lemmas.Bool.{cases_Bool, eqb-true, eqb-false, ne_eqb}
use Rattle.std.proofs.lemmas.Int.{SFits-int_wrap, ints}
use Rattle.std.specs.Int.{w64}
use mathlib.Core.Path.{fun_ext}
use Rattle.spf_base.specs.Wrap.{wrap}
use Rattle.spf_touch.specs.Actions.{Action, accesses, action_behavior, change, performed, touches_of}
use Rattle.spf_touch.specs.Blend.{blend}
use Rattle.spf_touch.specs.Copy.{copied, copy_at, joined, together, value_or_0}
use Rattle.spf_touch.specs.Frame.{Behavior, FrameLaw, IsOnce, IsTouched, SeenAlike, class_at, is_reduced, is_seen}
use Rattle.spf_touch.specs.Noted.{noted, noted_all}
use Rattle.spf_touch.specs.declared.class.Class.{Class}
use Rattle.spf_touch.specs.declared.class.Class.TheVariants.{Read, Write, Add}
use Rattle.spf_touch.specs.declared.touch.Touch.{Touch}

-- a copy depends on the values at which a unit may look
pub copy_from_seen : (c : Option Class) (x y : ℤ) → (is_seen c ≡ true → x ≡ y) → copy_at c x ≡ copy_at c y
copy_from_seen None x y h = refl
copy_from_seen (Some Read) x y h = ap Some (h refl)
copy_from_seen (Some Write) x y h = ap Some (h refl)
copy_from_seen (Some Add) x y h = refl

cond_joined : (b : Bool) (c d : Class) (old : Option Class) → cond b (Some (together c d)) old ≡ cond b (joined (cond b (Some c) old) (Some d)) (cond b (Some c) old)
cond_joined true c d old = refl
cond_joined false c d old = refl

-- an access joins the class of its own element, and leaves the others
pub class_at-noted : (ts : List Touch) (e : ℕ) (c : Class) (x : ℕ) → class_at (noted ts e c) x ≡ cond (eqb e x) (joined (class_at ts x) (Some c)) (class_at ts x)
class_at-noted [] e c x = refl
class_at-noted (t ∷ ts) e c x = elim (cases_Bool (eqb t.element e)) [
  | inl here ↦ rw (here, eqb-true t.element e here) (cond_joined (eqb e x) t.class c (class_at ts x))
  | inr other ↦ elim (cases_Bool (eqb t.element x)) [
    | inl at ↦
        let away : eqb e x ≡ false = ne_eqb e x (λ same. eqb-false t.element e other (eqb-true t.element x at ∙ sym same)) in
        rw (other, at, away) refl
    | inr off ↦ rw (other, off) (class_at-noted ts e c x)
  ]
]

pub once_noted : (ts : List Touch) (e : ℕ) (c : Class) → IsOnce ts → IsOnce (noted ts e c)
once_noted [] e c h = (refl, tt)
once_noted (t ∷ ts) e c h = elim (cases_Bool (eqb t.element e)) [
  | inl here ↦ rw here (rw (← eqb-true t.element e here) h.0, h.1)
  | inr other ↦
      let away : eqb e t.element ≡ false = ne_eqb e t.element (λ same. eqb-false t.element e other (sym same)) in
      rw other (class_at-noted ts e c t.element ∙ (rw away h.0), once_noted ts e c h.1)
]

pub once_all : (ts : List Touch) (accesses : List (ℕ × Class)) → IsOnce ts → IsOnce (noted_all ts accesses)
once_all ts [] h = h
once_all ts ((e, c) ∷ accesses) h = once_all (noted ts e c) accesses (once_noted ts e c h)

pub wrap_fits : (z : ℤ) → FitsSigned w64 (wrap z)
unfolding wrap
wrap_fits z = SFits-int_wrap w64 z

pub blend_fits : (c : Class) (x y : ℤ) → FitsSigned w64 x → FitsSigned w64 y → FitsSigned w64 (blend c x y)
blend_fits Read x y f g = f
blend_fits Write x y f g = g
blend_fits Add x y f g = wrap_fits (x +ℤ y)

change_fits : (action : Action) (values : ℕ → ℤ) (e : ℕ) → FitsSigned w64 (values e) → FitsSigned w64 (change action values e)
change_fits action values e f = elim (cases_Bool (e == action.target)) [
  | inl here ↦ rw here (blend_fits action.class (values e) (wrap (action.made.value values)) f (wrap_fits (action.made.value values)))
  | inr other ↦ rw other f
]

performed_fits : (actions : List Action) (values : ℕ → ℤ) (e : ℕ) → FitsSigned w64 (values e) → FitsSigned w64 (performed actions values e)
performed_fits [] values e f = f
performed_fits (action ∷ actions) values e f = performed_fits actions (change action values) e (change_fits action values e f)

neutral_fits : (c : Option Class) (x : ℤ) → is_reduced c ≡ true → FitsSigned w64 (value_or_0 (copy_at c x))
neutral_fits None x h = cc
neutral_fits (Some Read) x h = cc
neutral_fits (Some Write) x h = cc
neutral_fits (Some Add) x h = omega (arith, ints)

-- a copy of what is touched is the same where a unit sees the same
copied_from_seen : (touches : List Touch) (values others : ℕ → ℤ) → SeenAlike touches values others → copied touches values ≡ copied touches others
copied_from_seen touches values others alike = fun_ext (λ x. ap value_or_0 (copy_from_seen (class_at touches x) (values x) (others x) (alike x)))

-- the frame law of units that are lists of actions
pub action_law : (units : ℕ → List Action) (count : ℕ) → FrameLaw (action_behavior units count)
action_law units count = record {
  once = λ u inside. once_all [] (flat_map accesses (units u)) tt;
  frame = λ u values others inside alike e touched. ap (λ copy. performed (units u) copy e) (copied_from_seen (touches_of (units u)) values others alike);
  fits = λ u values e inside r. performed_fits (units u) (copied (touches_of (units u)) values) e (neutral_fits (class_at (touches_of (units u)) e) (values e) r);
}

pub reduced_touched : (c : Option Class) → is_reduced c ≡ true → IsSome c
reduced_touched None r = cc
reduced_touched (Some c) r = refl

-- units that touch what others do, and give the same to it, keep the law as those do
module _ (mine theirs : Behavior) (below : (u : ℕ) → u < mine.count → u < theirs.count)
    (touch : (u : ℕ) → u < mine.count → mine.touches u ≡ theirs.touches u) where
  module _ (give : (u : ℕ) (values : ℕ → ℤ) → u < mine.count → (e : ℕ) → IsTouched (mine.touches u) e → mine.given u values e ≡ theirs.given u values e) where
    pub law_of_alike : FrameLaw theirs → FrameLaw mine
    law_of_alike law = record {
      once = λ u inside. subst IsOnce (sym (touch u inside)) (law.once u (below u inside));
      frame = λ u values others inside alike e touched.
          give u values inside e touched
          ∙ law.frame u values others (below u inside) (subst (λ (touches : List Touch). SeenAlike touches values others) (touch u inside) alike) e
          (subst (λ (touches : List Touch). IsTouched touches e) (touch u inside) touched)
          ∙ sym (give u others inside e touched);
      fits = λ u values e inside r.
          subst (FitsSigned w64) (sym (give u values inside e (reduced_touched (class_at (mine.touches u) e) r)))
          (law.fits u values e (below u inside) (subst (λ (touches : List Touch). is_reduced (class_at touches e) ≡ true) (touch u inside) r));
    }

  -- the same, where they give the same everywhere
  pub law_of_same : ((u : ℕ) → u < mine.count → (values : ℕ → ℤ) → mine.given u values ≡ theirs.given u values) → FrameLaw theirs → FrameLaw mine
  law_of_same give = law_of_alike (λ u values inside e touched. ap (λ (made : ℕ → ℤ). made e) (give u inside values))
