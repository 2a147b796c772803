-- What actions do to the cells, said of a copy of what they touch.
use Rattle.std.proofs.Common.{◌≡◌, ℕ, ℤ, Bool, true, false, cond, Option, Some, None, List, [], ◌∷◌, map, ◌⊎◌, ◌||◌, inl, inr, refl, sym, ap, ◌∙◌, eqb, w64}
use Rattle.std.proofs.lemmas.Bool.{cases_Bool, eqb-true, eq-eqb, ne_eqb, cases_eq, or_left, or_right}
use Rattle.std.specs.List.{flat_map}
use Rattle.std.specs.Prelude.{FitsSigned, is_some}
use mathlib.Core.Path.{fun_ext}
use Rattle.spf_base.specs.Wrap.{wrap}
use Rattle.spf_touch.specs.ActionLaw.{class_at-noted, wrap_fits}
use Rattle.spf_touch.specs.Actions.{Action, accesses, change, performed, touches_of}
use Rattle.spf_touch.specs.Blend.{blend}
use Rattle.spf_touch.specs.Conflict.{is_shared}
use Rattle.spf_touch.specs.Copy.{copied, joined, together}
use Rattle.spf_touch.specs.Frame.{IsTouched, blend_at, class_at, effect, is_reduced, is_seen}
use Rattle.spf_touch.specs.Noted.{noted, noted_all}
use Rattle.spf_touch.specs.Ordered.{is_in}
use Rattle.spf_touch.proofs.Accessed.{all_grow, all_more, all_some, noted_append}
use Rattle.spf_touch.proofs.Classes.{covers, covers_trans, covers_itself, shared_same}
use Rattle.spf_touch.proofs.Lifting.{AllFitting, Step, after_steps, is_touched, steps_lifted}
use Rattle.spf_touch.specs.declared.class.Class.{Class}
use Rattle.spf_touch.specs.declared.class.Class.TheVariants.{Read, Write}
use Rattle.spf_touch.specs.declared.touch.Touch.{Touch}

-- ---- one action

abbrev read : List ℕ → List (ℕ × Class)
read reads = map (λ e. (e, Read)) reads

-- an element that is read: before its target an action has no other class
abbrev class_if_read : Bool → Option Class
class_if_read is_read = cond is_read (Some Read) None

read_twice : (a b : Bool) (c : Option Class) → cond b (joined (cond a (joined c (Some Read)) c) (Some Read)) (cond a (joined c (Some Read)) c) ≡ cond (a || b) (joined c (Some Read)) c
read_twice true true None = refl
read_twice true true (Some c) = elim (cases_Bool (is_shared c Read)) [
  | inl same ↦ rw (shared_same c Read same) refl
  | inr other ↦ rw other refl
]
read_twice true false c = refl
read_twice false true c = refl
read_twice false false c = refl

eqb_turned : (a b : ℕ) → eqb a b ≡ eqb b a
eqb_turned a b = elim (cases_eq a b) [
  | inl same ↦ rw (same) refl
  | inr other ↦ ne_eqb a b other ∙ sym (ne_eqb b a (λ e. other (sym e)))
]

class_of_reads : (ts : List Touch) (reads : List ℕ) (x : ℕ) → class_at (noted_all ts (read reads)) x ≡ cond (is_in reads x) (joined (class_at ts x) (Some Read)) (class_at ts x)
class_of_reads ts [] x = refl
class_of_reads ts (e ∷ reads) x =
    class_of_reads (noted ts e Read) reads x
    ∙ ap (λ (c : Option Class). cond (is_in reads x) (joined c (Some Read)) c) (class_at-noted ts e Read x)
    ∙ read_twice (eqb e x) (is_in reads x) (class_at ts x)
    ∙ ap (λ (b : Bool). cond (b || is_in reads x) (joined (class_at ts x) (Some Read)) (class_at ts x)) (eqb_turned e x)

read_blends : (c : Class) (old new : ℤ) → blend_at (Some (together Read c)) old (blend c old new) ≡ blend c old new
read_blends c old new = elim (cases_Bool (is_shared Read c)) [
  | inl same ↦ rw (← shared_same Read c same) refl
  | inr other ↦ rw other refl
]

read_keeps : (b : Bool) (old new : ℤ) → blend_at (class_if_read b) old new ≡ old
read_keeps true old new = refl
read_keeps false old new = refl

read_seen : (c : Class) → is_seen (Some (together Read c)) ≡ true
read_seen c = elim (cases_Bool (is_shared Read c)) [ inl same ↦ rw same refl | inr other ↦ rw other refl ]

read_unreduced : (c : Class) → is_reduced (Some (together Read c)) ≡ true → ⊥
read_unreduced c h = elim (cases_Bool (is_shared Read c)) [
  | inl same ↦ let k : is_reduced (Some Read) ≡ true = rw same at h in cc
  | inr other ↦ let k : is_reduced (Some Write) ≡ true = rw other at h in cc
]

only_read : (b : Bool) → is_reduced (class_if_read b) ≡ true → ⊥
only_read true h = cc
only_read false h = cc

module _ (action : Action) where
  abbrev alone : List Touch
  alone = noted_all [] (accesses action)

  -- whether it reads the element
  abbrev is_read : ℕ → Bool
  is_read = is_in action.made.reads

  -- what it gives as a unit of its own
  gives : (ℕ → ℤ) → ℤ
  gives values = cond (is_read action.target) (blend action.class (values action.target) (wrap (action.made.value values))) (wrap (action.made.value values))

  class_alone : (x : ℕ) → class_at alone x ≡ cond (eqb action.target x) (joined (class_if_read (is_read x)) (Some action.class)) (class_if_read (is_read x))
  class_alone x =
      ap (λ (ts : List Touch). class_at ts x) (noted_append [] (read action.made.reads) ((action.target, action.class) ∷ []))
      ∙ class_at-noted (noted_all [] (read action.made.reads)) action.target action.class x
      ∙ ap (λ (c : Option Class). cond (eqb action.target x) (joined c (Some action.class)) c) (class_of_reads [] action.made.reads x)

  action_effect : (values : ℕ → ℤ) (x : ℕ) → effect alone (λ e. gives values) values x ≡ change action values x
  unfolding gives
  action_effect values x = rw class_alone (elim (cases_eq x action.target) [
    | inl same ↦ elim (cases_Bool (is_read action.target)) [
      | inl mine ↦ rw (same, mine, eq-eqb action.target action.target refl) (read_blends action.class (values action.target) (wrap (action.made.value values)))
      | inr free ↦ rw (same, free, eq-eqb action.target action.target refl) refl
    ]
    | inr other ↦ rw (ne_eqb x action.target other, ne_eqb action.target x (λ e. other (sym e))) (read_keeps (is_read x) (values x) (gives values))
  ])

  reads_seen : (e : ℕ) → is_read e ≡ true → is_seen (class_at alone e) ≡ true
  reads_seen e h = rw (class_alone, h) (elim (cases_Bool (eqb action.target e)) [
    | inl here ↦ rw here (read_seen action.class)
    | inr other ↦ rw other refl
  ])

  gives_same : (values others : ℕ → ℤ) → ((e : ℕ) → is_seen (class_at alone e) ≡ true → values e ≡ others e) → gives values ≡ gives others
  unfolding gives
  gives_same values others alike =
      let made = ap wrap (action.made.frame values others (λ e h. alike e (reads_seen e h))) in
      elim (cases_Bool (is_read action.target)) [
        | inl mine ↦ rw mine (let old = alike action.target (reads_seen action.target mine) in λ i. blend action.class (old i) (made i))
        | inr free ↦ rw free made
      ]

  gives_fits : (values : ℕ → ℤ) (e : ℕ) → is_reduced (class_at alone e) ≡ true → FitsSigned w64 (gives values)
  unfolding gives
  gives_fits values e r =
      let reduced = rw class_alone at r in
      elim (cases_Bool (eqb action.target e)) [
        | inl here ↦ elim (cases_Bool (is_read action.target)) [
          | inl mine ↦ absurd (read_unreduced action.class (rw (here, ← eqb-true action.target e here, mine) at reduced))
          | inr free ↦ rw free (wrap_fits (action.made.value values))
        ]
        | inr other ↦ absurd (only_read (is_read e) (rw other at reduced))
      ]

-- ---- actions, one behind the other

abbrev as_step : Action → Step
as_step action = record { touches = alone action; given = λ values e. gives action values }

same_steps : (actions : List Action) (values : ℕ → ℤ) → performed actions values ≡ after_steps (map as_step actions) values
same_steps [] values = refl
same_steps (action ∷ actions) values = same_steps actions (change action values) ∙ ap (after_steps (map as_step actions)) (sym (fun_ext (action_effect action values)))

-- f stands for all that the actions touch
Covered : (ℕ → Option Class) → List Action → Type 0
Covered f [] = Unit {0}
Covered f (action ∷ actions) = ((x : ℕ) → covers (f x) (class_at (alone action) x) ≡ true) × Covered f actions

fitting : (f : ℕ → Option Class) (actions : List Action) → Covered f actions → AllFitting f (map as_step actions)
unfolding Covered
fitting f [] c = tt
fitting f (action ∷ actions) c = (
  record {
    covered = c.0;
    frame = λ values others alike e t. gives_same action values others alike;
    fits = λ values e r. gives_fits action values e r;
  },
  fitting f actions c.1,
)

abbrev from : List Touch → List Action → List Touch
from ts actions = noted_all ts (flat_map accesses actions)

from_more : (ts : List Touch) (action : Action) (actions : List Action) → from ts (action ∷ actions) ≡ from (noted_all ts (accesses action)) actions
from_more ts action actions = noted_append ts (accesses action) (flat_map accesses actions)

covered : (actions : List Action) (ts : List Touch) (f : ℕ → Option Class) → ((x : ℕ) → covers (f x) (class_at (from ts actions) x) ≡ true) → Covered f actions
unfolding Covered
covered [] ts f h = tt
covered (action ∷ actions) ts f h =
    let rest : (x : ℕ) → covers (f x) (class_at (from (noted_all ts (accesses action)) actions) x) ≡ true = λ x. rw (← from_more ts action actions) (h x) in (
      λ x. covers_trans (f x) _ _ (rest x) (covers_trans _ _ _ (all_grow (noted_all ts (accesses action)) (flat_map accesses actions) x) (all_more ts [] (accesses action) (λ y. refl) x)),
      covered actions (noted_all ts (accesses action)) f rest,
    )

touched_from : (actions : List Action) (ts : List Touch) (x : ℕ) → IsTouched (from ts actions) x → IsTouched ts x ⊎ (is_touched (map as_step actions) x ≡ true)
touched_from [] ts x h = inl h
touched_from (action ∷ actions) ts x h = elim (touched_from actions (noted_all ts (accesses action)) x (rw from_more at h)) [
  | inl now ↦ elim (all_some ts (accesses action) x now) [
    | inl old ↦ inl old
    | inr new ↦ inr (or_left _ (is_touched (map as_step actions) x) new)
  ]
  | inr later ↦ inr (or_right (is_some (class_at (alone action) x)) _ later)
]

touched : (actions : List Action) (x : ℕ) → IsTouched (touches_of actions) x → is_touched (map as_step actions) x ≡ true
touched actions x h = elim (touched_from actions [] x h) [ inl never ↦ cc | inr some ↦ some ]

-- actions do what they do on a copy of what they touch, blended in
pub actions_effect : (actions : List Action) (values : ℕ → ℤ) (e : ℕ) →
    performed actions values e ≡ effect (touches_of actions) (performed actions (copied (touches_of actions) values)) values e
actions_effect actions values e =
    let f = class_at (touches_of actions) in
    rw (same_steps actions, same_steps actions)
    (steps_lifted f (map as_step actions) values (fitting f actions (covered actions [] f (λ x. covers_itself (f x)))) (touched actions) e)
