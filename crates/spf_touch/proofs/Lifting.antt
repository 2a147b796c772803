-- The frame law lifted from units to lists of units: run on a copy and then blended in, they do what they do on the cells.
use Rattle.std.proofs.Common.{◌≡◌, ℕ, ℤ, ◌<◌, ◌⊎◌, Bool, true, false, ◌||◌, Option, Some, None, List, [], ◌∷◌, inl, inr, refl, sym, ap, subst, w64, map}
use Rattle.std.proofs.lemmas.Bool.{or_cases, or_left, or_right}
use Rattle.std.specs.Prelude.{IsSome, FitsSigned, is_some}
use Rattle.spf_touch.specs.Blend.{blend, is_reduction, neutral}
use Rattle.spf_touch.specs.Conflict.{is_shared}
use Rattle.spf_touch.specs.Copy.{class_of, copy_at, joined, value_or_0}
use Rattle.spf_touch.specs.Frame.{Behavior, FrameLaw, IsTouched, SeenAlike, after_units, blend_at, class_at, effect, is_reduced, is_seen}
use Rattle.spf_touch.specs.Ordered.{is_in}
use Rattle.spf_touch.proofs.Blends.{blend-neutral, blend_assoc}
use Rattle.spf_touch.proofs.Classes.{class_of_covers, covers, seen_covered, shared_same}
use Rattle.spf_touch.proofs.Members.{in_head, in_tail}
use Rattle.spf_touch.specs.declared.class.Class.{Class}
use Rattle.spf_touch.specs.declared.class.Class.TheVariants.{Read, Write, Add}
use Rattle.spf_touch.specs.declared.touch.Touch.{Touch}

-- blended into its start, the copy of an element gives its present value; or so far nothing was blended in
abbrev Whole : Option Class → ℤ → ℤ → ℤ → Type 0
Whole f start copy present = (present ≡ blend_at f start copy) ⊎ ((is_reduced f ≡ true) × (present ≡ start) × (copy ≡ value_or_0 (copy_at f start)))

reduced : (c d : Class) (start copy present amount : ℤ) → is_reduction c ≡ true → is_shared c d ≡ true → present ≡ blend c start copy →
    blend d present amount ≡ blend c start (blend d copy amount)
reduced c d start copy present amount r h e = rw (← shared_same c d h) (rw e (blend_assoc c start copy amount r))

first : (c d : Class) (start copy present amount : ℤ) → is_reduction c ≡ true → is_shared c d ≡ true → FitsSigned w64 amount → present ≡ start → copy ≡ neutral c →
    blend d present amount ≡ blend c start (blend d copy amount)
first c d start copy present amount r h fits p k = rw (← shared_same c d h) (rw (p, k) (ap (blend c start) (sym (blend-neutral c amount r fits))))

-- an element whose copy is whole stays so
whole_on : (f d : Option Class) (start copy present mine theirs : ℤ) → covers f d ≡ true → (IsSome d → mine ≡ theirs) →
    present ≡ blend_at f start copy → (is_seen f ≡ true → copy ≡ present) → blend_at d present theirs ≡ blend_at f start (blend_at d copy mine)
whole_on f None start copy present mine theirs h g w s = w
whole_on None (Some d) start copy present mine theirs h g w s = cc
whole_on (Some Read) (Some d) start copy present mine theirs h g w s = rw (← shared_same Read d h) w
whole_on (Some Write) (Some d) start copy present mine theirs h g w s = rw (w, g refl) refl
whole_on (Some Add) (Some d) start copy present mine theirs h g w s = rw (g refl) (reduced Add d start copy present theirs refl h w)

-- and becomes so at the first touch
whole_first : (f d : Option Class) (start copy present mine theirs : ℤ) → covers f d ≡ true → (IsSome d → mine ≡ theirs) → (is_reduced d ≡ true → FitsSigned w64 mine) →
    IsSome d → is_reduced f ≡ true → present ≡ start → copy ≡ value_or_0 (copy_at f start) → blend_at d present theirs ≡ blend_at f start (blend_at d copy mine)
whole_first f None start copy present mine theirs h g fits t r p k = cc
whole_first None (Some d) start copy present mine theirs h g fits t r p k = cc
whole_first (Some Read) (Some d) start copy present mine theirs h g fits t r p k = cc
whole_first (Some Write) (Some d) start copy present mine theirs h g fits t r p k = cc
whole_first (Some Add) (Some d) start copy present mine theirs h g fits t r p k =
    rw (← g refl) (first Add d start copy present mine refl h (fits (subst (λ c. is_reduction c ≡ true) (shared_same Add d h) refl)) p k)

settled : (f d : Option Class) (start copy present mine theirs : ℤ) → covers f d ≡ true → (IsSome d → mine ≡ theirs) → (is_reduced d ≡ true → FitsSigned w64 mine) →
    (is_seen f ≡ true → copy ≡ present) → Whole f start copy present → (present ≡ blend_at f start copy) ⊎ IsSome d →
    blend_at d present theirs ≡ blend_at f start (blend_at d copy mine)
settled f d start copy present mine theirs h g fits s w (inl now) = whole_on f d start copy present mine theirs h g now s
settled f d start copy present mine theirs h g fits s (inl now) (inr t) = whole_on f d start copy present mine theirs h g now s
settled f d start copy present mine theirs h g fits s (inr (r, p, k)) (inr t) = whole_first f d start copy present mine theirs h g fits t r p k

whole_step : (f d : Option Class) (start copy present mine theirs : ℤ) → covers f d ≡ true → (IsSome d → mine ≡ theirs) → (is_reduced d ≡ true → FitsSigned w64 mine) →
    (is_seen f ≡ true → copy ≡ present) → Whole f start copy present → Whole f start (blend_at d copy mine) (blend_at d present theirs)
whole_step f None start copy present mine theirs h g fits s w = w
whole_step f (Some d) start copy present mine theirs h g fits s w = inl (settled f (Some d) start copy present mine theirs h g fits s w (inr refl))

seen_step : (f d : Option Class) (copy present mine theirs : ℤ) → (IsSome d → mine ≡ theirs) → copy ≡ present → blend_at d copy mine ≡ blend_at d present theirs
seen_step f None copy present mine theirs g s = s
seen_step f (Some d) copy present mine theirs g s = rw (s, g refl) refl

-- an element that is whole, or that one of a step and its followers touches, is whole after the step, or one of the followers touches it
next_settled : (f : Option Class) (start copy present : ℤ) (d : Option Class) (later : Bool) (copy' present' : ℤ) →
    (present ≡ blend_at f start copy) ⊎ ((is_some d || later) ≡ true) →
    ((present ≡ blend_at f start copy) ⊎ IsSome d → present' ≡ blend_at f start copy') → (present' ≡ blend_at f start copy') ⊎ (later ≡ true)
next_settled f start copy present d later copy' present' (inl now) go = inl (go (inl now))
next_settled f start copy present d later copy' present' (inr touched) go = elim (or_cases (is_some d) later touched) [
  | inl here ↦ inl (go (inr here))
  | inr after ↦ inr after
]

joined_some : (c d : Option Class) → IsSome (joined c d) → IsSome c ⊎ IsSome d
joined_some None d h = inr h
joined_some (Some c) d h = inl refl

-- a step, as a unit or an operation: what it touches, and what it gives there
pub record Step : Type 0 where
  pub touches : List Touch
  pub given : (ℕ → ℤ) → ℕ → ℤ

abbrev pub after_step : Step → (ℕ → ℤ) → ℕ → ℤ
after_step s values = effect s.touches (s.given values) values

abbrev pub after_steps : List Step → (ℕ → ℤ) → ℕ → ℤ
after_steps [] values = values
after_steps (s ∷ ss) values = after_steps ss (after_step s values)

abbrev pub is_touched : List Step → ℕ → Bool
is_touched [] e = false
is_touched (s ∷ ss) e = is_some (class_at s.touches e) || is_touched ss e

-- a step that keeps the frame law, and whose classes f covers
pub record Fitting (f : ℕ → Option Class) (s : Step) : Type 0 where
  pub covered : (e : ℕ) → covers (f e) (class_at s.touches e) ≡ true
  pub frame : (values others : ℕ → ℤ) → SeenAlike s.touches values others → (e : ℕ) → IsTouched s.touches e → s.given values e ≡ s.given others e
  pub fits : (values : ℕ → ℤ) (e : ℕ) → is_reduced (class_at s.touches e) ≡ true → FitsSigned w64 (s.given values e)

abbrev pub AllFitting : (ℕ → Option Class) → List Step → Type 0
AllFitting f [] = Unit {0}
AllFitting f (s ∷ ss) = Fitting f s × AllFitting f ss

-- the copy is whole everywhere, and agrees with the present values wherever a step may look
record Lifted (f : ℕ → Option Class) (start copy present : ℕ → ℤ) : Type 0 where
  whole : (e : ℕ) → Whole (f e) (start e) (copy e) (present e)
  seen : (e : ℕ) → is_seen (f e) ≡ true → copy e ≡ present e

module _ (f : ℕ → Option Class) (start : ℕ → ℤ) where
  lifted_on : (ss : List Step) (copy present : ℕ → ℤ) → AllFitting f ss → Lifted f start copy present →
      (e : ℕ) → (present e ≡ blend_at (f e) (start e) (copy e)) ⊎ (is_touched ss e ≡ true) →
      after_steps ss present e ≡ blend_at (f e) (start e) (after_steps ss copy e)
  lifted_on [] copy present fit l e (inl now) = now
  lifted_on [] copy present fit l e (inr never) = cc
  lifted_on (s ∷ ss) copy present fit l e now =
      let at = fit.0 in
      let same = at.frame copy present (λ x k. l.seen x (seen_covered (f x) (class_at s.touches x) (at.covered x) k)) in
      lifted_on ss (after_step s copy) (after_step s present) fit.1
      (record {
        whole = λ x. whole_step (f x) (class_at s.touches x) (start x) (copy x) (present x) _ _ (at.covered x) (same x) (at.fits copy x) (l.seen x) (l.whole x);
        seen = λ x k. seen_step (f x) (class_at s.touches x) (copy x) (present x) _ _ (same x) (l.seen x k);
      })
      e
      (next_settled (f e) (start e) (copy e) (present e) (class_at s.touches e) (is_touched ss e) _ _ now (settled (f e) (class_at s.touches e) (start e) (copy e) (present e) _ _ (at.covered e) (same e) (at.fits copy e) (l.seen e) (l.whole e)))

begun_whole : (f : Option Class) (value : ℤ) → Whole f value (value_or_0 (copy_at f value)) value
begun_whole None value = inl refl
begun_whole (Some Read) value = inl refl
begun_whole (Some Write) value = inl refl
begun_whole (Some Add) value = inr (refl, refl, refl)

begun_seen : (f : Option Class) (value : ℤ) → is_seen f ≡ true → value_or_0 (copy_at f value) ≡ value
begun_seen None value h = cc
begun_seen (Some Read) value h = refl
begun_seen (Some Write) value h = refl
begun_seen (Some Add) value h = cc

settled_or_touched : (f : Option Class) (value : ℤ) (touched : Bool) → (IsSome f → touched ≡ true) → (value ≡ blend_at f value (value_or_0 (copy_at f value))) ⊎ (touched ≡ true)
settled_or_touched None value touched h = inl refl
settled_or_touched (Some c) value touched h = inr (h refl)

-- what steps do to the cells is their work on a copy, blended in
pub steps_lifted : (f : ℕ → Option Class) (ss : List Step) (values : ℕ → ℤ) → AllFitting f ss → ((e : ℕ) → IsSome (f e) → is_touched ss e ≡ true) →
    (e : ℕ) → after_steps ss values e ≡ blend_at (f e) (values e) (after_steps ss (λ x. value_or_0 (copy_at (f x) (values x))) e)
steps_lifted f ss values fit touched e =
    lifted_on f values ss _ values fit (record { whole = λ x. begun_whole (f x) (values x); seen = λ x k. begun_seen (f x) (values x) k })
    e (settled_or_touched (f e) (values e) (is_touched ss e) (touched e))

module _ (units : Behavior) (law : FrameLaw units) where
  abbrev steps_of : List ℕ → List Step
  steps_of us = map (λ u. record { touches = units.touches u; given = units.given u }) us

  same_steps : (us : List ℕ) (values : ℕ → ℤ) → after_units units us values ≡ after_steps (steps_of us) values
  same_steps [] values = refl
  same_steps (u ∷ us) values = same_steps us _

  fitting : (f : ℕ → Option Class) (us : List ℕ) → ((u : ℕ) → is_in us u ≡ true → (u < units.count) × ((e : ℕ) → covers (f e) (class_at (units.touches u) e) ≡ true)) → AllFitting f (steps_of us)
  fitting f [] h = tt
  fitting f (u ∷ us) h =
      let at = h u (in_head u us) in (
        record { covered = at.1; frame = λ values others alike. law.frame u values others at.0 alike; fits = λ values e r. law.fits u values e at.0 r },
        fitting f us (λ v k. h v (in_tail u us v k)),
      )

  touched : (us : List ℕ) (e : ℕ) → IsSome (class_of units.touches us e) → is_touched (steps_of us) e ≡ true
  touched [] e h = cc
  touched (u ∷ us) e h = elim (joined_some (class_at (units.touches u) e) (class_of units.touches us e) h) [
    | inl here ↦ or_left _ (is_touched (steps_of us) e) here
    | inr later ↦ or_right (is_some (class_at (units.touches u) e)) _ (touched us e later)
  ]

-- what units do to the cells is their work on a copy of what they touch, blended in
pub lifted : (units : Behavior) → FrameLaw units → (us : List ℕ) (values : ℕ → ℤ) → ((u : ℕ) → is_in us u ≡ true → u < units.count) →
    (e : ℕ) → after_units units us values e ≡ blend_at (class_of units.touches us e) (values e) (after_units units us (λ x. value_or_0 (copy_at (class_of units.touches us x) (values x))) e)
lifted units law us values below e =
    let f = class_of units.touches us in
    rw (same_steps units law us, same_steps units law us)
    (steps_lifted (class_of units.touches us) (steps_of units law us) values
    (fitting units law (class_of units.touches us) us (λ u h. (below u h, λ x. class_of_covers units.touches us x u h))) (touched units law us) e)
