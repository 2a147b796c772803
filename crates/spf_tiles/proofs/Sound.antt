-- The parts of a plan's job are sound.
use Rattle.std.proofs.Common.{◌≡◌, ℕ, suc, ◌<◌, ◌⊎◌, true, Some, None, List, [], ◌∷◌, length, AllPairs, inl, inr, refl, sym, ◌∙◌, arith}
use Rattle.std.proofs.lemmas.Bool.{cases_lt, cases_order, false_from_ne_true}
use Rattle.std.proofs.lemmas.List.{get_or_past}
use Rattle.std.specs.Prelude.{IsSome}
use Rattle.spf_core.specs.SoundJob.{IsSound}
use Rattle.spf_core.specs.Tiling.{Tiling, list_of}
use Rattle.spf_layers.specs.Legality.{IsLegal}
use Rattle.spf_space.specs.Places.{IsBelow, Place}
use Rattle.spf_touch.proofs.Classes.{conflict_turned}
use Rattle.spf_touch.proofs.Members.{in_head, in_tail, place_in}
use Rattle.spf_touch.specs.Conflict.{Conflict}
use Rattle.spf_touch.specs.Copy.{class_of, joined}
use Rattle.spf_touch.specs.Frame.{Behavior, IsTouched, class_at}
use Rattle.spf_touch.specs.Ordered.{IsLegalOrder, is_in}
use Rattle.spf_touch.specs.declared.touch.Touch.{Touch}
use Rattle.spf_tiles.specs.Parts.{ArePlanParts}

pub below_not_back : (p q : Place) → IsBelow p q → IsBelow q p → ⊥
below_not_back p q h k = grind arith

-- in the order of legal places of two conflicting units the lesser stands in front
module _ (units : Behavior) (place : ℕ → Place) (legal : IsLegal units.touches place units.count) where
  pub legal_order : (us : List ℕ) → ((u : ℕ) → is_in us u ≡ true → u < units.count) → AllPairs (λ (u v : ℕ). IsBelow (place u) (place v)) us → IsLegalOrder units us
  legal_order [] inside rising = tt
  legal_order (u ∷ us) inside rising =
      let later : (v : ℕ) → is_in us v ≡ true → IsBelow (place u) (place v) = λ v there. let at = place_in us v there in rw (← at.2 0) (rising 0 (suc at.0) 0 (omega arith) (omega (arith, at.1))) in (
        inside u (in_head u us),
        false_from_ne_true (is_in us u) (λ again. below_not_back (place u) (place u) (later u again) (later u again)),
        λ v there conflict. elim (cases_order u v) [
          | inl same ↦ let again : is_in us u ≡ true = rw same there in absurd (below_not_back (place u) (place u) (later u again) (later u again))
          | inr (inl lt) ↦ lt
          | inr (inr gt) ↦ absurd (below_not_back (place u) (place v) (later v there) (legal v u gt (inside u (in_head u us)) (conflict_turned (units.touches u) (units.touches v) conflict)))
        ],
        legal_order us (λ v k. inside v (in_tail u us v k)) (λ i j d lt in'. rising (suc i) (suc j) d (omega arith) (omega arith)),
      )

either_touched : (c d : _) → IsSome (joined c d) → IsSome c ⊎ IsSome d
either_touched None d h = inr h
either_touched (Some c) d h = inl refl

-- what a list touches some unit of it touches
pub toucher : (touches : ℕ → List Touch) (us : List ℕ) (e : ℕ) → IsSome (class_of touches us e) → (u : ℕ) × (is_in us u ≡ true) × IsTouched (touches u) e
toucher touches [] e h = cc
toucher touches (u ∷ us) e h = elim (either_touched (class_at (touches u) e) (class_of touches us e) h) [
  | inl here ↦ (u, in_head u us, here)
  | inr later ↦ let rest = toucher touches us e later in (rest.0, in_tail u us rest.0 rest.1, rest.2)
]

module _ (units : Behavior) (touches : ℕ → List Touch) (place : ℕ → Place) (tiles : ℕ) (job : Tiling) (parts : ArePlanParts units touches place tiles job) where
  unit_in : (t u : ℕ) → is_in (list_of job t) u ≡ true → (u < units.count) × ((place u).tile ≡ t)
  unit_in t u h = elim (cases_lt t (length job.lists)) [
    | inl lt ↦ let inside : t < tiles = omega (arith, parts.lists.each_tile) in (parts.lists.units t u inside).0 h
    | inr past ↦ let none : is_in [] u ≡ true = rw (get_or_past job.lists t [] past) at h in cc
  ]

  conflict_is : (p q : ℕ) → p < q → q < units.count → Conflict (units.touches p) (units.touches q) → Conflict (touches p) (touches q)
  conflict_is p q lt inside conflict = let first : p < units.count = omega arith in rw (parts.touched p first, parts.touched q inside) at conflict

  pub sound : IsSound units job
  sound = record {
    tiles = (omega (arith, parts.lists.each_tile, parts.few.0), omega (arith, parts.lists.each_tile, parts.few.1));
    orders = parts.order.each_tile ∙ sym parts.lists.each_tile;
    footings = parts.feet.each_list;
    somewhere = λ u lt. let tile = parts.inside u lt in ((place u).tile, omega (arith, parts.lists.each_tile), (parts.lists.units (place u).tile u tile).1 (lt, refl));
    nowhere_else = λ s t u h k. sym (unit_in s u h).1 ∙ (unit_in t u k).1;
    legal = λ t lt. legal_order units place (λ p q lt inside conflict. parts.legal p q lt inside (conflict_is p q lt inside conflict)) (list_of job t) (λ u h. (unit_in t u h).0) (parts.lists.rising t);
    ordered = λ s t u v hu hv differ conflict lt.
        let first = unit_in s u hu in
        let second = unit_in t v hv in
        rw (← first.1, ← second.1) (parts.order.linked u v lt second.0 (conflict_is u v lt second.0 conflict) (λ same. differ (sym first.1 ∙ same ∙ second.1)));
    transitive = parts.order.transitive;
    upward = parts.order.upward;
    feet = λ t lt.
        let foot = parts.feet.feet_of t lt in
        record {
          rising = foot.rising;
          classes = foot.classes;
          places = λ e touched.
              let some = toucher units.touches (list_of job t) e (rw (foot.classes e) at touched) in
              let inside = (unit_in t some.0 some.1).0 in
              parts.cells some.0 e inside (rw (parts.touched some.0 inside) at some.2);
        };
  }
