-- What a sound job's order says of the units of two tiles.
use Rattle.std.proofs.Common.{◌≡◌, ℕ, ◌<◌, true, false, List, [], ◌∷◌, ◌++◌, length, inl, inr, refl, sym, ap, ◌∙◌, eqb}
use Rattle.std.proofs.lemmas.Bool.{cases_order, cases_lt, eqb-true, or_cases, or_left, or_right, false≢true}
use Rattle.std.proofs.lemmas.List.{get_or_past, append-nil, append_assoc}
use Rattle.spf_touch.specs.Conflict.{Conflict}
use Rattle.spf_touch.specs.Frame.{Behavior}
use Rattle.spf_touch.specs.Ordered.{IsLegalOrder, is_in}
use Rattle.spf_touch.proofs.Classes.{conflict_turned}
use Rattle.spf_touch.proofs.Members.{in_head, in_tail}
use Rattle.spf_touch.proofs.Members.{in_append}
use Rattle.spf_touch.proofs.Orders.{legal_append}
use Rattle.spf_core.specs.History.{is_before}
use Rattle.spf_core.specs.SoundJob.{IsSound}
use Rattle.spf_core.specs.Tiling.{Tiling, list_of, units_of}

-- a unit of some tiles is a unit of one of them
pub unit_home : (job : Tiling) (ts : List ℕ) (u : ℕ) → is_in (units_of job ts) u ≡ true → (t : ℕ) × (is_in ts t ≡ true) × (is_in (list_of job t) u ≡ true)
unit_home job [] u h = cc
unit_home job (t ∷ ts) u h = elim (or_cases (is_in (list_of job t) u) (is_in (units_of job ts) u) (sym (in_append (list_of job t) (units_of job ts) u) ∙ h)) [
  | inl here ↦ (t, in_head t ts, here)
  | inr later ↦ let home = unit_home job ts u later in (home.0, in_tail t ts home.0 home.1, home.2)
]

-- and the other way round
pub home_unit : (job : Tiling) (ts : List ℕ) (t u : ℕ) → is_in ts t ≡ true → is_in (list_of job t) u ≡ true → is_in (units_of job ts) u ≡ true
home_unit job [] t u h k = cc
home_unit job (s ∷ ts) t u h k = elim (or_cases (eqb t s) (is_in ts t) h) [
  | inl here ↦ in_append (list_of job s) (units_of job ts) u ∙ or_left (is_in (list_of job s) u) (is_in (units_of job ts) u) (rw (← eqb-true t s here) k)
  | inr later ↦ in_append (list_of job s) (units_of job ts) u ∙ or_right (is_in (list_of job s) u) (is_in (units_of job ts) u) (home_unit job ts t u later k)
]

pub units_of-append : (job : Tiling) (ss ts : List ℕ) → units_of job (ss ++ ts) ≡ units_of job ss ++ units_of job ts
units_of-append job [] ts = refl
units_of-append job (s ∷ ss) ts = ap (λ l. list_of job s ++ l) (units_of-append job ss ts) ∙ sym (append_assoc (list_of job s) (units_of job ss) (units_of job ts))

module _ (units : Behavior) (job : Tiling) (sound : IsSound units job) where
  -- a tile with a unit is a tile
  pub tile_of_unit : (t u : ℕ) → is_in (list_of job t) u ≡ true → t < length job.lists
  tile_of_unit t u h = elim (cases_lt t (length job.lists)) [
    | inl inside ↦ inside
    | inr past ↦ absurd (false≢true (rw get_or_past at h))
  ]

  -- units of tiles of which neither is before the other don't conflict
  pub unordered_free : (s t u v : ℕ) → (s ≡ t → ⊥) → is_before job.order s t ≡ false → is_before job.order t s ≡ false →
      is_in (list_of job s) u ≡ true → is_in (list_of job t) v ≡ true → Conflict (units.touches u) (units.touches v) → ⊥
  unordered_free s t u v apart no_st no_ts h k clash = elim (cases_order u v) [
    | inl same ↦ apart (sound.nowhere_else s t u h (rw same k))
    | inr (inl below) ↦ false≢true (sym no_st ∙ sound.ordered s t u v h k apart clash below)
    | inr (inr above) ↦ false≢true (sym no_ts ∙ sound.ordered t s v u k h (λ e. apart (sym e)) (conflict_turned _ _ clash) above)
  ]

  -- units of a tile that isn't after another may stand in front of that one's units
  pub may_lead : (s t u v : ℕ) → (s ≡ t → ⊥) → is_before job.order t s ≡ false →
      is_in (list_of job s) u ≡ true → is_in (list_of job t) v ≡ true → (u ≡ v → ⊥) × (Conflict (units.touches u) (units.touches v) → u < v)
  may_lead s t u v apart no_ts h k = (
    λ same. apart (sound.nowhere_else s t u h (rw same k)),
    λ clash. elim (cases_order u v) [
      | inl same ↦ absurd (apart (sound.nowhere_else s t u h (rw same k)))
      | inr (inl below) ↦ below
      | inr (inr above) ↦ absurd (false≢true (sym no_ts ∙ sound.ordered t s v u k h (λ e. apart (sym e)) (conflict_turned _ _ clash) above))
    ],
  )

  -- a legal order of tiles goes on with one that isn't in front of any of its tiles
  pub legal_more : (ts : List ℕ) (t : ℕ) → t < length job.lists → IsLegalOrder units (units_of job ts) →
      ((s : ℕ) → is_in ts s ≡ true → (s ≡ t → ⊥) × (is_before job.order t s ≡ false)) →
      IsLegalOrder units (units_of job (ts ++ t ∷ []))
  legal_more ts t inside legal free =
      let more : units_of job (ts ++ t ∷ []) ≡ units_of job ts ++ list_of job t = units_of-append job ts (t ∷ []) ∙ ap (λ l. units_of job ts ++ l) (append-nil (list_of job t)) in
      rw more (legal_append units (units_of job ts) (list_of job t) legal (sound.legal t inside)
      (λ u v h k. let home = unit_home job ts u h in let at = free home.0 home.1 in may_lead home.0 t u v at.0 at.1 home.2 k))
