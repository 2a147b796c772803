-- The state after one more event.
use Rattle.std.proofs.Common.{◌≡◌, ℕ, ◌+◌, ◌-◌, ◌<◌, ◌≤◌, ℤ, cond, Option, None, Some, List, [], ◌∷◌, ◌++◌, length, get_or, set, inl, inr, refl, sym, ap, ap₂, ◌∙◌, subst, arith}
use Rattle.std.proofs.lemmas.Bool.{cases_eq, eq-eqb, ne_eqb}
use Rattle.std.proofs.lemmas.List.{get_or-set_other, get_or-set_same, get_or_read}
use Rattle.std.specs.List.{All}
use Rattle.std.specs.Prelude.{is_some}
use mathlib.Core.Path.{fun_ext}
use Rattle.spf_touch.specs.Copy.{copy_at}
use Rattle.spf_touch.specs.Frame.{Behavior, FrameLaw, after_units}
use Rattle.spf_touch.specs.Ordered.{ascending}
use Rattle.spf_core.specs.Copies.{value_in}
use Rattle.spf_core.specs.History.{IsHistory, published_tiles}
use Rattle.spf_core.specs.Replay.{Moment, claimed, merged, next, replay, replay_from, values_of, worked}
use Rattle.spf_core.specs.SoundJob.{IsSound}
use Rattle.spf_core.specs.Stand.{IsAfter, IsReplayed, Stand, copy_of}
use Rattle.spf_core.specs.Tiling.{Tiling, tile_class, units_of}
use Rattle.spf_core.specs.declared.event.Event.{Event}
use Rattle.spf_core.specs.declared.event.Event.TheVariants.{Claim, Publish}
use Rattle.spf_core.proofs.Induction.{held_copy, held_result}
use Rattle.spf_core.proofs.Marks.{holds_parts}
use Rattle.spf_core.proofs.MarkSteps.{history_parts, marks_of, seat_at}
use Rattle.spf_touch.specs.declared.class.Class.{Class}

replay_from-push : (units : Behavior) (job : Tiling) (m : Moment) (es : List Event) (e : Event) → replay_from units job m (es ++ e ∷ []) ≡ next units job (replay_from units job m es) e
replay_from-push units job m [] e = refl
replay_from-push units job m (x ∷ es) e = replay_from-push units job (next units job m x) es e

replay-push : (units : Behavior) (job : Tiling) (es : List Event) (e : Event) → replay units job (es ++ e ∷ []) ≡ next units job (replay units job es) e
replay-push units job es e = replay_from-push units job _ es e

copy_some : (c : Option Class) (value : ℤ) → is_some (copy_at c value) ≡ is_some c
copy_some None value = refl
copy_some (Some c) value = refl

module _ (units : Behavior) (job : Tiling) (old new : Stand) (w t : ℕ) (one : 1 ≤ w) (copied : List (Option ℤ)) (r : IsReplayed units job old) (inside : w - 1 < length old.copies)
    (workers : new.workers ≡ old.workers) (copies : new.copies ≡ set old.copies (w - 1) copied) where
  moment : Moment
  moment = replay units job old.events

  copy_now : (k : ℕ) → k ≡ w - 1 → copy_of new k ≡ copied
  copy_now k same = rw (copies, same) (get_or-set_same old.copies (w - 1) copied [] inside)

  copy_then : (k : ℕ) → (k ≡ w - 1 → ⊥) → copy_of new k ≡ copy_of old k
  copy_then k other = rw copies (get_or-set_other old.copies (w - 1) k copied [] other)

  pub replayed_claim : new.events ≡ old.events ++ Claim w t ∷ [] → new.cells ≡ old.cells →
      ((e : ℕ) → value_in copied e ≡ claimed units job t (values_of old.cells) e) → IsReplayed units job new
  replayed_claim events cells values =
      let after : replay units job new.events ≡ next units job (replay units job old.events) (Claim w t) = ap (replay units job) events ∙ replay-push units job old.events (Claim w t) in
      record {
        size = ap length cells ∙ r.size;
        cells = λ e. ap (λ l. values_of l e) cells ∙ r.cells e ∙ ap (λ (m : Moment). m.cells e) (sym after);
        copies = λ k e below. elim (cases_eq k (w - 1)) [
          | inl mine ↦
              let seat : k + 1 ≡ w = omega arith in
              ap (λ c. value_in c e) (copy_now k mine) ∙ values e ∙ ap (copy_at (tile_class units job t e)) (r.cells e) ∙
              sym (ap (λ b. (cond b (claimed units job t (replay units job old.events).cells) ((replay units job old.events).copies (k + 1))) e) (eq-eqb (k + 1) w seat)) ∙
              ap (λ (m : Moment). m.copies (k + 1) e) (sym after)
          | inr other ↦
              let apart : k + 1 ≡ w → ⊥ = λ same. other (omega arith) in
              ap (λ c. value_in c e) (copy_then k other) ∙ r.copies k e (subst (λ n. k < n) workers below) ∙
              sym (ap (λ b. (cond b (claimed units job t (replay units job old.events).cells) ((replay units job old.events).copies (k + 1))) e) (ne_eqb (k + 1) w apart)) ∙
              ap (λ (m : Moment). m.copies (k + 1) e) (sym after)
        ];
      }

  pub replayed_publish : w ≤ old.workers → new.events ≡ old.events ++ Publish w t ∷ [] → length new.cells ≡ length old.cells → ((e : ℕ) → value_in copied e ≡ None) →
      ((e : ℕ) → values_of new.cells e ≡ merged units job t (worked units job t (value_in (copy_of old (w - 1)))) (values_of old.cells) e) → IsReplayed units job new
  replayed_publish top events size nothing cells =
      let after : replay units job new.events ≡ next units job (replay units job old.events) (Publish w t) = ap (replay units job) events ∙ replay-push units job old.events (Publish w t) in
      let copy : value_in (copy_of old (w - 1)) ≡ (replay units job old.events).copies w =
      fun_ext (λ x. r.copies (w - 1) x (omega arith) ∙ ap (λ v. (replay units job old.events).copies v x) (seat_at w one)) in
      let before : values_of old.cells ≡ (replay units job old.events).cells = fun_ext r.cells in
      record {
        size = size ∙ r.size;
        cells = λ e. cells e ∙ ap₂ (λ (c : ℕ → Option ℤ) (v : ℕ → ℤ). merged units job t (worked units job t c) v e) copy before ∙ ap (λ (m : Moment). m.cells e) (sym after);
        copies = λ k e below. elim (cases_eq k (w - 1)) [
          | inl mine ↦
              let seat : k + 1 ≡ w = omega arith in
              ap (λ c. value_in c e) (copy_now k mine) ∙ nothing e ∙
              sym (ap (λ b. (cond b (λ x. None) ((replay units job old.events).copies (k + 1))) e) (eq-eqb (k + 1) w seat)) ∙
              ap (λ (m : Moment). m.copies (k + 1) e) (sym after)
          | inr other ↦
              let apart : k + 1 ≡ w → ⊥ = λ same. other (omega arith) in
              ap (λ c. value_in c e) (copy_then k other) ∙ r.copies k e (subst (λ n. k < n) workers below) ∙
              sym (ap (λ b. (cond b (λ x. None) ((replay units job old.events).copies (k + 1))) e) (ne_eqb (k + 1) w apart)) ∙
              ap (λ (m : Moment). m.copies (k + 1) e) (sym after)
        ];
      }

-- a worker that may publish has a copy of its tile's elements
pub held_keys : (units : Behavior) → FrameLaw units → (job : Tiling) → IsSound units job → (state : Stand) → IsReplayed units job state → state.order ≡ job.order → (w t : ℕ) →
    IsHistory state.order state.workers (state.events ++ Publish w t ∷ []) → 1 ≤ w → w ≤ state.workers →
    (e : ℕ) → is_some (value_in (copy_of state (w - 1)) e) ≡ is_some (tile_class units job t e)
held_keys units law job sound state r order w t h one top e =
    let parts = history_parts state.order state.workers state.events (Publish w t) h in
    let held : (replay units job state.events).copies w ≡ claimed units job t (replay units job state.events).cells =
    held_copy units law job sound state.workers state.events w t (subst (λ o. IsHistory o state.workers state.events) order parts.0) parts.1 in
    ap is_some (r.copies (w - 1) e (omega arith) ∙ ap (λ v. (replay units job state.events).copies v e) (seat_at w one) ∙ ap (λ (c : ℕ → Option ℤ). c e) held) ∙
    copy_some (tile_class units job t e) _

-- whose the next event may be
pub claim_parts : (order : List (List ℕ)) (workers : ℕ) (es : List Event) (w t : ℕ) → IsHistory order workers (es ++ Claim w t ∷ []) → (1 ≤ w) × (w ≤ workers) × (t < length order)
claim_parts order workers es w t h = let may = (history_parts order workers es (Claim w t) h).1 in (may.worker.0, may.worker.1, may.tile)

pub publish_parts : (order : List (List ℕ)) (workers : ℕ) (es : List Event) (w t : ℕ) → IsHistory order workers (es ++ Publish w t ∷ []) → (1 ≤ w) × (w ≤ workers) × (t < length order)
publish_parts order workers es w t h =
    let parts = history_parts order workers es (Publish w t) h in
    let marks = marks_of order workers es parts.0 in
    let held = holds_parts es w t parts.1 in
    ((marks.ranged w t held.0).0, (marks.ranged w t held.0).1, marks.inside t (marks.taken w t held.0))

-- the room of a copy that was read
pub room_read : (copies : List (List (Option ℤ))) (cells job : List ℤ) (k : ℕ) (copied : List (Option ℤ)) → All (λ c. length c ≡ length cells) copies → k < length copies →
    copied ≡ get_or copies k copied → length cells ≡ length job → length copied ≡ length job
room_read copies cells job k copied all inside e size = ap length e ∙ all k copied inside ∙ size

-- the copy that was read is the worker's
pub copy_read : (state : Stand) (k : ℕ) (copied : List (Option ℤ)) → k < length state.copies → copied ≡ get_or state.copies k copied → copied ≡ copy_of state k
copy_read state k copied inside e = get_or_read state.copies k copied inside e []

pub published_result : (units : Behavior) → FrameLaw units → (job : Tiling) → IsSound units job → (new : Stand) → IsHistory new.order new.workers new.events → new.order ≡ job.order → IsReplayed units job new →
    (e : ℕ) → values_of new.cells e ≡ after_units units (ascending units.count (units_of job (published_tiles new.events))) (values_of job.cells) e
published_result units law job sound new h order r e =
    r.cells e ∙ ap (λ (f : ℕ → ℤ). f e) (held_result units law job sound new.workers new.events (subst (λ o. IsHistory o new.workers new.events) order h))

-- what came next is a history
pub after_history : (old new : Stand) (e named : Event) → IsAfter old e new → named ≡ e → IsHistory old.order old.workers (old.events ++ named ∷ []) → IsHistory new.order new.workers new.events
after_history old new e named a same h = rw (a.order, a.workers, a.events, ← same) h
