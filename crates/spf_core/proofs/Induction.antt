-- The induction over histories.
use Rattle.std.proofs.Common.{◌≡◌, ℕ, ◌<◌, ℤ, true, false, Option, None, Some, List, [], ◌∷◌, ◌++◌, length, inl, inr, refl, sym, ap, ◌∙◌, subst, eqb, cond}
use Rattle.std.proofs.lemmas.Bool.{eqb-true, eq-eqb, false≢true, false_from_ne_true, cases_eq, ne_eqb, or_cases}
use Rattle.std.proofs.lemmas.List.{append_assoc, append-nil}
use Rattle.std.specs.List.{range_with_len}
use mathlib.Core.Path.{fun_ext}
use Rattle.spf_touch.specs.Copy.{copy_at, value_or_0}
use Rattle.spf_touch.specs.Frame.{Behavior, FrameLaw, after_units, blend_at}
use Rattle.spf_touch.specs.Ordered.{IsLegalOrder, ascending, is_in}
use Rattle.spf_touch.proofs.Lifting.{lifted}
use Rattle.spf_touch.proofs.Orders.{ascending_all, reordered, units-append}
use Rattle.spf_touch.proofs.Swaps.{copy_kept}
use Rattle.spf_core.specs.History.{IsAllowed, IsFull, IsHistory, IsHistoryAfter, MayClaim, holds, is_before, published_tiles}
use Rattle.spf_core.specs.Replay.{Moment, claimed, merged, next, replay, replay_from, values_of, worked}
use Rattle.spf_core.specs.SoundJob.{IsSound}
use Rattle.spf_core.specs.Tiling.{Tiling, list_of, tile_class, units_of}
use Rattle.spf_touch.specs.declared.class.Class.{Class}
use Rattle.std.specs.Prelude.{option_map}
use Rattle.spf_core.specs.declared.event.Event.{Event}
use Rattle.spf_core.specs.declared.event.Event.TheVariants.{Claim, Publish}
use Rattle.spf_core.proofs.Events.{published-claim, published-publish}
use Rattle.spf_core.proofs.Marks.{Marks, holds-claim, holds-publish, holds_parts, marks_claim, marks_publish, no_marks}
use Rattle.spf_core.proofs.Unordered.{home_unit, legal_more, units_of-append, unordered_free}

pub legal_below : (units : Behavior) (us : List ℕ) → IsLegalOrder units us → (u : ℕ) → is_in us u ≡ true → u < units.count
legal_below units [] legal u h = cc
legal_below units (v ∷ us) legal u h = elim (or_cases (eqb u v) (is_in us u) h) [
  | inl here ↦ rw (eqb-true u v here) legal.0
  | inr later ↦ legal_below units us legal.3 u later
]

at_merged : (c : Option Class) (value new : ℤ) → blend_at c value (value_or_0 (option_map (λ _. new) (copy_at c value))) ≡ blend_at c value new
at_merged None value new = refl
at_merged (Some c) value new = refl

module _ (units : Behavior) (law : FrameLaw units) (job : Tiling) (sound : IsSound units job) where
  -- the cells after the units of these tiles, one tile after another
  abbrev after_tiles : List ℕ → ℕ → ℤ
  after_tiles ts = after_units units (units_of job ts) (values_of job.cells)

  -- a publication on a copy of the cells as they are does what the tile's units do
  publication : (t : ℕ) → t < length job.lists → (cells : ℕ → ℤ) →
      merged units job t (worked units job t (claimed units job t cells)) cells ≡ after_units units (list_of job t) cells
  publication t inside cells = fun_ext (λ e. at_merged (tile_class units job t e) (cells e) _ ∙
      sym (lifted units law (list_of job t) cells (legal_below units (list_of job t) (sound.legal t inside)) e))

  -- what is known after some events
  record Kept (workers : ℕ) (es : List Event) (m : Moment) : Type 0 where
    cells : m.cells ≡ after_tiles (published_tiles es)
    legal : IsLegalOrder units (units_of job (published_tiles es))
    copies : (w t : ℕ) → holds es w t ≡ true → m.copies w ≡ claimed units job t m.cells
    marks : Marks job.order workers es

  kept_claim : (workers : ℕ) (es : List Event) (m : Moment) (w t : ℕ) → Kept workers es m → MayClaim job.order workers es w t →
      Kept workers (es ++ Claim w t ∷ []) (next units job m (Claim w t))
  kept_claim workers es m w t k may = record {
    cells = k.cells ∙ ap after_tiles (sym (published-claim es w t));
    legal = rw published-claim k.legal;
    copies = λ v s h. elim (holds-claim es w t v s h) [
      | inl old ↦ elim (cases_eq v w) [
        | inl same ↦ absurd (false≢true (sym (may.idle s) ∙ (rw same at old)))
        | inr other ↦ rw (ne_eqb v w other) (k.copies v s old)
      ]
      | inr new ↦ rw (new.0, new.1, eq-eqb w w refl) refl
    ];
    marks = marks_claim job.order workers es k.marks w t may;
  }

  -- another worker's copy is still that of the cells as they are
  copy_after : (workers : ℕ) (es : List Event) (m : Moment) (w t v s : ℕ) → Kept workers es m → holds es w t ≡ true → t < length job.lists →
      (next units job m (Publish w t)).cells ≡ after_units units (list_of job t) m.cells → (holds es v s ≡ true) × (s ≡ t → ⊥) →
      (next units job m (Publish w t)).copies v ≡ claimed units job s (next units job m (Publish w t)).cells
  copy_after workers es m w t v s k held inside now (theirs, apart) = elim (cases_eq v w) [
    | inl same ↦ absurd (apart (k.marks.single w s t (rw same at theirs) held))
    | inr other ↦
        let mine = holds_parts es w t held in
        let parts = holds_parts es v s theirs in
        let not_st : is_before job.order s t ≡ false = false_from_ne_true _ (λ b. false≢true (sym parts.1 ∙ k.marks.ready s t (k.marks.taken w t mine.0) b)) in
        let not_ts : is_before job.order t s ≡ false = false_from_ne_true _ (λ b. false≢true (sym mine.1 ∙ k.marks.ready t s (k.marks.taken v s parts.0) b)) in
        let same_copy : claimed units job s (after_units units (list_of job t) m.cells) ≡ claimed units job s m.cells =
        fun_ext (copy_kept units law (list_of job t) (list_of job s) m.cells (λ x y i j. unordered_free units job sound s t y x apart not_st not_ts j i)) in
        ap (λ b. cond b (λ e. None) (m.copies v)) (ne_eqb v w other) ∙ k.copies v s theirs ∙ sym same_copy ∙ ap (claimed units job s) (sym now)
  ]

  kept_publish : (workers : ℕ) (es : List Event) (m : Moment) (w t : ℕ) → Kept workers es m → holds es w t ≡ true → Kept workers (es ++ Publish w t ∷ []) (next units job m (Publish w t))
  kept_publish workers es m w t k held =
      let parts = holds_parts es w t held in
      let taken = k.marks.taken w t parts.0 in
      let inside : t < length job.lists = subst (λ n. t < n) sound.orders (k.marks.inside t taken) in
      let now : (next units job m (Publish w t)).cells ≡ after_units units (list_of job t) m.cells =
      ap (λ copy. merged units job t (worked units job t copy) m.cells) (k.copies w t held) ∙ publication t inside m.cells in
      record {
        cells = now ∙ ap (after_units units (list_of job t)) k.cells ∙ sym (units-append units (units_of job (published_tiles es)) (list_of job t) (values_of job.cells)) ∙
            ap (λ us. after_units units us (values_of job.cells)) (ap (λ l. units_of job (published_tiles es) ++ l) (sym (append-nil (list_of job t))) ∙ sym (units_of-append job (published_tiles es) (t ∷ []))) ∙
            ap after_tiles (sym (published-publish es w t));
        legal = rw published-publish (legal_more units job sound (published_tiles es) t inside k.legal (λ s h. (
          λ same. false≢true (sym parts.1 ∙ (rw same at h)),
          false_from_ne_true (is_before job.order t s) (λ b. false≢true (sym parts.1 ∙ k.marks.ready t s (k.marks.given s h) b)),
        )));
        copies = λ v s h. copy_after workers es m w t v s k held inside now (holds-publish es w t v s h);
        marks = marks_publish job.order workers es k.marks w t held;
      }

  kept_next : (workers : ℕ) (es : List Event) (m : Moment) (e : Event) → Kept workers es m → IsAllowed job.order workers es e → Kept workers (es ++ e ∷ []) (next units job m e)
  kept_next workers es m (Claim w t) k may = kept_claim workers es m w t k may
  kept_next workers es m (Publish w t) k held = kept_publish workers es m w t k held

  kept_from : (workers : ℕ) (past es : List Event) (m : Moment) → Kept workers past m → IsHistoryAfter job.order workers past es → Kept workers (past ++ es) (replay_from units job m es)
  kept_from workers past [] m k h = rw append-nil k
  kept_from workers past (e ∷ es) m k h =
      rw (← append_assoc past (e ∷ []) es) (kept_from workers (past ++ e ∷ []) es (next units job m e) (kept_next workers past m e k h.0) h.1)

  kept_all : (workers : ℕ) (es : List Event) → IsHistory job.order workers es → Kept workers es (replay units job es)
  kept_all workers es h = kept_from workers [] es _ (record { cells = refl; legal = tt; copies = λ w t k. cc; marks = no_marks job.order workers }) h

  -- after every history the cells are those of the published tiles' units in ascending order
  pub held_result : (workers : ℕ) (es : List Event) → IsHistory job.order workers es →
      (replay units job es).cells ≡ after_units units (ascending units.count (units_of job (published_tiles es))) (values_of job.cells)
  held_result workers es h = let k = kept_all workers es h in k.cells ∙ reordered units law (units_of job (published_tiles es)) (values_of job.cells) k.legal

  -- a held copy is that of the cells as they are
  pub held_copy : (workers : ℕ) (es : List Event) (w t : ℕ) → IsHistory job.order workers es → holds es w t ≡ true →
      (replay units job es).copies w ≡ claimed units job t (replay units job es).cells
  held_copy workers es w t h held = (kept_all workers es h).copies w t held

  pub all_units : (ts : List ℕ) → ((t : ℕ) → t < length job.lists → is_in ts t ≡ true) → ascending units.count (units_of job ts) ≡ range_with_len 0 units.count
  all_units ts all = ascending_all units.count (units_of job ts) (λ u b. let home = sound.somewhere u b in home_unit job ts home.0 u (all home.0 home.1) home.2)

  pub full_result : (workers : ℕ) (es : List Event) → IsHistory job.order workers es → IsFull job.order es →
      (replay units job es).cells ≡ after_units units (range_with_len 0 units.count) (values_of job.cells)
  full_result workers es h full =
      held_result workers es h ∙ ap (λ us. after_units units us (values_of job.cells)) (all_units (published_tiles es) (λ t b. full t (subst (λ n. t < n) (sym sound.orders) b)))
