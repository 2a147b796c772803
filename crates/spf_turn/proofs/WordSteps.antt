-- The four steps on a word keep the rule: a try, giving back, adding an entry, and a look.
use Rattle.std.proofs.Common.{◌≡◌, ℕ, ◌+◌, ◌%◌, ◌^◌, ◌≤◌, ◌==◌, true, false, List, [], ◌∷◌, ◌++◌, length, slice_index, slice_set, Option, Some, refl, sym, ap, ◌∙◌, subst, arith, length-append}
use mathlib.Core.List.{append_cancel_left}
use mathlib.Core.Option.{none, some}
use mathlib.Core.List.{IsPrefix}
use lib.ListN.{get_elem?}
use prog.Atomic.{either}
use Rattle.atomic_table.specs.Table.{State, Act, keeps, takes, gives, Step, step, stepped, Allows, Valid, carried_after}
use Rattle.atomic_table.proofs.Lists.{exchanged}
use Rattle.spf_turn.specs.Tale.{entries_of}
use Rattle.spf_turn.specs.Rule.{IsKept}
use Rattle.spf_turn.specs.Steps.{Tried, Gave, Added, Looked}
use Rattle.spf_turn.specs.declared.view.View.{View}
use Rattle.spf_turn.specs.declared.board.About.{About}
use Rattle.spf_turn.proofs.Changes.{changed, Change, same_place, same_view, number_made}
use Rattle.spf_turn.proofs.Changes as change
use Rattle.spf_turn.proofs.StepFacts.{takes_turn, other_holder, misses_turn, looks_on, gives_turn, adds_entry}

module _ {T K E : Type 0} (key_of : T → K) (tale_of : T → List E) (who : E → ℕ) (about : About T) where
  abbrev Board : Type 0
  Board = State (Option T) (View K E)

  abbrev Rule : Board → Type 0
  Rule = IsKept key_of tale_of who about

  -- what a step tells doesn't depend on what it announces
  abbrev any : Step (Option T)
  any = step 0 0 0 0 none

  module _ (slots id : ℕ) where
    pub tries : (v : View K E) (c : List (ℕ × Option T)) (new : ℕ) → 1 ≤ v.number → v.holds ≡ false → new ≡ v.number
        → Allows Rule slots id (v, c) 0 (λ n. either (n == 0) new n) (Tried key_of tale_of who any (v, c))
    tries v c new live free is s kept size at fits =
        let R : ℕ → ℕ → Type 0 = λ n m. (w : View K E) × (a : Act (Option T)) × Valid s.homes c a × Rule (stepped s 0 m id c w a) × Tried key_of tale_of who any (v, c) n (w, carried_after c a) in
        let found : slice_index s.words 0 ≡ kept.turn = ap (λ ws. slice_index ws 0) kept.words in
        let few : length s.views ≤ v.passes = omega (arith, kept.most, (kept.keys id v at live).1) in
        let me = number_made key_of tale_of who about s kept id v at live in
        subst (λ n. R n (either (n == 0) new n)) (sym found) (exchanged kept.turn 0 new (R kept.turn)
        (λ z. let h = kept.value z in (
          changed v (tale_of h.0) v.own (v.tries ++ 0 ∷ []) true,
          takes 0 (Some h.0),
          ap (λ hs. get_elem? hs 0) kept.homes ∙ ap some h.1,
          change.keeps key_of tale_of who about s kept id v at live _ _ _ _ _ _ _ _ (takes_turn key_of tale_of who about s kept id v at live new is h.0 z h.2 h.3) _ _
              (ap (λ ws. slice_set ws 0 new) kept.words) (ap (λ hs. slice_set hs 0 none) kept.homes),
          (
            λ _. record {
              value = h.0;
              slot = refl;
              view = refl;
              key = ap Some h.2 ∙ sym (kept.keys id v at live).0;
              seen = subst (λ es. IsPrefix v.seen es) (sym h.3) (kept.seen id v at live);
              own = ap (entries_of who v.number) h.3 ∙ kept.own id v at live;
            },
            λ nz. absurd (nz z),
          ),
        ))
        (λ nz. let h = other_holder key_of tale_of who about s kept id v at live free (omega (arith, nz)) in (
          changed v v.seen v.own (v.tries ++ kept.turn ∷ []) v.holds,
          keeps,
          tt,
          change.keeps key_of tale_of who about s kept id v at live _ _ _ _ _ _ _ _ (misses_turn key_of tale_of who about s kept id v at live free (omega (arith, nz))) _ _
              (ap (λ ws. slice_set ws 0 kept.turn) kept.words) kept.homes,
          (
            λ z. absurd (nz z),
            λ _. record {
              slot = refl;
              view = refl;
              made = (h.0.0, omega (arith, h.0.1));
              other = h.1;
              number = (live, omega (arith, me.1));
            },
          ),
        )))

    pub gives_back : (v : View K E) (x : T) → 1 ≤ v.number → v.holds ≡ true → key_of x ≡ key_of about.first.value → tale_of x ≡ v.seen
        → Allows Rule slots id (v, (0, Some x) ∷ []) 0 (λ _. 0) (Gave any (v, (0, Some x) ∷ []))
    gives_back v x live holds key tale s kept size at fits = (
      changed v v.seen v.own v.tries false,
      gives,
      tt,
      change.keeps key_of tale_of who about s kept id v at live _ _ _ _ _ _ _ _ (gives_turn key_of tale_of who about s kept id v at live x holds key tale) _ _
          (ap (λ ws. slice_set ws 0 0) kept.words) (ap (λ hs. slice_set hs 0 (some (Some x))) kept.homes),
      (refl, refl),
    )

    pub adds : (v : View K E) (x : T) (e : E) → 1 ≤ v.number → v.holds ≡ true → tale_of x ≡ v.seen ++ e ∷ [] → who e ≡ v.number → length (tale_of x) ≤ 4294967295
        → Allows Rule slots id (v, (0, Some x) ∷ []) 1 (λ n. (n + 1) % 2 ^ 64) (Added tale_of any (v, (0, Some x) ∷ []))
    adds v x e live holds tale is few s kept size at fits =
        let n = slice_index s.words 1 in
        let found : slice_index s.words 1 ≡ length kept.tale = ap (λ ws. slice_index ws 1) kept.words in
        let more : length (tale_of x) ≡ length kept.tale + 1 = omega (arith, ap length tale, length-append v.seen (e ∷ []), ap length (kept.holder id v at live holds).1) in
        let count : (slice_index s.words 1 + 1) % 2 ^ 64 ≡ length (tale_of x) = omega arith in (
          changed v (tale_of x) (v.own ++ e ∷ []) v.tries v.holds,
          keeps,
          tt,
          change.keeps key_of tale_of who about s kept id v at live _ _ _ _ _ _ _ _ (adds_entry key_of tale_of who about s kept id v at live x e holds tale is) _ _
              (ap (λ ws. slice_set ws 1 ((n + 1) % 2 ^ 64)) kept.words ∙ ap (λ k. kept.turn ∷ k ∷ []) count) kept.homes,
          λ value entry slot tale'.
              let pair : Path (ℕ × Option T) (0, Some x) (0, Some value) = cc slot in
              let there : Some x ≡ Some value = ap (λ (t : ℕ × Option T). t.1) pair in
              let same : x ≡ value = cc there in
              let last : e ∷ [] ≡ entry ∷ [] = append_cancel_left v.seen (e ∷ []) (entry ∷ []) (sym tale ∙ (ap tale_of same ∙ tale')) in
              let one : e ≡ entry = cc last in
              (λ i. record v { seen = tale_of (same i); own = v.own ++ one i ∷ [] }, refl),
        )

    pub looks : (v : View K E) (c : List (ℕ × Option T)) → 1 ≤ v.number → Allows Rule slots id (v, c) 1 (λ n. n) (Looked key_of tale_of who any (v, c))
    looks v c live s kept size at fits =
        let n = slice_index s.words 1 in
        let found : n ≡ length kept.tale = ap (λ ws. slice_index ws 1) kept.words in (
          changed v kept.tale v.own v.tries v.holds,
          keeps,
          tt,
          change.keeps key_of tale_of who about s kept id v at live _ _ _ _ _ _ _ _ (looks_on key_of tale_of who about s kept id v at live) _ _
              (ap (λ ws. slice_set ws 1 n) kept.words ∙ ap (λ k. kept.turn ∷ k ∷ []) found) kept.homes,
          record {
            tale = kept.tale;
            slot = refl;
            view = refl;
            count = found;
            seen = kept.seen id v at live;
            own = kept.own id v at live;
          },
        )
