-- Once every pass is joined to one, nobody holds the turn, and the value at home has the whole tale.
use Rattle.std.proofs.Common.{◌≡◌, ◌≢◌, ℕ, ◌+◌, ◌≤◌, false, List, [], ◌∷◌, ◌++◌, length, set, Option, Some, All, sym, ap, ◌∙◌, subst, arith}
use Rattle.std.specs.List.{sum_by}
use Rattle.std.proofs.lemmas.List.Elements.{All-nil, All-cons, All-head, All-tail, All-weaker}
use mathlib.Core.Logic.{dite}
use mathlib.Core.Option.{some}
use mathlib.Core.List.{IsPrefix}
use native.Mathlib.Decide.{ℕ_discrete}
use lib.ListN.{get_elem?}
use Rattle.atomic_table.specs.Seated.{TableId}
use Rattle.atomic_table.specs.Table.{State, Final, Seen}
use Rattle.atomic_table.proofs.Lists.{set_else}
use Rattle.spf_turn.specs.Tale.{entries_of, IsMade}
use Rattle.spf_turn.specs.Rule.{IsGone, IsKept, represented}
use Rattle.spf_turn.specs.Seats.{pass_state}
use Rattle.spf_turn.specs.Steps.{as_joined, join_both, spent}
use Rattle.spf_turn.specs.Passes.{PassState}
use Rattle.spf_turn.specs.Closing.{AllAgree, Represents}
use Rattle.spf_turn.specs.declared.view.Joined.{Joined}
use Rattle.spf_turn.specs.declared.view.View.{View}
use Rattle.spf_turn.specs.declared.board.About.{About}
use Rattle.spf_turn.proofs.Views.{at_one, sum_set, sum_at, live_represented}

module _ {A : Type 0} (P : A → Type 0) where
  all_first : (xs ys : List A) → All P (xs ++ ys) → All P xs
  all_first [] ys h = All-nil P
  all_first (x ∷ xs) ys h = All-cons P x xs (All-head P x (xs ++ ys) h) (all_first xs ys (All-tail P x (xs ++ ys) h))

  all_second : (xs ys : List A) → All P (xs ++ ys) → All P ys
  all_second [] ys h = h
  all_second (x ∷ xs) ys h = all_second xs ys (All-tail P x (xs ++ ys) h)

abbrev Began : {E : Type 0} → List E → List E → Type 0
Began tale past = IsPrefix past tale

abbrev Owned : {E : Type 0} → (E → ℕ) → List E → Joined E → Type 0
Owned who tale other = entries_of who other.number tale ≡ other.own

module _ {K E : Type 0} (who : E → ℕ) where
  pub represents_itself : (id : TableId) (v : View K E) → Represents who v (pass_state id v)
  represents_itself id v tale h = record { seen = h.seen; own = h.own }

  module _ (v w : View K E) (tale : List E) (h : AllAgree who tale (join_both v w)) where
    others_seen : All (Began tale) (v.had_seen ++ w.had_seen)
    others_seen = All-tail (Began tale) w.seen (v.had_seen ++ w.had_seen) (All-tail (Began tale) v.seen (w.seen ∷ (v.had_seen ++ w.had_seen)) h.had_seen)

    others_own : All (Owned who tale) (as_joined w ∷ w.joined)
    others_own = all_second (Owned who tale) v.joined (as_joined w ∷ w.joined) h.joined

    whole_first : AllAgree who tale v
    whole_first = record {
      seen = All-head (Began tale) v.seen (w.seen ∷ (v.had_seen ++ w.had_seen)) h.had_seen;
      own = h.own;
      joined = all_first (Owned who tale) v.joined (as_joined w ∷ w.joined) h.joined;
      had_seen = all_first (Began tale) v.had_seen w.had_seen others_seen;
    }

    whole_second : AllAgree who tale w
    whole_second = record {
      seen = All-head (Began tale) w.seen (v.had_seen ++ w.had_seen) (All-tail (Began tale) v.seen (w.seen ∷ (v.had_seen ++ w.had_seen)) h.had_seen);
      own = All-head (Owned who tale) (as_joined w) w.joined others_own;
      joined = All-tail (Owned who tale) (as_joined w) w.joined others_own;
      had_seen = all_second (Began tale) v.had_seen w.had_seen others_seen;
    }

  -- the joined view represents what each of the two did
  pub represents_first : (v w : View K E) (pass : PassState K E) → Represents who v pass → Represents who (join_both v w) pass
  represents_first v w pass f tale h = f tale (whole_first v w tale h)

  pub represents_second : (v w : View K E) (pass : PassState K E) → Represents who w pass → Represents who (join_both v w) pass
  represents_second v w pass f tale h = f tale (whole_second v w tale h)

module _ {T K E : Type 0} (key_of : T → K) (tale_of : T → List E) (who : E → ℕ) (about : About T) where
  abbrev Board : Type 0
  Board = State (Option T) (View K E)

  abbrev Rule : Board → Type 0
  Rule = IsKept key_of tale_of who about

  -- the value at the end
  pub record IsEnd (v : View K E) (x : T) : Type 0 where
    pub key : key_of x ≡ key_of about.first.value
    pub whole : AllAgree who (tale_of x) v
    pub entries : All (λ e. IsMade about.passes (who e)) (tale_of x)

  module _ (s : Board) (kept : Rule s) (id : ℕ) (v : View K E) (at : get_elem? s.views id ≡ some v) (live : 1 ≤ v.number) (idle : v.holds ≡ false) (all : 1 + length v.joined ≡ about.passes) where
    -- there is no other view that isn't spent
    alone : (j : ℕ) (u : View K E) → j ≢ id → get_elem? s.views j ≡ some u → 1 ≤ u.number → ⊥
    alone j u ne there alive =
        let without = set s.views id spent in
        let rest : represented u ≤ sum_by represented without = sum_at represented without j u (set_else s.views id j spent ne ∙ there) in
        omega (arith, rest, sum_set represented s.views id v spent at, live_represented v live, live_represented u alive, kept.together, kept.most, all)

    free : kept.turn ≡ 0
    free = dite (ℕ_discrete kept.turn 0) (λ z. z) (λ nz. let h = kept.named (omega (arith, nz)) in absurd (dite (ℕ_discrete h.0 id)
        (λ e. let is : h.1 ≡ v = at_one s.views id h.1 v (subst (λ (k : ℕ). get_elem? s.views k ≡ some h.1) e h.2) at in cc (sym h.4.1 ∙ (ap (λ (u : View K E). u.holds) is ∙ idle)))
        (λ ne. alone h.0 h.1 ne h.2 h.3)))

    at_end : (x : T) × (get_elem? s.homes 0 ≡ some (some (Some x))) × IsEnd v x
    at_end = let h = kept.value free in
        let whole : AllAgree who kept.tale v = record {
          seen = kept.seen id v at live;
          own = kept.own id v at live;
          joined = All-weaker (IsGone who kept.turn kept.tale s.views) (Owned who kept.tale) (λ o g. g.own) v.joined (kept.joined id v at live);
          had_seen = kept.had_seen id v at live;
        } in (
          h.0,
          ap (λ hs. get_elem? hs 0) kept.homes ∙ ap some h.1,
          record {
            key = h.2;
            whole = subst (λ (tale : List E). AllAgree who tale v) (sym h.3) whole;
            entries = subst (λ (tale : List E). All (λ e. IsMade about.passes (who e)) tale) (sym h.3)
                (All-weaker (λ e. IsMade (length s.views) (who e)) (λ e. IsMade about.passes (who e)) (λ e m. (m.0, omega (arith, m.1, kept.most))) kept.tale kept.entries);
          },
        )

  -- as a table is closed, its slot has that value
  module _ (id : ℕ) (v : View K E) (words : List ℕ) (slots : List (Option T)) (final : Final (Seen Rule id v) words slots) (live : 1 ≤ v.number) (idle : v.holds ≡ false) (all : 1 + length v.joined ≡ about.passes) where
    pub closes : (value : Option T) → get_elem? slots 0 ≡ some value → (x : T) × (value ≡ Some x) × IsEnd v x
    closes value at = let h = at_end final.0 final.1.0 id v final.1.1 live idle all in (h.0, at_one slots 0 value (Some h.0) at (final.4 0 (Some h.0) h.1), h.2)

    pub closes_at : (x : T) → get_elem? slots 0 ≡ some (Some x) → IsEnd v x
    closes_at x at = let h = closes (Some x) at in let same : x ≡ h.0 = cc h.1 in subst (IsEnd v) (sym same) h.2
