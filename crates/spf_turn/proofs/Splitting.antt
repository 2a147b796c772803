-- A split of the first pass keeps the rule.
use Rattle.std.proofs.Common.{◌≡◌, ◌≢◌, ℕ, ◌+◌, ◌-◌, ◌<◌, ◌≤◌, ⊎_elim, List, [], ◌∷◌, ◌++◌, length, set, Option, All, refl, sym, ap, ◌∙◌, arith, length-append, length-set}
use Rattle.std.proofs.lemmas.List.Elements.{All-nil, All-weaker}
use Rattle.std.proofs.lemmas.List.Sums.{sum_by-append}
use mathlib.Core.Option.{some}
use mathlib.Core.List.{IsPrefix}
use lib.ListN.{get_elem?}
use Rattle.atomic_table.specs.Table.{State, Splits}
use Rattle.atomic_table.proofs.Lists.{at_longer}
use Rattle.spf_turn.specs.Tale.{entries_of, IsMade}
use Rattle.spf_turn.specs.Rule.{EachLive, SomeLive, IsSpent, IsGone, IsKept, represented}
use Rattle.spf_turn.specs.Steps.{split_left, split_right}
use Rattle.spf_turn.specs.declared.view.Joined.{Joined}
use Rattle.spf_turn.specs.declared.view.View.{View}
use Rattle.spf_turn.specs.declared.board.About.{About}
use Rattle.spf_turn.proofs.Tales.{none_yet}
use Rattle.spf_turn.proofs.Views.{at_below, at_more, each_set, each_more, some_set, spent_set, was_spent, sum_set, live_represented}

module _ {T K E : Type 0} (key_of : T → K) (tale_of : T → List E) (who : E → ℕ) (about : About T) where
  abbrev Board : Type 0
  Board = State (Option T) (View K E)

  abbrev Rule : Board → Type 0
  Rule = IsKept key_of tale_of who about

  module _ (s : Board) (kept : Rule s) (id : ℕ) (v : View K E) (at : get_elem? s.views id ≡ some v) (live : 1 ≤ v.number) where
    -- after the split of the first pass
    module _ (first : v.number ≡ 1) (room : v.made < v.passes) where
      abbrev left : View K E
      left = split_left v

      abbrev right : View K E
      right = split_right v

      abbrev with_left : List (View K E)
      with_left = set s.views id left

      abbrev split : List (View K E)
      split = with_left ++ right ∷ []

      zero_place : id ≡ 0
      zero_place = omega (arith, kept.numbers id v at live)

      made_is : v.made ≡ length s.views
      made_is = kept.made id v at live zero_place

      as_many : length with_left ≡ length s.views
      as_many = length-set s.views id left

      one_more : length split ≡ length s.views + 1
      one_more = omega (arith, length-append with_left (right ∷ []), as_many)

      each_split : (P Q : ℕ → View K E → Type 0) → EachLive s.views P → ((j : ℕ) (u : View K E) → j ≢ id → get_elem? s.views j ≡ some u → 1 ≤ u.number → P j u → Q j u)
          → Q id left → Q (length with_left) right → EachLive split Q
      each_split P Q each other here new =
          each_more with_left right Q Q (each_set s.views id left P Q each other (λ _. here)) (λ j u there alive q. q) new

      some_split : (P Q : View K E → Type 0) → ((u : View K E) → P u → Q u) → (P v → Q left) → SomeLive s.views P → SomeLive split Q
      some_split P Q other here h = let t = some_set s.views id v left P Q at live other here h in (t.0, t.1, at_longer with_left (right ∷ []) t.0 t.1 t.2, t.3, t.4)

      gone_stays : (other : Joined E) → IsGone who kept.turn kept.tale s.views other → IsGone who kept.turn kept.tale split other
      gone_stays other h = let t = spent_set s.views id v left other.number at live h.spent in
          record { spent = (t.0, t.1, at_longer with_left (right ∷ []) (other.number - 1) t.1 t.2, t.3); idle = h.idle; own = h.own }

      was_spent_too : (number : ℕ) → IsSpent split number → IsSpent s.views number
      was_spent_too number h = was_spent s.views id left number live (⊎_elim
          (λ e. (h.0, h.1, e, h.3))
          (λ t. absurd (omega (arith, h.3, ap (λ (u : View K E). u.number) t.1)))
          (at_more with_left right h.1 (number - 1) h.2))

      no_entry_yet : entries_of who (v.made + 1) kept.tale ≡ []
      no_entry_yet = none_yet who (v.made + 1) kept.tale (All-weaker (λ e. IsMade (length s.views) (who e)) (λ e. who e ≢ v.made + 1) (λ e m is. omega (arith, m.1, made_is)) kept.tale kept.entries)

      split_keeps : Rule record { words = s.words; homes = s.homes; views = split }
      split_keeps = record {
        turn = kept.turn;
        home = kept.home;
        tale = kept.tale;
        words = kept.words;
        homes = kept.homes;
        named = λ h. some_split _ _ (λ u t. t) (λ t. t) (kept.named h);
        holder = each_split _ _ kept.holder (λ j u ne there alive h. h) (kept.holder id v at live) (λ h. absurd (cc h));
        away = kept.away;
        value = kept.value;
        keys = each_split _ _ kept.keys (λ j u ne there alive k. k) (kept.keys id v at live) (kept.keys id v at live);
        made = each_split _ _ kept.made (λ j u ne there alive m z. absurd (ne (z ∙ sym zero_place))) (λ z. omega (arith, made_is, one_more)) (λ z. absurd (omega (arith, at_below s.views id v at, as_many)));
        most = omega (arith, one_more, (kept.keys id v at live).1, made_is);
        numbers = each_split _ _ kept.numbers (λ j u ne there alive n. n) (kept.numbers id v at live) (omega (arith, made_is, as_many));
        entries = All-weaker (λ e. IsMade (length s.views) (who e)) (λ e. IsMade (length split) (who e)) (λ e m. (m.0, omega (arith, m.1, one_more))) kept.tale kept.entries;
        longest = some_split _ _ (λ u e. e) (λ e. e) kept.longest;
        seen = each_split _ _ kept.seen (λ j u ne there alive p. p) (kept.seen id v at live) (kept.tale, refl);
        had_seen = each_split _ _ kept.had_seen (λ j u ne there alive a. a) (kept.had_seen id v at live) (All-nil (λ past. IsPrefix past kept.tale));
        own = each_split _ _ kept.own (λ j u ne there alive o. o) (kept.own id v at live) no_entry_yet;
        tries = let wider = λ (n : ℕ) (found : List ℕ) (a : All (λ k. (k ≤ length s.views) × (k ≢ n)) found).
            All-weaker (λ k. (k ≤ length s.views) × (k ≢ n)) (λ k. (k ≤ length split) × (k ≢ n)) (λ k t. (omega (arith, t.0, one_more), t.1)) found a in
            each_split _ _ kept.tries (λ j u ne there alive t. wider u.number u.tries t) (wider v.number v.tries (kept.tries id v at live)) (All-nil (λ k. (k ≤ length split) × (k ≢ right.number)));
        joined = each_split _ _ kept.joined (λ j u ne there alive a. All-weaker _ _ gone_stays u.joined a) (All-weaker _ _ gone_stays v.joined (kept.joined id v at live)) (All-nil (IsGone who kept.turn kept.tale split));
        gone = λ number h. some_split _ _ (λ u t. t) (λ t. t) (kept.gone number (was_spent_too number h));
        together = omega (arith, sum_by-append represented with_left (right ∷ []), sum_set represented s.views id v left at, kept.together, one_more, live_represented right (omega arith));
      }

  pub splits : (id : ℕ) (v : View K E) → v.number ≡ 1 → v.made < v.passes → Splits Rule id v (split_left v) (split_right v)
  splits id v first room s kept at = split_keeps s kept id v at (omega arith) first room
