-- A join of two passes keeps the rule.
use Rattle.std.proofs.Common.{◌≡◌, ◌≢◌, ℕ, ◌-◌, ◌≤◌, ◌==◌, ◌||◌, ◌⊎◌, inl, inr, ⊎_elim, Bool, true, false, List, ◌∷◌, ◌++◌, length, set, Option, All, refl, sym, ap, ◌∙◌, subst, arith, length-append, length-set}
use Rattle.std.specs.List.{list_any}
use Rattle.std.proofs.lemmas.Bool.Decides.{nat_tests}
use Rattle.std.proofs.lemmas.List.Elements.{All-cons, All-append, All-weaker}
use Rattle.std.proofs.lemmas.List.Folds.{list_any-append}
use mathlib.Core.Logic.{dite}
use mathlib.Core.Option.{some}
use mathlib.Core.List.{IsPrefix}
use native.Mathlib.Decide.{ℕ_discrete}
use lib.ListN.{get_elem?}
use Rattle.atomic_table.specs.Table.{State, Joins}
use Rattle.atomic_table.proofs.Lists.{at_set, set_here, set_else}
use Rattle.spf_turn.specs.Tale.{IsMade}
use Rattle.spf_turn.specs.Rule.{EachLive, SomeLive, IsSpent, IsGone, IsKept, represented, has_joined}
use Rattle.spf_turn.specs.Steps.{as_joined, join_both, spent}
use Rattle.spf_turn.specs.declared.view.Joined.{Joined}
use Rattle.spf_turn.specs.declared.view.View.{View}
use Rattle.spf_turn.specs.declared.board.About.{About}
use Rattle.spf_turn.proofs.Tales.{longer_prefix, longer_whole, longer_first, longer_second}
use Rattle.spf_turn.proofs.Views.{at_below, at_one, each_set, spent_set, was_spent, sum_set, live_represented}

module _ {T K E : Type 0} (key_of : T → K) (tale_of : T → List E) (who : E → ℕ) (about : About T) where
  abbrev Board : Type 0
  Board = State (Option T) (View K E)

  abbrev Rule : Board → Type 0
  Rule = IsKept key_of tale_of who about

  either_true : (a b : Bool) → (a ≡ true) ⊎ (b ≡ true) → (a || b) ≡ true
  either_true true b h = refl
  either_true false b h = ⊎_elim (λ e. absurd (cc e)) (λ e. e) h

  module _ (s : Board) (kept : Rule s) (id : ℕ) (v : View K E) (at : get_elem? s.views id ≡ some v) (live : 1 ≤ v.number) where
    -- after another pass was joined to this one
    module _ (other : ℕ) (w : View K E) (apart : ¬ (other ≡ id)) (there : get_elem? s.views other ≡ some w) (live' : 1 ≤ w.number) (idle : w.holds ≡ false) where
      abbrev both : View K E
      both = join_both v w

      abbrev with_both : List (View K E)
      with_both = set s.views id both

      abbrev joined : List (View K E)
      joined = set with_both other spent

      there_too : get_elem? with_both other ≡ some w
      there_too = set_else s.views id other both apart ∙ there

      here_too : get_elem? joined id ≡ some both
      here_too = set_else with_both other id spent (λ e. apart (sym e)) ∙ set_here s.views id both (at_below s.views id v at)

      as_many_joined : length joined ≡ length s.views
      as_many_joined = length-set with_both other spent ∙ length-set s.views id both

      each_join : (P Q : ℕ → View K E → Type 0) → EachLive s.views P → ((j : ℕ) (u : View K E) → get_elem? s.views j ≡ some u → 1 ≤ u.number → P j u → Q j u) → Q id both → EachLive joined Q
      each_join P Q each others here = each_set with_both other spent Q Q
          (each_set s.views id both P Q each (λ j u ne at' alive. others j u at' alive) (λ _. here)) (λ j u ne at' alive q. q) (λ none. absurd (omega arith))

      some_join : (P Q : View K E → Type 0) → ((u : View K E) → P u → Q u) → (P v → Q both) → (P w → Q both) → SomeLive s.views P → SomeLive joined Q
      some_join P Q others first second h = dite (ℕ_discrete h.0 other)
          (λ e. let is : h.1 ≡ w = at_one s.views other h.1 w (subst (λ (k : ℕ). get_elem? s.views k ≡ some h.1) e h.2) there in (id, both, here_too, live, second (subst P is h.4)))
          (λ ne. dite (ℕ_discrete h.0 id)
          (λ e. let is : h.1 ≡ v = at_one s.views id h.1 v (subst (λ (k : ℕ). get_elem? s.views k ≡ some h.1) e h.2) at in (id, both, here_too, live, first (subst P is h.4)))
          (λ off. (h.0, h.1, set_else with_both other h.0 spent ne ∙ (set_else s.views id h.0 both off ∙ h.2), h.3, others h.1 h.4)))

      gone_joins : (o : Joined E) → IsGone who kept.turn kept.tale s.views o → IsGone who kept.turn kept.tale joined o
      gone_joins o h = record {
        spent = spent_set with_both other w spent o.number there_too live' (spent_set s.views id v both o.number at live h.spent);
        idle = h.idle;
        own = h.own;
      }

      its_own : IsGone who kept.turn kept.tale joined (as_joined w)
      its_own = record {
        spent = (live', spent, (let e : w.number - 1 ≡ other = omega (arith, kept.numbers other w there live') in subst (λ (k : ℕ). get_elem? joined k ≡ some (spent {K = K} {E = E})) (sym e) (set_here with_both other spent (at_below with_both other w there_too))), refl);
        idle = λ e. let h = kept.named (omega (arith, e)) in
            let place : h.0 ≡ other = omega (arith, kept.numbers h.0 h.1 h.2 h.3, kept.numbers other w there live', h.4.0, e) in
            let is : h.1 ≡ w = at_one s.views other h.1 w (subst (λ (k : ℕ). get_elem? s.views k ≡ some h.1) place h.2) there in
            cc (sym h.4.1 ∙ (ap (λ (u : View K E). u.holds) is ∙ idle));
        own = kept.own other w there live';
      }

      in_both : (number : ℕ) → (has_joined number v ≡ true) ⊎ (list_any (λ (o : Joined E). o.number == number) (as_joined w ∷ w.joined) ≡ true) → has_joined number both ≡ true
      in_both number h = list_any-append (λ (o : Joined E). o.number == number) v.joined (as_joined w ∷ w.joined) ∙ either_true _ _ h

      stands_with : (number : ℕ) → IsSpent joined number → SomeLive joined (λ u. has_joined number u ≡ true)
      stands_with number h = ⊎_elim
          (λ t. let is : (w.number == number) ≡ true = (let n = kept.numbers other w there live' in let p = h.0 in let e = t.0 in grind (arith, nat_tests)) in
          (id, both, here_too, live, in_both number (inr (either_true (w.number == number) (has_joined number w) (inl is)))))
          (λ t. some_join _ _ (λ u j. j) (λ j. in_both number (inl j)) (λ j. in_both number (inr (either_true (w.number == number) (has_joined number w) (inr j)))) (kept.gone number (was_spent s.views id both number live (h.0, h.1, t.1, h.3))))
          (at_set with_both other (number - 1) spent h.1 h.2)

      join_keeps : Rule record { words = s.words; homes = s.homes; views = joined }
      join_keeps = record {
        turn = kept.turn;
        home = kept.home;
        tale = kept.tale;
        words = kept.words;
        homes = kept.homes;
        named = λ h. some_join _ _ (λ u t. t) (λ t. t) (λ t. absurd (cc (sym idle ∙ t.1))) (kept.named h);
        holder = each_join _ _ kept.holder (λ j u at' alive h. h)
            (λ h. let t = kept.holder id v at live h in (t.0, longer_whole v.seen w.seen kept.tale v.seen (kept.seen id v at live) (kept.seen other w there live') t.1 (longer_first v.seen w.seen)));
        away = kept.away;
        value = kept.value;
        keys = each_join _ _ kept.keys (λ j u at' alive k. k) (kept.keys id v at live);
        made = each_join _ _ kept.made (λ j u at' alive m z. m z ∙ sym as_many_joined) (λ z. kept.made id v at live z ∙ sym as_many_joined);
        most = omega (arith, as_many_joined, kept.most);
        numbers = each_join _ _ kept.numbers (λ j u at' alive n. n) (kept.numbers id v at live);
        entries = subst (λ (n : ℕ). All (λ e. IsMade n (who e)) kept.tale) (sym as_many_joined) kept.entries;
        longest = some_join _ _ (λ u e. e)
            (λ e. longer_whole v.seen w.seen kept.tale v.seen (kept.seen id v at live) (kept.seen other w there live') e (longer_first v.seen w.seen))
            (λ e. longer_whole v.seen w.seen kept.tale w.seen (kept.seen id v at live) (kept.seen other w there live') e (longer_second v.seen w.seen))
            kept.longest;
        seen = each_join _ _ kept.seen (λ j u at' alive p. p) (longer_prefix v.seen w.seen kept.tale (kept.seen id v at live) (kept.seen other w there live'));
        had_seen = each_join _ _ kept.had_seen (λ j u at' alive a. a)
            (let P : List E → Type 0 = λ past. IsPrefix past kept.tale in All-cons P v.seen (w.seen ∷ (v.had_seen ++ w.had_seen)) (kept.seen id v at live)
            (All-cons P w.seen (v.had_seen ++ w.had_seen) (kept.seen other w there live') (All-append P v.had_seen w.had_seen (kept.had_seen id v at live) (kept.had_seen other w there live'))));
        own = each_join _ _ kept.own (λ j u at' alive o. o) (kept.own id v at live);
        tries = let same = λ (n : ℕ) (found : List ℕ) (a : All (λ k. (k ≤ length s.views) × (k ≢ n)) found). subst (λ (m : ℕ). All (λ k. (k ≤ m) × (k ≢ n)) found) (sym as_many_joined) a in
            each_join _ _ kept.tries (λ j u at' alive t. same u.number u.tries t) (same v.number v.tries (kept.tries id v at live));
        joined = each_join _ _ kept.joined (λ j u at' alive a. All-weaker _ _ gone_joins u.joined a)
            (let P : Joined E → Type 0 = IsGone who kept.turn kept.tale joined in All-append P v.joined (as_joined w ∷ w.joined) (All-weaker _ _ gone_joins v.joined (kept.joined id v at live))
            (All-cons P (as_joined w) w.joined its_own (All-weaker _ _ gone_joins w.joined (kept.joined other w there live'))));
        gone = stands_with;
        together = omega (
          arith,
          sum_set represented s.views id v both at,
          sum_set represented with_both other w spent there_too,
          live_represented v live,
          live_represented w live',
          live_represented both live,
          length-append v.joined (as_joined w ∷ w.joined),
          kept.together,
          as_many_joined,
        );
      }

  pub joins : (id other : ℕ) (v w : View K E) → 1 ≤ v.number → 1 ≤ w.number → w.holds ≡ false → Joins Rule id v other w (join_both v w) spent
  joins id other v w live live' idle s kept at apart there =
      join_keeps s kept id v at live other w apart (sym (set_else s.views id other (join_both v w) apart) ∙ there) live' idle
