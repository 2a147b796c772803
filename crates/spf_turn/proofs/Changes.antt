-- A step that changes one view keeps the rule. Everything that the four steps on a word have in common is shown here once.
use Rattle.std.proofs.Common.{◌≡◌, ◌≢◌, ℕ, ◌-◌, ◌≤◌, ◌⊎◌, ⊎_elim, Bool, true, List, [], ◌∷◌, ◌++◌, length, set, Option, Some, All, sym, ap, ◌∙◌, subst, arith, length-set}
use Rattle.std.proofs.lemmas.List.Elements.{All-append, All-weaker}
use mathlib.Core.Option.{Option as Maybe, none, some}
use mathlib.Core.List.{IsPrefix}
use lib.ListN.{get_elem?}
use Rattle.atomic_table.specs.Table.{State}
use Rattle.atomic_table.proofs.Lists.{set_here}
use Rattle.spf_turn.specs.Tale.{IsMade}
use Rattle.spf_turn.specs.Rule.{SomeLive, IsSpent, IsGone, IsKept, represented}
use Rattle.spf_turn.specs.declared.view.Joined.{Joined}
use Rattle.spf_turn.specs.declared.view.View.{View}
use Rattle.spf_turn.specs.declared.board.About.{About}
use Rattle.spf_turn.proofs.Tales.{prefix_grows, own_grows, own_stays}
use Rattle.spf_turn.proofs.Views.{at_below, at_one, each_set, some_set, spent_set, was_spent, sum_set}

-- the view with another seen list, own entries, tries and hold
abbrev pub changed : {K E : Type 0} → View K E → List E → List E → List ℕ → Bool → View K E
changed v seen own tries holds = record v { seen = seen; own = own; tries = tries; holds = holds }

module _ {T K E : Type 0} (key_of : T → K) (tale_of : T → List E) (who : E → ℕ) (about : About T) where
  abbrev Board : Type 0
  Board = State (Option T) (View K E)

  abbrev Rule : Board → Type 0
  Rule = IsKept key_of tale_of who about

  module _ (s : Board) (kept : Rule s) (id : ℕ) (v : View K E) (at : get_elem? s.views id ≡ some v) (live : 1 ≤ v.number) where
    -- a view of the acting pass's number is the acting pass's
    pub same_place : (j : ℕ) (u : View K E) → get_elem? s.views j ≡ some u → 1 ≤ u.number → u.number ≡ v.number → j ≡ id
    same_place j u there alive e = omega (arith, kept.numbers j u there alive, kept.numbers id v at live)

    pub same_view : (j : ℕ) (u : View K E) → get_elem? s.views j ≡ some u → 1 ≤ u.number → u.number ≡ v.number → u ≡ v
    same_view j u there alive e = at_one s.views id u v (subst (λ (k : ℕ). get_elem? s.views k ≡ some u) (same_place j u there alive e) there) at

    pub number_made : IsMade (length s.views) v.number
    number_made = (live, omega (arith, kept.numbers id v at live, at_below s.views id v at))

    -- the acting pass isn't one that was joined away
    not_gone : (number : ℕ) → IsSpent s.views number → number ≢ v.number
    not_gone number h e =
        let here : number - 1 ≡ id = omega (arith, kept.numbers id v at live) in
        let is : h.1 ≡ v = at_one s.views id h.1 v (subst (λ (k : ℕ). get_elem? s.views k ≡ some h.1) here h.2) at in
        omega (arith, ap (λ (x : View K E). x.number) is, h.3)

    -- what a step makes of the turn, the slot, the tale and the view of the acting pass, and why the rule stays
    pub record Change (turn : ℕ) (home : Maybe (Option T)) (tale added seen own : List E) (tries : List ℕ) (holds : Bool) : Type 0 where
      pub grown : tale ≡ kept.tale ++ added
      pub mine : All (λ e. who e ≡ v.number) added
      pub saw : IsPrefix seen tale
      pub longest : (seen ≡ tale) ⊎ ((kept.tale ≡ tale) × (seen ≡ v.seen))
      pub owns : own ≡ v.own ++ added
      pub found : All (λ n. (n ≤ length s.views) × (n ≢ v.number)) tries
      pub named : 1 ≤ turn → ((v.number ≡ turn) × (holds ≡ true)) ⊎ ((kept.turn ≡ turn) × (v.holds ≡ true → holds ≡ true))
      pub here : holds ≡ true → (turn ≡ v.number) × (seen ≡ tale)
      pub others : (j : ℕ) (u : View K E) → j ≢ id → get_elem? s.views j ≡ some u → 1 ≤ u.number → u.holds ≡ true → (turn ≡ u.number) × (u.seen ≡ tale)
      pub away : 1 ≤ turn → home ≡ none
      pub value : turn ≡ 0 → (x : T) × (home ≡ some (Some x)) × (key_of x ≡ key_of about.first.value) × (tale_of x ≡ tale)

    module _ (turn : ℕ) (home : Maybe (Option T)) (tale added seen own : List E) (tries : List ℕ) (holds : Bool) (c : Change turn home tale added seen own tries holds) where
      abbrev w : View K E
      w = changed v seen own tries holds

      abbrev views : List (View K E)
      views = set s.views id w

      as_many : length views ≡ length s.views
      as_many = length-set s.views id w

      stands : get_elem? views id ≡ some w
      stands = set_here s.views id w (at_below s.views id v at)

      still_longest : SomeLive views (λ u. u.seen ≡ tale)
      still_longest = ⊎_elim
          (λ e. (id, w, stands, live, e))
          (λ t. some_set s.views id v w (λ u. u.seen ≡ kept.tale) (λ u. u.seen ≡ tale) at live (λ u e. e ∙ t.0) (λ e. t.1 ∙ (e ∙ t.0)) kept.longest)
          c.longest

      still_named : 1 ≤ turn → SomeLive views (λ u. (u.number ≡ turn) × (u.holds ≡ true))
      still_named some_turn = ⊎_elim
          (λ t. (id, w, stands, live, t))
          (λ t. let old = kept.named (omega (arith, t.0)) in
          some_set s.views id v w (λ u. (u.number ≡ kept.turn) × (u.holds ≡ true)) (λ u. (u.number ≡ turn) × (u.holds ≡ true)) at live (λ u h. (h.0 ∙ t.0, h.1)) (λ h. (h.0 ∙ t.0, t.1 h.1)) old)
          (c.named some_turn)

      gone_stays : (other : Joined E) → IsGone who kept.turn kept.tale s.views other → IsGone who turn tale views other
      gone_stays other h = record {
        spent = spent_set s.views id v w other.number at live h.spent;
        idle = λ e. ⊎_elim (λ t. not_gone other.number h.spent (sym e ∙ sym t.0)) (λ t. h.idle (t.0 ∙ e)) (c.named (omega (arith, e, h.spent.0)));
        own = own_stays who v.number other.number (not_gone other.number h.spent) kept.tale tale added c.grown c.mine ∙ h.own;
      }

      past_stays : (past : List E) → IsPrefix past kept.tale → IsPrefix past tale
      past_stays past p = prefix_grows past kept.tale tale added c.grown p

      pub keeps : (words : List ℕ) (homes : List (Maybe (Option T))) → words ≡ turn ∷ length tale ∷ [] → homes ≡ home ∷ [] → Rule record { words = words; homes = homes; views = views }
      keeps ws hs ws-is hs-is = record {
        turn = turn;
        home = home;
        tale = tale;
        words = ws-is;
        homes = hs-is;
        named = still_named;
        holder = each_set s.views id w _ _ kept.holder (λ j u ne there alive _. c.others j u ne there alive) (λ _. c.here);
        away = c.away;
        value = c.value;
        keys = each_set s.views id w _ _ kept.keys (λ j u ne there alive k. k) (λ _. kept.keys id v at live);
        made = each_set s.views id w _ _ kept.made (λ j u ne there alive m z. m z ∙ sym as_many) (λ _ z. kept.made id v at live z ∙ sym as_many);
        most = omega (arith, kept.most, as_many);
        numbers = each_set s.views id w _ _ kept.numbers (λ j u ne there alive n. n) (λ _. kept.numbers id v at live);
        entries = subst (λ (es : List E). All (λ e. IsMade (length views) (who e)) es) (sym c.grown) (subst (λ (n : ℕ). All (λ e. IsMade n (who e)) (kept.tale ++ added)) (sym as_many)
            (All-append (λ e. IsMade (length s.views) (who e)) kept.tale added kept.entries (All-weaker (λ e. who e ≡ v.number) (λ e. IsMade (length s.views) (who e)) (λ e is. subst (IsMade (length s.views)) (sym is) number_made) added c.mine)));
        longest = still_longest;
        seen = each_set s.views id w _ _ kept.seen (λ j u ne there alive p. prefix_grows u.seen kept.tale tale added c.grown p) (λ _. c.saw);
        had_seen = each_set s.views id w _ _ kept.had_seen (λ j u ne there alive a. All-weaker _ _ past_stays u.had_seen a) (λ _. All-weaker _ _ past_stays v.had_seen (kept.had_seen id v at live));
        own = each_set s.views id w _ _ kept.own
            (λ j u ne there alive o. own_stays who v.number u.number (λ e. ne (same_place j u there alive e)) kept.tale tale added c.grown c.mine ∙ o)
            (λ _. own_grows who v.number kept.tale tale added v.own c.grown c.mine (kept.own id v at live) ∙ sym c.owns);
        tries = each_set s.views id w _ _ kept.tries
            (λ j u ne there alive t. subst (λ (n : ℕ). All (λ found. (found ≤ n) × (found ≢ u.number)) u.tries) (sym as_many) t)
            (λ _. subst (λ (n : ℕ). All (λ found. (found ≤ n) × (found ≢ v.number)) tries) (sym as_many) c.found);
        joined = each_set s.views id w _ _ kept.joined (λ j u ne there alive a. All-weaker _ _ gone_stays u.joined a) (λ _. All-weaker _ _ gone_stays v.joined (kept.joined id v at live));
        gone = λ number h. some_set s.views id v w _ _ at live (λ u is. is) (λ is. is) (kept.gone number (was_spent s.views id w number live h));
        together = omega (arith, sum_set represented s.views id v w at, kept.together, as_many);
      }
