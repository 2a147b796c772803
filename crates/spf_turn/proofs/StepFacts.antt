-- What each of the four steps on a word changes, and why the rule stays.
use Rattle.std.proofs.Common.{◌≡◌, ◌≢◌, ℕ, ◌≤◌, inl, inr, true, false, List, [], ◌∷◌, ◌++◌, length, Option, Some, All, refl, sym, ap, ◌∙◌, subst, arith}
use Rattle.std.proofs.lemmas.List.{append-nil}
use Rattle.std.proofs.lemmas.List.Elements.{All-nil, All-push}
use mathlib.Core.Option.{none, some}
use mathlib.Core.List.{IsPrefix}
use lib.ListN.{get_elem?}
use base.Growing.{prefix_refl}
use Rattle.atomic_table.specs.Table.{State, Me}
use Rattle.spf_turn.specs.Tale.{IsMade}
use Rattle.spf_turn.specs.Rule.{IsKept}
use Rattle.spf_turn.specs.declared.view.View.{View}
use Rattle.spf_turn.specs.declared.board.About.{About}
use Rattle.spf_turn.proofs.Changes.{Change, same_place, same_view, number_made}

module _ {T K E : Type 0} (key_of : T → K) (tale_of : T → List E) (who : E → ℕ) (about : About T) where
  abbrev Board : Type 0
  Board = State (Option T) (View K E)

  abbrev Rule : Board → Type 0
  Rule = IsKept key_of tale_of who about

  abbrev Holding : Type 0
  Holding = Me (Option T) (View K E)

  -- no entry is added
  no_more : (n : ℕ) → All (λ (e : E). who e ≡ n) []
  no_more n = All-nil (λ (e : E). who e ≡ n)

  module _ (s : Board) (kept : Rule s) (id : ℕ) (v : View K E) (at : get_elem? s.views id ≡ some v) (live : 1 ≤ v.number) where
    same_tale : kept.tale ≡ kept.tale ++ []
    same_tale = sym (append-nil kept.tale)

    same_own : v.own ≡ v.own ++ []
    same_own = sym (append-nil v.own)

    -- where the acting pass holds the turn, no other does
    only_holder : v.holds ≡ true → (j : ℕ) (u : View K E) → j ≢ id → get_elem? s.views j ≡ some u → 1 ≤ u.number → u.holds ≡ true → ⊥
    only_holder holds j u ne there alive holds' = ne (same_place key_of tale_of who about s kept id v at live j u there alive (sym (kept.holder j u there alive holds').0 ∙ (kept.holder id v at live holds).0))

    -- the try found the turn free
    pub takes_turn : (new : ℕ) → new ≡ v.number → (x : T) → kept.turn ≡ 0 → key_of x ≡ key_of about.first.value → tale_of x ≡ kept.tale
        → Change key_of tale_of who about s kept id v at live new none kept.tale [] (tale_of x) v.own (v.tries ++ 0 ∷ []) true
    takes_turn new is x zero-is key tale = record {
      grown = same_tale;
      mine = no_more v.number;
      saw = subst (λ es. IsPrefix es kept.tale) (sym tale) (prefix_refl kept.tale);
      longest = inl tale;
      owns = same_own;
      found = All-push (λ n. (n ≤ length s.views) × (n ≢ v.number)) v.tries 0 (kept.tries id v at live) (omega arith, λ e. omega (arith, e));
      named = λ _. inl (sym is, refl);
      here = λ _. (is, tale);
      others = λ j u ne there alive holds. absurd (omega (arith, (kept.holder j u there alive holds).0));
      away = λ _. refl;
      value = λ z. absurd (omega arith);
    }

    -- the try found another pass
    pub other_holder : v.holds ≡ false → 1 ≤ kept.turn → IsMade (length s.views) kept.turn × (kept.turn ≢ v.number)
    other_holder free some_turn =
        let h = kept.named some_turn in
        let made : IsMade (length s.views) h.1.number = number_made key_of tale_of who about s kept h.0 h.1 h.2 h.3 in (
          subst (IsMade (length s.views)) h.4.0 made,
          λ e. let same : h.1 ≡ v = same_view key_of tale_of who about s kept id v at live h.0 h.1 h.2 h.3 (h.4.0 ∙ e) in absurd (cc (sym h.4.1 ∙ (ap (λ (u : View K E). u.holds) same ∙ free))),
        )

    pub misses_turn : v.holds ≡ false → 1 ≤ kept.turn → Change key_of tale_of who about s kept id v at live kept.turn kept.home kept.tale [] v.seen v.own (v.tries ++ kept.turn ∷ []) v.holds
    misses_turn free some_turn = record {
      grown = same_tale;
      mine = no_more v.number;
      saw = kept.seen id v at live;
      longest = inr (refl, refl);
      owns = same_own;
      found = let h = other_holder free some_turn in All-push (λ n. (n ≤ length s.views) × (n ≢ v.number)) v.tries kept.turn (kept.tries id v at live) (h.0.1, h.1);
      named = λ _. inr (refl, λ h. h);
      here = kept.holder id v at live;
      others = λ j u ne there alive holds. kept.holder j u there alive holds;
      away = kept.away;
      value = kept.value;
    }

    pub looks_on : Change key_of tale_of who about s kept id v at live kept.turn kept.home kept.tale [] kept.tale v.own v.tries v.holds
    looks_on = record {
      grown = same_tale;
      mine = no_more v.number;
      saw = prefix_refl kept.tale;
      longest = inl refl;
      owns = same_own;
      found = kept.tries id v at live;
      named = λ _. inr (refl, λ h. h);
      here = λ holds. ((kept.holder id v at live holds).0, refl);
      others = λ j u ne there alive holds. kept.holder j u there alive holds;
      away = kept.away;
      value = kept.value;
    }

    pub gives_turn : (x : T) → v.holds ≡ true → key_of x ≡ key_of about.first.value → tale_of x ≡ v.seen
        → Change key_of tale_of who about s kept id v at live 0 (some (Some x)) kept.tale [] v.seen v.own v.tries false
    gives_turn x holds key tale = record {
      grown = same_tale;
      mine = no_more v.number;
      saw = kept.seen id v at live;
      longest = inr (refl, refl);
      owns = same_own;
      found = kept.tries id v at live;
      named = λ h. absurd (omega arith);
      here = λ e. absurd (cc e);
      others = λ j u ne there alive holds'. absurd (only_holder holds j u ne there alive holds');
      away = λ h. absurd (omega arith);
      value = λ _. (x, refl, key, tale ∙ (kept.holder id v at live holds).1);
    }

    pub adds_entry : (x : T) (e : E) → v.holds ≡ true → tale_of x ≡ v.seen ++ e ∷ [] → who e ≡ v.number
        → Change key_of tale_of who about s kept id v at live kept.turn kept.home (tale_of x) (e ∷ []) (tale_of x) (v.own ++ e ∷ []) v.tries v.holds
    adds_entry x e holds tale is = let h = kept.holder id v at live holds in record {
      grown = tale ∙ ap (λ es. es ++ e ∷ []) h.1;
      mine = All-push (λ (y : E). who y ≡ v.number) [] e (no_more v.number) is;
      saw = prefix_refl (tale_of x);
      longest = inl refl;
      owns = refl;
      found = kept.tries id v at live;
      named = λ _. inr (refl, λ t. t);
      here = λ _. (h.0, refl);
      others = λ j u ne there alive holds'. absurd (only_holder holds j u ne there alive holds');
      away = kept.away;
      value = λ z. absurd (omega (arith, h.0));
    }
