-- A turn as it is made keeps the rule.
use Rattle.std.proofs.Common.{◌≡◌, ◌≢◌, ℕ, zero, suc, ◌-◌, ◌≤◌, List, [], ◌∷◌, Option, Some, refl, sym, ap, subst, arith}
use Rattle.std.proofs.lemmas.List.Elements.{All-nil}
use mathlib.Core.Option.{some, some-injective, some-ne-none}
use mathlib.Core.List.{IsPrefix}
use lib.ListN.{get_elem?}
use base.Growing.{prefix_refl}
use Rattle.atomic_table.specs.Table.{State, opening}
use Rattle.spf_turn.specs.Tale.{IsMade}
use Rattle.spf_turn.specs.Rule.{EachLive, IsGone, IsKept}
use Rattle.spf_turn.specs.Steps.{first_view}
use Rattle.spf_turn.specs.declared.view.View.{View}
use Rattle.spf_turn.specs.declared.board.About.{About}

module _ {T K E : Type 0} (key_of : T → K) (tale_of : T → List E) (who : E → ℕ) (about : About T) where
  abbrev Board : Type 0
  Board = State (Option T) (View K E)

  abbrev Rule : Board → Type 0
  Rule = IsKept key_of tale_of who about

  -- with one view, each view is that one
  the_one : (v u : View K E) (j : ℕ) → get_elem? (v ∷ []) j ≡ some u → (j ≡ 0) × (v ≡ u)
  the_one v u zero at = (refl, some-injective v u at)
  the_one v u (suc j) at = absurd (some-ne-none u (sym at))

  each_one : (v : View K E) (P : ℕ → View K E → Type 0) → P 0 v → EachLive (v ∷ []) P
  each_one v P here j u at live = let t = the_one v u j at in subst (λ (k : ℕ). P k u) (sym t.0) (subst (λ (x : View K E). P 0 x) t.1 here)

  pub opens : (x : T) → x ≡ about.first.value → tale_of x ≡ [] → 1 ≤ about.passes → Rule (opening (0 ∷ 0 ∷ []) (Some x ∷ []) (first_view (key_of about.first.value) about.passes))
  opens x is tale some_pass =
      let v : View K E = first_view (key_of about.first.value) about.passes in record {
        turn = 0;
        home = some (Some x);
        tale = [];
        words = refl;
        homes = refl;
        named = λ h. absurd (omega arith);
        holder = each_one v _ (λ h. absurd (cc h));
        away = λ h. absurd (omega arith);
        value = λ _. (x, refl, ap key_of is, tale);
        keys = each_one v _ (refl, refl);
        made = each_one v _ (λ _. refl);
        most = some_pass;
        numbers = each_one v _ refl;
        entries = All-nil (λ (e : E). IsMade 1 (who e));
        longest = (0, v, refl, omega arith, refl);
        seen = each_one v _ (prefix_refl []);
        had_seen = each_one v _ (All-nil (λ past. IsPrefix past []));
        own = each_one v _ refl;
        tries = each_one v _ (All-nil (λ n. (n ≤ 1) × (n ≢ 1)));
        joined = each_one v _ (All-nil (IsGone who 0 [] (v ∷ [])));
        gone = λ number h. absurd (omega (arith, h.3, ap (λ (u : View K E). u.number) (the_one v h.1 (number - 1) h.2).1));
        together = refl;
      }
