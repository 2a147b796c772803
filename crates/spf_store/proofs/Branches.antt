-- How far a walk has come among the conditions of a guard.
use Rattle.std.proofs.Common.{◌≡◌, ℕ, ◌+◌, ◌<◌, ◌≤◌, ◌^◌, ℤ, Bool, true, false, List, [], ◌∷◌, All, refl, ap, sym, ◌∙◌, subst, arith, length, drop, get_or, cond, not}
use Rattle.std.proofs.lemmas.List.{drop_all, drop_more}
use Rattle.std.proofs.lemmas.List.Sums.{sum_by-cons}
use Rattle.std.specs.List.{sum_by}
use Rattle.spf_term.specs.Environment.{Environment}
use Rattle.spf_term.specs.Walk.{Through, StopsAt}
use Rattle.spf_kernel.specs.BodySites.{cond_sites}
use Rattle.spf_kernel.specs.declared.tree.Assign.{Assign}
use Rattle.spf_kernel.specs.declared.tree.Cond.{Cond}
use Rattle.spf_store.specs.Event.{Event}
use Rattle.spf_store.specs.Trace.{assigns_trace, branch_trace, cond_trace, holds}
use Rattle.spf_store.proofs.OnTheWay.{OnTheWay, Stays, arrived, part_may, set_out, stopped, went_on}

pub holds_so : (b : Bool) → not b ≡ false → b ≡ true
holds_so true h = refl
holds_so false h = cc

pub fails : (b : Bool) → not b ≡ true → b ≡ false
fails true h = cc
fails false h = refl

module _ {S : Type 0} (accepts : S → Event → S → Type 0) (may : S → Event → Type 0) (env : Environment) (variables : List ℤ) (before : S) (site : ℕ) (conds : List Cond) (body : List Assign) where
  abbrev traced : ℕ → List Cond → List Event
  traced next rest = branch_trace env variables next rest body

  -- these conditions are still to come, the first of them at this site
  pub record AmongConds (now : S) (next : ℕ) (rest : List Cond) : Type 0 where
    pub way : OnTheWay accepts may before (traced site conds) (traced next rest) now
    pub number : next + sum_by cond_sites rest ≡ site + sum_by cond_sites conds

  pub at_first : All (may before) (traced site conds) → AmongConds before site conds
  at_first may = record { way = set_out accepts _ may; number = refl }

  module _ {now : S} {next : ℕ} (index : ℕ) (one : Cond) (inside : index < length conds) (at : one ≡ get_or conds index one) (among : AmongConds now next (drop index conds)) where
    abbrev others : List Cond
    others = drop (index + 1) conds

    -- what follows where the condition holds, and where it doesn't
    abbrev rest_if : Bool → List Event
    rest_if b = cond b (traced (next + cond_sites one) others) []

    here : AmongConds now next (one ∷ others)
    here = subst (AmongConds now next) (drop_more conds index one inside ∙ ap (λ (first : Cond). first ∷ others) (sym at)) among

    pub may_cond : All (may now) (cond_trace env variables next one)
    may_cond = part_may accepts may (cond_trace env variables next one) (rest_if (holds env variables one)) here.way

    pub cond_numbered : (more : ℕ) → site + (sum_by cond_sites conds + more) < 2 ^ 32 → next + cond_sites one < 2 ^ 32
    cond_numbered more low = omega (arith, low, here.number, sum_by-cons cond_sites one others)

    pub cond_stopped : {R : Type 0} {refuses : S → Event → R → Type 0} {stop : R} → StopsAt accepts refuses now (cond_trace env variables next one) stop → StopsAt accepts refuses before (traced site conds) stop
    cond_stopped at = stopped accepts may (cond_trace env variables next one) (rest_if (holds env variables one)) here.way at

    module _ (stays : Stays accepts may) where
      behind : (after : S) → Through accepts now (cond_trace env variables next one) after → OnTheWay accepts may before (traced site conds) (rest_if (holds env variables one)) after
      behind after through = went_on accepts may stays (cond_trace env variables next one) (rest_if (holds env variables one)) here.way through

      pub held : (after : S) (last : ℕ) → Through accepts now (cond_trace env variables next one) after → holds env variables one ≡ true → last ≡ next + cond_sites one → AmongConds after last others
      held after last through true_here is = record {
        way = subst (λ (number : ℕ). OnTheWay accepts may before (traced site conds) (traced number others) after) (sym is)
            (subst (λ (b : Bool). OnTheWay accepts may before (traced site conds) (rest_if b) after) true_here (behind after through));
        number = omega (arith, is, here.number, sum_by-cons cond_sites one others);
      }

      pub failed : (after : S) → Through accepts now (cond_trace env variables next one) after → holds env variables one ≡ false → Through accepts before (traced site conds) after
      failed after through false_here =
          arrived accepts may (subst (λ (b : Bool). OnTheWay accepts may before (traced site conds) (rest_if b) after) false_here (behind after through))

  pub at_body : {now : S} {next : ℕ} (index : ℕ) → length conds ≤ index → AmongConds now next (drop index conds) →
      OnTheWay accepts may before (traced site conds) (assigns_trace env variables next body) now
  at_body {now = now} {next = next} index past among =
      subst (λ (rest : List Cond). OnTheWay accepts may before (traced site conds) (traced next rest) now) (drop_all index conds past) among.way
