use Rattle.std.proofs.Common.{◌<◌, ℕ, List, Option, None, get_or, ap, sym, ◌∙◌, subst}
use Rattle.spf_touch.specs.Frame.{IsTouched, after_unit}
use Rattle.spf_touch.specs.Renaming.{renamed_units}
use Rattle.spf_space.specs.declared.unit.Unit.{Unit}
use Rattle.spf_store.specs.Accesses.{accesses_of}
use Rattle.spf_store.specs.Behavior.{source_behavior}
use Rattle.spf_store.specs.Needs.{OwnsAll}
use Rattle.spf_store.specs.Shaped.{starts_of}
use Rattle.spf_exec.specs.Executor.{moved_to}
use Rattle.spf_exec.specs.Meaning.{executor_trace}
use Rattle.spf_exec.specs.Running.{Executed, executor_behavior}
use Rattle.spf_exec.specs.declared.program.Body.{Body}
use Rattle.spf_exec.proofs.AtUnit.{done, few, has_body, has_position, its, its_allowed, its_bound, its_range, renaming, small, unit_is}
use Rattle.spf_exec.proofs.runner.RunnerUnits.run.Goals as goal

pub moved_to-position-requires : goal.moved_to-position-requires
moved_to-position-requires g c =
    let inside = subst (λ (of : Executed). c.args.unit < (executor_behavior of).count) (sym c.self.view_is) c.requires.unit in
    rw c.as_slice.ensures (has_position c.self.invariant c.self.inside.perms c.args.unit inside c.split-unit.result c.split-unit.ensures)

pub bounds-as_slice-number : goal.bounds-as_slice-number
bounds-as_slice-number g c =
    let inside = subst (λ (of : Executed). c.args.unit < (executor_behavior of).count) (sym c.self.view_is) c.requires.unit in
    rw c.as_slice-2.ensures (has_body c.self.invariant c.self.inside.perms c.args.unit inside c.split-unit.result c.split-unit.ensures)

pub run_at-requires : goal.run_at-requires
run_at-requires g c =
    let s = c.self.inside in
    let is = c.self.invariant in
    let env = s.source.now in
    let tree = s.kernel.now in
    let inside = subst (λ (of : Executed). c.args.unit < (executor_behavior of).count) (sym c.self.view_is) c.requires.unit in
    let unit : Unit = c.split-unit.result in
    let at = c.split-unit.ensures in
    let body : Body = c.index-as_slice-number.result in
    let of = c.index-as_slice-number.is ∙ ap (λ (bodies : List Body). get_or bodies unit.loop_no body) c.as_slice-2.ensures in
    let there = c.moved_to-position.ensures ∙ ap (λ (moves : List (Option (List ℕ))). moved_to (get_or moves unit.loop_no None) unit.position) c.as_slice.ensures in
    let to = renaming is s.perms c.args.unit inside unit at in
    let bound = its_bound is s.perms c.args.unit inside unit at in
    let of_loop = its is s.perms c.args.unit inside unit at in
    let owns = g.C.Cells.own c.args.cells.now in
    let own = c.executor_runs_renamed_units.ensures.own env tree s.moved is.orders is.packings to s.shape.now.steps c.args.unit bound is.sourced.range inside owns
    (λ e touched. c.requires.own e (subst (λ (of : Executed). IsTouched ((executor_behavior of).touches c.args.unit) e) c.self.view_is touched)) in
    let allowed = c.executor_units_are_renamed.ensures.allowed env tree s.moved is.orders is.packings to unit bound of_loop (its_range is s.perms c.args.unit inside unit at) owns
    (subst (λ (of : Unit). OwnsAll owns (accesses_of (starts_of env tree) (executor_trace env tree s.moved is.orders is.packings of))) (unit_is is s.perms c.args.unit inside unit at) own) in
    record {
      small = rw c.as_slice-4.ensures (small is s.perms c.args.unit inside unit at body of c.moved_to-position.result there (c.executor_items_are_small.ensures env tree s.moved is.orders is.packings to unit bound of_loop));
      few = rw c.as_slice-4.ensures (few is s.perms c.args.unit inside unit at body of c.moved_to-position.result there);
      allows = rw (c.as_slice-3.ensures.value, c.as_slice-4.ensures) (its_allowed is s.perms c.args.unit inside unit at body of c.moved_to-position.result there owns allowed);
    }

pub returns-clause-effect : goal.returns-clause-effect
returns-clause-effect g c e =
    let s = c.self.inside in
    let is = c.self.invariant in
    let env = s.source.now in
    let tree = s.kernel.now in
    let inside = subst (λ (of : Executed). c.args.unit < (executor_behavior of).count) (sym c.self.view_is) c.requires.unit in
    let unit : Unit = c.split-unit.result in
    let at = c.split-unit.ensures in
    let body : Body = c.index-as_slice-number.result in
    let of = c.index-as_slice-number.is ∙ ap (λ (bodies : List Body). get_or bodies unit.loop_no body) c.as_slice-2.ensures in
    let there = c.moved_to-position.ensures ∙ ap (λ (moves : List (Option (List ℕ))). moved_to (get_or moves unit.loop_no None) unit.position) c.as_slice.ensures in
    let to = renaming is s.perms c.args.unit inside unit at in
    let values = g.C.Cells.value c.args.cells.now in
    let law = c.executor_runs_renamed_units.ensures.effect env tree s.moved is.orders is.packings to s.shape.now.steps c.args.unit (its_bound is s.perms c.args.unit inside unit at) is.sourced.range inside values in
    let made = after_unit (renamed_units to (source_behavior env tree s.shape.now.steps)) c.args.unit values in
    done is s.perms c.args.unit inside unit at body of c.moved_to-position.result there
    c.as_slice-3.result.now c.as_slice-4.result.now c.as_slice-3.ensures.value c.as_slice-4.ensures values made law e (g.C.Cells.value c.run_at.new.cells e) (c.run_at.ensures.values e)
    ∙ ap (λ (of : Executed). after_unit (executor_behavior of) c.args.unit values e) c.self.view_is
