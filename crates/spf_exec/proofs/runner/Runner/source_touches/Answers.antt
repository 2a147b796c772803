use Rattle.std.proofs.Common.{◌≡◌, ℕ, ◌%◌, ◌<◌, slice_get, Some, arith, ap, sym, ◌∙◌, subst}
use Rattle.spf_store.specs.Behavior.{source_behavior}
use Rattle.spf_exec.specs.Running.{Executed, executor_behavior}
use Rattle.spf_store.proofs.UnitAt.{list_read, listed}
use Rattle.spf_exec.proofs.runner.Runner.source_touches.Goals as goal

pub nonzero_rem-unit : goal.nonzero_rem-unit
nonzero_rem-unit c =
    let inside = subst (λ (of : Executed). c.args.unit < (executor_behavior of).count) (sym c.self.view_is) c.requires in
    let there = listed c.self.inside.source.now c.self.inside.kernel.now c.self.inside.shape.now.steps c.args.unit inside c.self.inside.touches.now c.self.invariant.sourced.touches_are in
    omega (arith, c.locals.ensures, there.0)

pub of-requires : goal.of-requires
of-requires c =
    let inside = subst (λ (of : Executed). c.args.unit < (executor_behavior of).count) (sym c.self.view_is) c.requires in
    let there = listed c.self.inside.source.now c.self.inside.kernel.now c.self.inside.shape.now.steps c.args.unit inside c.self.inside.touches.now c.self.invariant.sourced.touches_are in
    rw c.locals.ensures there.1

pub returns-clause-touches : goal.returns-clause-touches
returns-clause-touches c =
    let lists = c.self.inside.touches.now in
    let inside = subst (λ (of : Executed). c.args.unit < (executor_behavior of).count) (sym c.self.view_is) c.requires in
    let read = subst (λ (n : ℕ). slice_get lists (c.args.unit % n) ≡ Some c.of.result.now) c.locals.ensures c.of.ensures.list in
    list_read c.self.inside.source.now c.self.inside.kernel.now c.self.inside.shape.now.steps c.args.unit inside lists c.of.result.now c.self.invariant.sourced.touches_are read
    ∙ ap (λ (of : Executed). (source_behavior of.source.env of.source.tree of.source.steps).touches c.args.unit) c.self.view_is
