use Rattle.std.proofs.Common.{◌≡◌, ℕ, ◌%◌, ◌<◌, slice_get, Some, arith, ap, sym, ◌∙◌, subst}
use Rattle.spf_store.specs.Behavior.{Sourced, source_behavior}
use Rattle.spf_store.proofs.UnitAt.{list_read, listed}
use Rattle.spf_source.proofs.source_units.SourceUnits.touches_at.Goals as goal

pub nonzero_rem-unit : goal.nonzero_rem-unit
nonzero_rem-unit c =
    let inside = subst (λ (of : Sourced). c.args.unit < (source_behavior of.env of.tree of.steps).count) (sym c.self.view_is) c.requires in
    let there = listed c.self.inside.env.now c.self.inside.kernel.now c.self.inside.shape.now.steps c.args.unit inside c.self.inside.touches.now c.self.invariant.touches_are in
    omega (arith, c.locals.ensures, there.0)

pub of-requires : goal.of-requires
of-requires c =
    let inside = subst (λ (of : Sourced). c.args.unit < (source_behavior of.env of.tree of.steps).count) (sym c.self.view_is) c.requires in
    let there = listed c.self.inside.env.now c.self.inside.kernel.now c.self.inside.shape.now.steps c.args.unit inside c.self.inside.touches.now c.self.invariant.touches_are in
    rw c.locals.ensures there.1

pub returns-clause-touches : goal.returns-clause-touches
returns-clause-touches c =
    let lists = c.self.inside.touches.now in
    let inside = subst (λ (of : Sourced). c.args.unit < (source_behavior of.env of.tree of.steps).count) (sym c.self.view_is) c.requires in
    let read = subst (λ (n : ℕ). slice_get lists (c.args.unit % n) ≡ Some c.of.result.now) c.locals.ensures c.of.ensures.list in
    list_read c.self.inside.env.now c.self.inside.kernel.now c.self.inside.shape.now.steps c.args.unit inside lists c.of.result.now c.self.invariant.touches_are read
    ∙ ap (λ (of : Sourced). (source_behavior of.env of.tree of.steps).touches c.args.unit) c.self.view_is
