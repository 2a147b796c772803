use Rattle.std.proofs.Common.{◌≡◌, ◌<◌, List, slice_get, Some, ap, sym, ◌∙◌, subst}
use Rattle.spf_touch.specs.Frame.{IsTouched, after_unit}
use Rattle.spf_space.specs.Units.{units_of}
use Rattle.spf_space.specs.declared.shape.LoopShape.{LoopShape}
use Rattle.spf_space.proofs.Textual.{stood}
use Rattle.spf_store.specs.Behavior.{Sourced, source_behavior}
use Rattle.spf_source.proofs.Ascending.{unit_done, unit_own, unit_range}
use Rattle.spf_source.proofs.source_units.SourceUnitsUnits.run.Goals as goal

pub run_unit-requires-clause-unit : goal.run_unit-requires-clause-unit
run_unit-requires-clause-unit g c = (stood c.self.inside.shape.now.steps c.self.inside.shape.now.loops c.args.unit c.split-unit.result c.split-unit.ensures).0

pub run_unit-requires-clause-range : goal.run_unit-requires-clause-range
run_unit-requires-clause-range g c =
    let steps = c.self.inside.shape.now.steps in
    let inside = subst (λ (of : Sourced). c.args.unit < (source_behavior of.env of.tree of.steps).count) (sym c.self.view_is) c.requires.unit in
    let at = subst (λ (loops : List LoopShape). slice_get (units_of steps loops) c.args.unit ≡ Some c.split-unit.result) c.self.invariant.shape_is.loops c.split-unit.ensures in
    unit_range c.self.inside.env.now c.self.inside.kernel.now steps c.args.unit inside c.split-unit.result at c.self.invariant.range

pub run_unit-requires-clause-own : goal.run_unit-requires-clause-own
run_unit-requires-clause-own g c =
    let steps = c.self.inside.shape.now.steps in
    let inside = subst (λ (of : Sourced). c.args.unit < (source_behavior of.env of.tree of.steps).count) (sym c.self.view_is) c.requires.unit in
    let at = subst (λ (loops : List LoopShape). slice_get (units_of steps loops) c.args.unit ≡ Some c.split-unit.result) c.self.invariant.shape_is.loops c.split-unit.ensures in
    unit_own c.self.inside.env.now c.self.inside.kernel.now steps c.args.unit inside c.split-unit.result at (g.C.Cells.own c.args.cells.now)
    (λ e touched. c.requires.own e (subst (λ (of : Sourced). IsTouched ((source_behavior of.env of.tree of.steps).touches c.args.unit) e) c.self.view_is touched))

pub returns-clause-effect : goal.returns-clause-effect
returns-clause-effect g c e =
    let steps = c.self.inside.shape.now.steps in
    let values = g.C.Cells.value c.args.cells.now in
    let inside = subst (λ (of : Sourced). c.args.unit < (source_behavior of.env of.tree of.steps).count) (sym c.self.view_is) c.requires.unit in
    let at = subst (λ (loops : List LoopShape). slice_get (units_of steps loops) c.args.unit ≡ Some c.split-unit.result) c.self.invariant.shape_is.loops c.split-unit.ensures in
    c.run_unit.ensures.effect e
    ∙ unit_done c.self.inside.env.now c.self.inside.kernel.now steps c.args.unit inside c.split-unit.result at values e
    ∙ ap (λ (of : Sourced). after_unit (source_behavior of.env of.tree of.steps) c.args.unit values e) c.self.view_is
