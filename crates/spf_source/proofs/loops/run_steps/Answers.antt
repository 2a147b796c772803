use Rattle.std.proofs.Common.{ℕ, ℤ, ◌+◌, subst, sym}
use Rattle.spf_space.specs.Units.{loops_units, units_of}
use Rattle.spf_store.specs.Shaped.{loops_of}
use Rattle.spf_store.specs.Source.{units_effect}
use Rattle.spf_source.proofs.UnitRows.{first_step, last_step, next_step, steps_left}
use Rattle.spf_source.proofs.Way.{OnTheWay, arrived, set_out, went_on}
use Rattle.spf_source.proofs.loops.run_steps.Goals as goal

pub loop-step-init : goal.loop-step-init
loop-step-init g c =
    let env = c.args.given.now.env.now in
    let tree = c.args.tree.now in
    let whole = units_effect env tree (units_of c.args.steps (loops_of env tree)) in
    subst (λ (rest : (ℕ → ℤ) → ℕ → ℤ). OnTheWay g.C.Cells.own g.C.Cells.value g.C.Cells.kept c.args.cells.now c.args.cells.now whole rest) (sym (first_step env tree c.args.steps))
    (set_out g.C.Cells.own g.C.Cells.value g.C.Cells.kept g.met.C.Cells.kept_at_first c.args.cells.now whole)

pub loop-step-preserved : goal.loop-step-preserved
loop-step-preserved g c =
    let env = c.args.given.now.env.now in
    let tree = c.args.tree.now in
    went_on g.C.Cells.own g.C.Cells.value g.C.Cells.kept g.met.C.Cells.kept_on c.args.cells.now c.loop-step.cells c.run_step.new.cells _ _
    (units_effect env tree (loops_units 0 0 (loops_of env tree))) (steps_left env tree c.args.steps (c.loop-step._step + 1))
    (next_step env tree c.args.steps c.loop-step._step c.loop-step-test.true) c.loop-step.invariant c.run_step.ensures

pub returns : goal.returns
returns g c =
    arrived g.C.Cells.own g.C.Cells.value g.C.Cells.kept c.args.cells.now c.loop-step.cells _ _
    (last_step c.args.given.now.env.now c.args.tree.now c.args.steps c.loop-step._step c.loop-step-test.false) c.loop-step.invariant
