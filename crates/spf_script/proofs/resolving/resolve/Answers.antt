use Rattle.std.proofs.lemmas.List.Elements.{All-map}
use Rattle.spf_script.specs.Resolved.{IsStepFor, resolved}
use Rattle.spf_script.proofs.Fitting.{steps_fit, tiles_once}
use Rattle.spf_script.proofs.resolving.resolve.Goals as goal

pub resolve_steps-requires : goal.resolve_steps-requires
resolve_steps-requires c =
    steps_fit c.args.shape.now c.args.plugs c.steps-steps.result.now (c.in_ok-test_rules.ensures) (rw c.parts_in-count.ensures at c.if-count-gt-MOST_PARTS.false)

pub returns-clause-fitting : goal.returns-clause-fitting
returns-clause-fitting c =
    let fit = steps_fit c.args.shape.now c.args.plugs c.steps-steps.result.now (c.in_ok-test_rules.ensures) (rw c.parts_in-count.ensures at c.if-count-gt-MOST_PARTS.false) in
    rw c.in_ok-resolve_steps.ensures (All-map (IsStepFor c.args.shape.now c.args.plugs) (resolved c.args.shape.now) c.steps-steps.result.now fit)

pub returns-clause-once : goal.returns-clause-once
returns-clause-once c = rw c.in_ok-resolve_steps.ensures (tiles_once c.args.shape.now c.args.plugs c.steps-steps.result.now c.in_ok-test_rules.ensures)
