use Rattle.std.proofs.Common.{◌≡◌, ◌∙◌, ap, true, subst}
use Rattle.spf_touch.specs.Actions.{performed}
use Rattle.spf_touch.specs.Frame.{IsTouched}
use Rattle.spf_touch.specs.Ops.{actions_of, op_touches, ops_of}
use Rattle.spf_touch.proofs.ActionEffects.{actions_effect}
use Rattle.spf_touch.proofs.Performed.{ops_own}
use Rattle.spf_touch.proofs.op_units.OpUnitsUnits.run.Goals as goal

pub perform_all-requires : goal.perform_all-requires
perform_all-requires g c = ops_own (λ e. g.C.Cells.own c.args.cells.now e ≡ true) c.ops_at.result.now (λ e t. c.requires.own e (subst (λ ops. IsTouched (op_touches ops) e) c.ops_at.ensures t))

pub returns-clause-effect : goal.returns-clause-effect
returns-clause-effect g c e =
    c.perform_all.ensures.value e ∙ ap (λ ops. performed (actions_of ops) (g.C.Cells.value c.args.cells.now) e) c.ops_at.ensures ∙
    actions_effect (actions_of (ops_of c.args.self.now c.args.unit)) (g.C.Cells.value c.args.cells.now) e
