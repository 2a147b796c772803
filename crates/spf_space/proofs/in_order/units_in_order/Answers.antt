use Rattle.std.proofs.Common.{List, map, sym, ap, subst, ◌∙◌}
use Rattle.std.proofs.lemmas.Result.{IfOk-weaker}
use Rattle.spf_space.specs.InOrder.{AreInOrder}
use Rattle.spf_space.specs.declared.in_order.Turn.{Turn}
use Rattle.spf_space.proofs.InOrder.{units_ordered}
use Rattle.spf_space.proofs.in_order.units_in_order.Goals as goal

pub returns : goal.returns
returns c =
    let ordered = units_ordered c.args.shape.now c.args.places.now c.in_ok-turns.turns.items c.in_ok-turns.ensures c.requires in
    IfOk-weaker c.units_of_turns.result _ _ (λ units is. subst (AreInOrder c.args.shape.now c.args.places.now) (sym (is ∙ ap (λ (turns : List Turn). map (λ (turn : Turn). turn.unit) turns) c.as_slice.ensures.value)) ordered)
    c.units_of_turns.ensures
