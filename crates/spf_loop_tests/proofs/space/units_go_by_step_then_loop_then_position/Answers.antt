use Rattle.spf_loop_tests.proofs.space.units_go_by_step_then_loop_then_position.Goals as goal

pub ordinal-requires : goal.ordinal-requires
ordinal-requires g c = (c.ordinals_are_textual_order.ensures.units _ _ _).1 (_, c.split-unit.ensures)
