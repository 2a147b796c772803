use Rattle.spf_plan.proofs.OnePlan.{one_plan}
use Rattle.spf_plan.proofs.laws.one_plan_answer.Goals as goal

pub returns : goal.returns
returns c = λ touches shape. one_plan touches shape c.one_order.ensures c.one_breadth_first_order.ensures.parts c.one_growth.ensures.lists c.one_packing.ensures.by_loop c.one_packing.ensures.by_tiles
