use Rattle.std.proofs.Common.{◌+◌, drop, Result}
use Rattle.spf_plan.specs.Planned.{IsPlanOf, Planned, source_plan}
use Rattle.spf_plan.specs.Taken.{TakesAll}
use Rattle.spf_plan.specs.declared.plan_fault.PlanFault.{PlanFault}
use Rattle.spf_plan.proofs.Chain.{IsUntiled}
use Rattle.spf_plan.proofs.planning.plan.Given as goal

abbrev pub invariant-loop-index : goal.invariant-loop-index
invariant-loop-index l = record {
  kept : IsPlanOf l.touches l.shape l.plan;
  untiled : IsUntiled l.steps l.index l.plan.count;
  rest : (result : Result Planned PlanFault) → TakesAll l.touches l.shape (l.index + 1) (drop l.index l.steps) l.plan result
      → TakesAll l.touches l.shape 1 l.steps (source_plan l.shape) result;
}
