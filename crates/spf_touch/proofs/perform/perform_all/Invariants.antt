use Rattle.std.proofs.Common.{◌≡◌, ℕ, drop}
use Rattle.spf_touch.specs.Actions.{performed}
use Rattle.spf_touch.specs.Ops.{actions_of}
use Rattle.spf_touch.proofs.perform.perform_all.Given as goal

-- what is left to perform gives what the whole gives
abbrev pub invariant-loop-op : goal.invariant-loop-op
invariant-loop-op g l = record {
  own : (e : ℕ) → g.C.Cells.own l.cells e ≡ g.C.Cells.own l.initial.cells e;
  kept : g.C.Cells.kept l.initial.cells l.cells;
  rest : performed (actions_of (drop l.op-index l.ops)) (g.C.Cells.value l.cells) ≡ performed (actions_of l.ops) (g.C.Cells.value l.initial.cells);
}
