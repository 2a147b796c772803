use Rattle.std.proofs.Common.{◌≡◌, ℕ, drop}
use Rattle.spf_touch.specs.Frame.{after_units}
use Rattle.spf_core.proofs.work.run_list.Given as goal

-- what is left to run gives what the whole list gives
abbrev pub invariant-loop-unit : goal.invariant-loop-unit
invariant-loop-unit g l = record {
  own : (e : ℕ) → g.C.Cells.own l.cells e ≡ g.C.Cells.own l.initial.cells e;
  kept : g.C.Cells.kept l.initial.cells l.cells;
  rest : after_units (g.U.Units.behavior l.units) (drop l.unit-index l.list) (g.C.Cells.value l.cells) ≡ after_units (g.U.Units.behavior l.units) l.list (g.C.Cells.value l.initial.cells);
}
