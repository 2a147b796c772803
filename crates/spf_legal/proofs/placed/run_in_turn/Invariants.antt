use Rattle.std.proofs.Common.{◌≡◌, ℕ, drop}
use Rattle.spf_touch.specs.Frame.{after_units}
use Rattle.spf_legal.proofs.placed.run_in_turn.Given as goal

-- what is left to run gives what the whole gives
abbrev pub invariant-loop-unit : goal.invariant-loop-unit
invariant-loop-unit g l = record {
  own : (e : ℕ) → g.C.Cells.own l.cells e ≡ g.C.Cells.own l.initial.cells e;
  kept : g.C.Cells.kept l.initial.cells l.cells;
  rest : after_units (g.U.Units.behavior l.units) (drop l.unit-index l.order) (g.C.Cells.value l.cells) ≡
      after_units (g.U.Units.behavior l.units) l.order (g.C.Cells.value l.initial.cells);
}
