use Rattle.std.proofs.Common.{◌≡◌, length}
use Rattle.std.specs.List.{range_with_len}
use Rattle.spf_touch.specs.Frame.{after_units}
use Rattle.spf_core.specs.Replay.{values_of}
use Rattle.spf_core.specs.Tiling.{units_of}
use Rattle.spf_core.proofs.serially.run_tiles.Given as goal

-- the cells are those after the tiles so far
abbrev pub invariant-loop-tile : goal.invariant-loop-tile
invariant-loop-tile g l = record {
  name : l.lent.cells.ghost_name ≡ l.initial.lent.cells.ghost_name;
  size : length l.lent.cells.now ≡ length l.initial.lent.cells.now;
  values : values_of l.lent.cells.now ≡ after_units (g.U.Units.behavior l.job.units) (units_of l.job.tiling (range_with_len 0 l.tile)) (values_of l.initial.lent.cells.now);
}
