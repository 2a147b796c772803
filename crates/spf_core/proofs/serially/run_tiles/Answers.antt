use Rattle.std.proofs.Common.{◌∙◌, sym}
use mathlib.Core.Path.{fun_ext}
use Rattle.spf_core.proofs.TilesInTurn.{serial_more}
use Rattle.spf_core.proofs.serially.run_tiles.Goals as goal

pub loop-tile-preserved : goal.loop-tile-preserved
loop-tile-preserved g c = record {
  name = sym c.run_tile.ensures.kept.0 ∙ c.loop-tile.invariant.name;
  size = sym c.run_tile.ensures.kept.1 ∙ c.loop-tile.invariant.size;
  values = serial_more (g.U.Units.behavior c.args.job.now.units) c.args.job.now.tiling c.loop-tile.tile _ _ _ (fun_ext c.run_tile.ensures.value) c.loop-tile.invariant.values;
}
