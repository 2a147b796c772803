use Rattle.std.proofs.Common.{◌∙◌, ap}
use Rattle.spf_core.proofs.TilesInTurn.{serial_result}
use Rattle.spf_core.proofs.serially.serial.Goals as goal

pub returns : goal.returns
returns g c e =
    ap (λ f. f e) (c.run_tiles.ensures ∙ serial_result (g.U.Units.behavior c.args.job.now.units) (g.met.U.Units.framed c.args.job.now.units) c.args.job.now.tiling c.sound.ensures _)
