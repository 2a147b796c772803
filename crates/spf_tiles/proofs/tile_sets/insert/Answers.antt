use Rattle.spf_tiles.proofs.TileSets.{set_added}
use Rattle.spf_tiles.proofs.tile_sets.insert.Goals as goal

pub returns : goal.returns
returns c = set_added c.args.table.now c.args.row c.args.tile c.requires.few c.requires.room
