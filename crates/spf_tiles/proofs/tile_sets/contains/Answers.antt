use Rattle.std.proofs.Common.{eq-eqb, eqb-true}
use Rattle.std.proofs.lemmas.Nat.Bits.{shr_and_one}
use Rattle.spf_tiles.specs.TileSets.{Has}
use Rattle.spf_tiles.proofs.tile_sets.contains.Goals as goal

pub returns : goal.returns
unfolding Has
returns c = rw shr_and_one (eqb-true _ 1, eq-eqb _ 1)
