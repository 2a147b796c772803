use Rattle.std.proofs.Common.{inl, inr, arith}
use Rattle.spf_tiles.proofs.TileSets.{united}
use Rattle.spf_tiles.proofs.tile_sets.unite.Goals as goal

pub returns : goal.returns
returns c =
    united c.args.table.now c.loop-word.table c.args.other.now c.args.row c.args.source (λ j h. c.loop-word.invariant.each j (omega arith))
    (λ j h. c.loop-word.invariant.rest j (elim h [ inl less ↦ inl less | inr more ↦ inr (omega arith) ]))
