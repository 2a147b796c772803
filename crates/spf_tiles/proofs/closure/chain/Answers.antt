use Rattle.std.proofs.Common.{inl, inr, arith}
use Rattle.spf_tiles.proofs.Closing.{chains_more}
use Rattle.spf_tiles.proofs.closure.chain.Goals as goal

pub loop-tile-preserved : goal.loop-tile-preserved
loop-tile-preserved c =
    let was = c.loop-tile.invariant in
    let tile = c.loop-tile.tile in
    record {
      chains = chains_more c.args.links.now c.loop-tile.before tile (omega (arith, c.loop-tile-test.true, c.requires.tiles)) was.chains c.unite.new.table c.reached-reached.result was.rest
          c.reached-reached.ensures.reached c.unite.ensures;
      rest = λ a b low past h. elim ((c.unite.ensures a b low).0 h) [ inl old ↦ was.rest a b low (omega arith) old | inr new' ↦ (let same = new'.0 in absurd (omega arith)) ];
    }
