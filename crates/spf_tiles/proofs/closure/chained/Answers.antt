use Rattle.std.proofs.Common.{◌≡◌, ◌*◌, List, ℕ, replicate, rules}
use Rattle.spf_tiles.proofs.TileSets.{none_has}
use Rattle.spf_tiles.proofs.closure.chained.Goals as goal

pub chain-requires-clause-empty : goal.chain-requires-clause-empty
chain-requires-clause-empty c a b h =
    let zeros : List ℕ = replicate (c.args.tiles * 16) 0 in
    let is : c.as_mut_slice.result.now ≡ zeros = search rules in
    none_has (c.args.tiles * 16) a b (rw is at h)
