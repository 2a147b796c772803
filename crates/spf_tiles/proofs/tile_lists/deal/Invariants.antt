use Rattle.std.proofs.Common.{◌≡◌, ◌++◌, ℕ, [], length, get_or, map, take, vec_items}
use Rattle.spf_tiles.specs.Lists.{dealt_to}
use Rattle.spf_tiles.proofs.tile_lists.deal.Given as goal

abbrev pub invariant-loop-unit : goal.invariant-loop-unit
invariant-loop-unit l = record {
  tiles : length l.lists.items ≡ length l.fn.lists.items;
  units : (t : ℕ) → get_or (map vec_items l.lists.items) t [] ≡ get_or (map vec_items l.fn.lists.items) t [] ++ dealt_to t l.tiles (take l.unit-index l.units);
}
