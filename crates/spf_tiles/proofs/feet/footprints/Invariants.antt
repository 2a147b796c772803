use Rattle.std.proofs.Common.{◌≡◌, ℕ, ◌<◌, [], length, get_or, map, vec_items}
use Rattle.spf_tiles.specs.Feet.{IsFootOf}
use Rattle.spf_tiles.proofs.feet.footprints.Given as goal

abbrev pub invariant-loop-list : goal.invariant-loop-list
invariant-loop-list g l = record {
  each_list : length l.feet.items ≡ l.list-index;
  feet_of : (t : ℕ) → t < l.list-index → IsFootOf (g.U.Units.behavior l.units).touches (get_or (map vec_items l.lists) t []) (get_or (map vec_items l.feet.items) t []);
}
