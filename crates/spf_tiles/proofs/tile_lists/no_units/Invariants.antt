use Rattle.std.proofs.Common.{◌≡◌, ℕ, [], length, get_or, map, vec_items}
use Rattle.spf_tiles.proofs.tile_lists.no_units.Given as goal

abbrev pub invariant-loop : goal.invariant-loop
invariant-loop l = record {
  tiles : length l.lists.items ≡ l.counter;
  empty : (t : ℕ) → get_or (map vec_items l.lists.items) t [] ≡ [];
}
