use Rattle.std.proofs.Common.{◌≡◌, ◌↔◌, ◌<◌, ℕ, length, map, true, vec_items}
use Rattle.std.specs.List.{All, AllPairs}
use Rattle.spf_core.specs.History.{is_before}
use Rattle.spf_tiles.specs.Before.{Leads}
use Rattle.spf_tiles.specs.Links.{Rises}
use Rattle.spf_tiles.proofs.closure.closed.Given as goal

-- the tiles so far have their lists
abbrev pub invariant-loop-tile : goal.invariant-loop-tile
invariant-loop-tile l = record {
  count : length l.lists.items ≡ l.tile;
  rising : All (AllPairs (λ (a b : ℕ). a < b)) (map vec_items l.lists.items);
  chains : (a b : ℕ) → b < l.tile → (is_before (map vec_items l.lists.items) a b ≡ true) ↔ Leads (Rises l.links) a b;
}
