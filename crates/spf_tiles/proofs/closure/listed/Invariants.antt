use Rattle.std.proofs.Common.{◌≡◌, ◌↔◌, ◌<◌, ℕ, true}
use Rattle.std.specs.List.{AllPairs}
use Rattle.spf_touch.specs.Ordered.{is_in}
use Rattle.spf_tiles.specs.TileSets.{Has}
use Rattle.spf_tiles.proofs.closure.listed.Given as goal

-- the tiles of the row so far
abbrev pub invariant-loop-other : goal.invariant-loop-other
invariant-loop-other l = record {
  rising : AllPairs (λ (a b : ℕ). a < b) l.list.items;
  listed : (a : ℕ) → (is_in l.list.items a ≡ true) ↔ ((a < l.other) × Has l.before a l.tile);
}
