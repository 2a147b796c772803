use Rattle.std.proofs.Common.{◌≡◌, ◌↔◌, ◌<◌, ℕ, length}
use Rattle.spf_tiles.specs.Links.{IsReached}
use Rattle.spf_tiles.specs.TileSets.{Has}
use Rattle.spf_tiles.proofs.closure.reached.Given as goal

-- the tiles so far are followed
abbrev pub invariant-loop-other : goal.invariant-loop-other
invariant-loop-other l = record {
  size : length l.reached ≡ 16;
  reached : (a : ℕ) → a < 1024 → Has l.reached a 0 ↔ IsReached l.links l.before l.tile l.other a;
}
