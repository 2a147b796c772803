use Rattle.std.proofs.Common.{◌↔◌, ◌<◌, ◌≤◌, ℕ}
use Rattle.spf_tiles.specs.Before.{Leads}
use Rattle.spf_tiles.specs.Links.{Rises}
use Rattle.spf_tiles.specs.TileSets.{Has}
use Rattle.spf_tiles.proofs.closure.chain.Given as goal

-- the tiles so far have their rows, and the other rows are empty
abbrev pub invariant-loop-tile : goal.invariant-loop-tile
invariant-loop-tile l = record {
  chains : (a b : ℕ) → a < 1024 → b < l.tile → Has l.before a b ↔ Leads (Rises l.links) a b;
  rest : (a b : ℕ) → a < 1024 → l.tile ≤ b → Has l.before a b → ⊥;
}
