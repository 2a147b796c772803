use Rattle.std.proofs.Common.{◌≡◌, ℕ, ◌+◌, ◌*◌, ◌<◌, ◌≤◌, ◌⊎◌, get_or}
use Rattle.std.specs.Prelude.{bit_or}
use Rattle.spf_tiles.proofs.tile_sets.unite.Given as goal

-- the words so far are united, and the others are as before
abbrev pub invariant-loop-word : goal.invariant-loop-word
invariant-loop-word l = record {
  each : (j : ℕ) → j < l.word → get_or l.table (l.row * 16 + j) 0 ≡ bit_or (get_or l.fn.table (l.row * 16 + j) 0) (get_or l.other (l.source * 16 + j) 0);
  rest : (j : ℕ) → (j < l.row * 16) ⊎ (l.row * 16 + l.word ≤ j) → get_or l.table j 0 ≡ get_or l.fn.table j 0;
}
