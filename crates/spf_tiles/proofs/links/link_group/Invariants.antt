use Rattle.std.proofs.Common.{◌≡◌, ◌↔◌, ◌<◌, ℕ, get_or, length}
use Rattle.spf_tiles.specs.TileSets.{AreAdded, Has}
use Rattle.spf_tiles.proofs.links.link_group.Given as goal

-- the tiles of the units so far are held, and linked
abbrev pub invariant-loop-unit : goal.invariant-loop-unit
invariant-loop-unit l = record {
  size : length l.held ≡ 16;
  held : (c : ℕ) → c < 1024 → Has l.held c 0 ↔ ((k : ℕ) × (k < l.unit-index) × (get_or l.tile_of (get_or l.units k 0) 0 ≡ c));
  added : AreAdded l.fn.links l.links (λ c d. (k : ℕ) × (k < l.unit-index) × ((get_or l.tile_of (get_or l.units k 0) 0 ≡ d) × Has l.sources c 0));
}
