use Rattle.std.proofs.Common.{◌≡◌, ◌↔◌, ◌<◌, ℕ, length}
use Rattle.spf_layers.specs.Groups.{element_groups}
use Rattle.spf_tiles.specs.Links.{HaveLast, NeighboursLink}
use Rattle.spf_tiles.specs.TileSets.{AreAdded, Has}
use Rattle.spf_tiles.proofs.links.link_element.Given as goal

-- the groups so far are linked, and the tiles of the last one are the sources
abbrev pub invariant-loop-n : goal.invariant-loop-n
invariant-loop-n l = record {
  size : length l.sources ≡ 16;
  last : (c : ℕ) → c < 1024 → Has l.sources c 0 ↔ HaveLast l.tile_of (element_groups l.layers l.element) l.n c;
  added : AreAdded l.fn.links l.links (NeighboursLink l.tile_of (element_groups l.layers l.element) l.n);
}
