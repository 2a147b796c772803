use Rattle.spf_tiles.specs.Links.{LayersLink}
use Rattle.spf_tiles.specs.TileSets.{AreAdded}
use Rattle.spf_tiles.proofs.links.link_elements.Given as goal

-- the elements so far are linked
abbrev pub invariant-loop-element : goal.invariant-loop-element
invariant-loop-element l = AreAdded l.initial.links l.links (LayersLink l.tile_of l.layers l.element)
