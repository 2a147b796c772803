use Rattle.spf_layers.specs.Groups.{element_groups}
use Rattle.spf_tiles.specs.Links.{NeighboursLink}
use Rattle.std.proofs.Common.{length}
use Rattle.spf_tiles.proofs.Adding.{grown_below}
use Rattle.spf_tiles.proofs.links.link_elements.Goals as goal

pub loop-element-preserved : goal.loop-element-preserved
loop-element-preserved c a d less =
    grown_below c.loop-element.element (λ e. NeighboursLink c.args.tile_of.now (element_groups c.args.layers.now e) (length (element_groups c.args.layers.now e)) a d) _ _ _
    (c.loop-element.invariant a d less) (c.link_element.ensures a d less)
