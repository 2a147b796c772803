use Rattle.std.proofs.Common.{◌++◌, map, vec_items, ap, ◌∙◌}
use Rattle.std.proofs.lemmas.List.{length-map}
use Rattle.spf_space.proofs.InOrder.{stands}
use Rattle.spf_tiles.proofs.Dealing.{lists_are}
use Rattle.spf_tiles.specs.Lists.{dealt_to}
use Rattle.spf_tiles.proofs.tile_lists.lists.Goals as goal

pub deal-requires-clause-units : goal.deal-requires-clause-units
deal-requires-clause-units c =
    rw (c.as_slice.ensures.value, c.as_slice-2.ensures, c.requires.places.each_unit) (λ u there. (stands c.args.shape.now c.args.places.now c.in_ok-units.units.items c.in_ok-units.ensures u).0 there)

pub deal-requires-clause-tiles : goal.deal-requires-clause-tiles
deal-requires-clause-tiles c = rw (c.as_slice-2.ensures, c.in_ok-lists.ensures.tiles) c.requires.below

pub returns : goal.returns
returns c =
    lists_are c.args.shape.now c.args.places.now c.in_ok-units.units.items c.in_ok-units.ensures c.args.tiles (map vec_items c.deal.new.lists.items)
    (length-map c.deal.new.lists.items vec_items ∙ c.in_ok-deal.ensures.tiles ∙ c.in_ok-lists.ensures.tiles)
    (λ t. c.in_ok-deal.ensures.units t ∙ ap (λ l. l ++ dealt_to t c.as_slice-2.result.now c.as_slice.result.now) (c.in_ok-lists.ensures.empty t)
    ∙ ap (dealt_to t c.as_slice-2.result.now) c.as_slice.ensures.value ∙ ap (λ tiles. dealt_to t tiles c.in_ok-units.units.items) c.as_slice-2.ensures)
