use Rattle.std.proofs.Common.{◌*◌, length, map, vec_items, sym, subst, ◌∙◌}
use Rattle.std.proofs.lemmas.List.{length-map}
use Rattle.spf_layers.specs.Fits.{Fits}
use Rattle.spf_tiles.proofs.Graph.{legal_too, link_rises, order_before}
use Rattle.spf_tiles.proofs.order.tile_order.Goals as goal

pub links-requires-clause-within : goal.links-requires-clause-within
links-requires-clause-within c e n u h = rw (c.as_slice.ensures, c.requires.places.each_unit) ((c.requires.legal.fits.groups e).inside n u h)

pub links-requires-clause-below : goal.links-requires-clause-below
links-requires-clause-below c = rw c.as_slice.ensures c.requires.below

pub of_lists-requires-clause-below : goal.of_lists-requires-clause-below
of_lists-requires-clause-below c = rw c.in_ok-before.ensures.count c.in_ok-before.ensures.below

pub returns-clause-before : goal.returns-clause-before
returns-clause-before c touches fits =
    let steps = c.args.shape.now.steps in
    let loops = c.args.shape.now.loops in
    let tiles = c.args.places.now.tiles in
    let orders = c.args.places.now.orders in
    let layers = c.args.layers.now in
    let lists = c.in_ok-before.before.items in
    let legal = legal_too steps loops tiles orders c.requires.legal.touches touches layers c.requires.legal.fits fits c.requires.legal.legal in
    let exact : Fits touches (length tiles) layers = subst (λ n. Fits touches n layers) (sym c.requires.places.each_unit) fits in
    rw c.of_lists.ensures
    (order_before touches tiles layers exact c.args.tiles c.requires.few c.requires.below (link_rises steps loops tiles orders c.requires.places touches legal)
    c.in_ok-links.links.items (c.args.tiles * 16) (rw c.as_slice.ensures at c.in_ok-links.ensures.links)
    (map vec_items lists) (length-map lists vec_items ∙ c.in_ok-before.ensures.count) (rw c.as_slice-2.ensures.value at c.in_ok-before.ensures.chains))

pub returns-clause-ascending : goal.returns-clause-ascending
returns-clause-ascending c = rw c.of_lists.ensures c.in_ok-before.ensures.rising
