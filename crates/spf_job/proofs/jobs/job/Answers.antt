use Rattle.std.specs.Prelude.{vec_items}
use Rattle.std.proofs.Common.{◌≡◌, ℤ, List, length, map, ap, sym, ◌∙◌, arith}
use Rattle.spf_pack.specs.Packing.{renaming_of}
use Rattle.spf_core.specs.Replay.{values_of}
use Rattle.spf_core.specs.Tiling.{Tiling}
use Rattle.spf_store.specs.Behavior.{source_behavior}
use Rattle.spf_store.specs.Stored.{Stored}
use Rattle.spf_space.specs.Layout.{cells_in}
use Rattle.spf_space.specs.Places.{place_of}
use Rattle.spf_space.specs.Units.{units_of}
use Rattle.spf_space.specs.declared.shape.LoopShape.{LoopShape}
use Rattle.spf_touch.specs.Repeated.{touches_at}
use Rattle.spf_exec.specs.Running.{executor_behavior}
use Rattle.spf_space.specs.InOrder.{units_in}
use Rattle.spf_job.proofs.PlanMoves.{have_packings}
use Rattle.spf_job.proofs.PlanParts.{all_perms, count_of, listed_below, parts_of, tile_below}
use Rattle.spf_job.proofs.jobs.job.Goals as goal

pub pack_cells-requires-clause-perms : goal.pack_cells-requires-clause-perms
pack_cells-requires-clause-perms c = rw c.packs.ensures (all_perms c.args.plan.now.packs c.requires.plan.packed.perms)

pub pack_cells-requires-clause-cells : goal.pack_cells-requires-clause-cells
pack_cells-requires-clause-cells c =
    let arrays = ap (λ (stored : Stored). stored.arrays) c.store.view_is ∙ c.requires.arrays ∙ sym c.requires.sourced.shape_is.arrays in
    let cells = c.packing_is_renaming.ensures.cells c.args.shape.now.arrays c.args.plan.now.packs (have_packings c.args.shape.now.arrays c.args.plan.now.packs c.requires.plan.packed) in
    rw (c.packs.ensures, cells) (ap length c.as_slice.ensures.value ∙ (sym c.store.invariant.filled ∙ ap cells_in arrays))

pub tile_order-requires-clause-legal : goal.tile_order-requires-clause-legal
tile_order-requires-clause-legal c = record {
  touches = touches_at c.args.touches.now;
  fits = c.requires.parts.fits;
  legal = rw (c.places-places.ensures.tiles, c.places-places.ensures.orders) c.requires.plan.legal;
}

pub tile_order-requires-clause-below : goal.tile_order-requires-clause-below
tile_order-requires-clause-below c = rw (c.tiles-tiles.ensures, c.places-places.ensures.tiles) c.requires.plan.below

pub footprints-requires : goal.footprints-requires
footprints-requires c t u listed =
    let shape = c.args.shape.now in
    let plan = c.args.plan.now in
    let source = source_behavior c.args.env.now c.args.kernel.now shape.steps in
    let perms = all_perms plan.packs c.requires.plan.packed.perms in
    let count = count_of (executor_behavior c.in_ok-units.units) source (renaming_of plan.packs perms) (c.in_ok-units.ensures perms) in
    let loops : source.count ≡ units_in shape = ap (λ (loops : List LoopShape). length (units_of shape.steps loops)) (sym c.requires.sourced.shape_is.loops) in
    let inside = listed_below (place_of shape.steps shape.loops c.places-places.result.now.tiles c.places-places.result.now.orders) (units_in shape) c.tiles-tiles.result _ c.in_ok-lists.ensures t u
    (rw c.as_slice-2.ensures.value at listed) in
    omega (arith, inside, count, loops)

pub make-requires : goal.make-requires
make-requires c =
    let shape = c.args.shape.now in
    let plan = c.args.plan.now in
    let touches = touches_at c.args.touches.now in
    let place = place_of shape.steps shape.loops plan.tiles plan.orders in
    let source = source_behavior c.args.env.now c.args.kernel.now shape.steps in
    let units = executor_behavior c.in_ok-units.units in
    let perms = all_perms plan.packs c.requires.plan.packed.perms in
    let renaming = renaming_of plan.packs perms in
    let loops : source.count ≡ units_in shape = ap (λ (loops : List LoopShape). length (units_of shape.steps loops)) (sym c.requires.sourced.shape_is.loops) in
    let touched : source.touches ≡ touches = ap touches_at (sym c.requires.sourced.touches_are) in
    let job : Tiling = record {
      lists = map vec_items c.in_ok-lists.lists.items;
      order = c.in_ok-order.order;
      feet = map vec_items c.in_ok-feet.feet.items;
      cells = c.in_ok-cells.cells.items;
    } in
    let arrays = ap (λ (stored : Stored). stored.arrays) c.store.view_is ∙ c.requires.arrays ∙ sym c.requires.sourced.shape_is.arrays in
    let cells = c.packing_is_renaming.ensures.cells shape.arrays plan.packs (have_packings shape.arrays plan.packs c.requires.plan.packed) in
    let long : length c.in_ok-cells.cells.items ≡ cells_in shape.arrays = c.in_ok-cells.ensures.length ∙ (ap length c.as_slice.ensures.value ∙ (sym c.store.invariant.filled ∙ ap cells_in arrays)) in
    let ordered = c.tile_order_is_for_the_places.ensures touches shape.steps shape.loops plan.tiles plan.orders plan.count c.in_ok-order.order c.requires.plan.places c.requires.plan.legal
    (c.in_ok-order.ensures.count ∙ c.tiles-tiles.ensures) (rw c.places-places.ensures.tiles at (c.in_ok-order.ensures.before touches c.requires.parts.fits)) in
    c.plan_parts_are_sound.ensures units units.touches place plan.count job
    (parts_of units source renaming (c.in_ok-units.ensures perms) touches touched (units_in shape) loops (λ u v. (c.renamed_units_do_the_same.ensures.conflicts renaming source u v).0)
    place plan.count job c.requires.plan.some c.requires.plan.few
    (λ u e there.
    let inside = c.requires.parts.inside u e there in
    let below = c.packing_is_renaming.ensures.below plan.packs e perms (omega (arith, inside, cells)) in
    omega (arith, below, cells, long))
    c.requires.plan.legal (tile_below shape.steps shape.loops plan.tiles plan.orders plan.count c.requires.plan.below c.requires.plan.places)
    (rw (c.places-places.ensures.tiles, c.places-places.ensures.orders, c.tiles-tiles.ensures) at c.in_ok-lists.ensures)
    ordered (rw c.as_slice-2.ensures.value at c.in_ok-feet.ensures))

pub returns-clause-units : goal.returns-clause-units
returns-clause-units c = rw c.make.ensures.units c.in_ok-units.ensures

pub returns-clause-order : goal.returns-clause-order
returns-clause-order c =
    rw (c.make.ensures.order, ← c.places-places.ensures.tiles) (c.in_ok-order.ensures.before (touches_at c.args.touches.now) c.requires.parts.fits)

pub returns-clause-cells : goal.returns-clause-cells
returns-clause-cells c =
    rw (c.make.ensures.cells, ← c.packs.ensures)
    (λ e. c.in_ok-cells.ensures.cells e ∙ ap (λ (cells : List ℤ). values_of cells e) (c.as_slice.ensures.value ∙ ap (λ (stored : Stored). stored.cells) c.store.view_is))
