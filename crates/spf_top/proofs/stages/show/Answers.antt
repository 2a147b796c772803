use Rattle.std.proofs.Common.{◌∙◌}
use Rattle.spf_touch.specs.Repeated.{touches_at}
use Rattle.spf_top.proofs.stages.show.Goals as goal

pub tile_order-requires-clause-places : goal.tile_order-requires-clause-places
tile_order-requires-clause-places c = rw (c.places.ensures.tiles, c.places.ensures.orders) c.requires.plan.places

pub tile_order-requires-clause-legal : goal.tile_order-requires-clause-legal
tile_order-requires-clause-legal c = record {
  touches = touches_at c.args.touches.now;
  fits = c.requires.parts.fits;
  legal = rw (c.places.ensures.tiles, c.places.ensures.orders) c.requires.plan.legal;
}

pub tile_order-requires-clause-below : goal.tile_order-requires-clause-below
tile_order-requires-clause-below c = rw (c.tiles.ensures, c.places.ensures.tiles) c.requires.plan.below

pub returns-in-Ok-plan_text-clause-text : goal.returns-in-Ok-plan_text-clause-text
returns-in-Ok-plan_text-clause-text c =
    let made = c.in-Ok.ensures in (
      c.in-Ok.order,
      record {
        each_tile = made.count ∙ c.tiles.ensures;
        ascending = made.ascending;
        before = rw (← c.places.ensures.tiles) (made.before (touches_at c.args.touches.now) c.requires.parts.fits);
      },
      c.in-Ok-plan_text.ensures,
    )
