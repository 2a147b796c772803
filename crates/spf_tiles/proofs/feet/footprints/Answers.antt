use Rattle.std.proofs.Common.{◌≡◌, [], ◌∷◌, length, get_or, map, vec_items, sym, ap, ◌∙◌, arith}
use Rattle.std.proofs.lemmas.List.{get_or-map, length-append, length-map, map-append}
use Rattle.spf_tiles.proofs.Footed.{foot_more}
use Rattle.spf_tiles.proofs.feet.footprints.Goals as goal

pub footprint-requires : goal.footprint-requires
footprint-requires g c =
    let row : get_or (map vec_items c.args.lists.now) c.loop-list.list-index [] ≡ c.list-item.result.items =
    get_or-map vec_items c.args.lists.now c.loop-list.list-index c.list-item.result [] c.loop-list-test.true ∙ ap vec_items (sym c.list-item.is) in
    λ u h. c.requires c.loop-list.list-index u (rw row (rw c.as_slice.ensures.value at h))

pub loop-list-preserved : goal.loop-list-preserved
loop-list-preserved g c =
    let row : get_or (map vec_items c.args.lists.now) c.loop-list.list-index [] ≡ c.list-item.result.items =
    get_or-map vec_items c.args.lists.now c.loop-list.list-index c.list-item.result [] c.loop-list-test.true ∙ ap vec_items (sym c.list-item.is) in
    record {
      each_list = rw c.in_ok-push.ensures.items (omega (arith, length-append c.loop-list.feet.items (c.in_ok-footprint.field-0 ∷ []), c.loop-list.invariant.each_list));
      feet_of = rw (c.in_ok-push.ensures.items, map-append vec_items c.loop-list.feet.items (c.in_ok-footprint.field-0 ∷ []))
          (foot_more (g.U.Units.behavior c.args.units.now).touches (map vec_items c.args.lists.now) (map vec_items c.loop-list.feet.items) c.loop-list.list-index c.list-item.result.items c.in_ok-footprint.field-0.items
          (length-map c.loop-list.feet.items vec_items ∙ c.loop-list.invariant.each_list) row (rw c.as_slice.ensures.value at c.in_ok-footprint.ensures) c.loop-list.invariant.feet_of);
    }

pub returns : goal.returns
returns g c =
    let lists = length-map c.args.lists.now vec_items in
    let feet = length-map c.loop-list.feet.items vec_items in
    let last : c.loop-list.list-index ≡ length c.args.lists.now = omega arith in
    record {
      each_list = feet ∙ c.loop-list.invariant.each_list ∙ last ∙ sym lists;
      feet_of = λ t lt. c.loop-list.invariant.feet_of t (omega (arith, lists, last));
    }
