use Rattle.std.proofs.Common.{◌≡◌, ◌<◌, [], ◌∷◌, ◌++◌, length, get_or, map, vec_items, refl, sym, ap, ◌∙◌, arith}
use Rattle.std.proofs.lemmas.List.{get_or-map, length-map, length-set, map-set}
use Rattle.spf_touch.proofs.Members.{in_at}
use Rattle.spf_tiles.proofs.Dealing.{put_more}
use Rattle.spf_tiles.proofs.tile_lists.deal.Goals as goal

pub bounds-tiles-unit : goal.bounds-tiles-unit
bounds-tiles-unit c = c.requires.units _ (in_at c.args.units.now c.loop-unit.unit-index 0 c.loop-unit-test.true)

pub index_mut-requires : goal.index_mut-requires
index_mut-requires c =
    let there = c.requires.units _ (in_at c.args.units.now c.loop-unit.unit-index 0 c.loop-unit-test.true) in
    omega (arith, c.loop-unit.invariant.tiles, c.requires.tiles (get_or c.args.units.now c.loop-unit.unit-index 0) 0 there)

pub loop-unit-preserved : goal.loop-unit-preserved
loop-unit-preserved c =
    let lists = c.loop-unit.lists.items in
    let unit = get_or c.args.units.now c.loop-unit.unit-index 0 in
    let tile = get_or c.args.tiles.now unit 0 in
    let lt : c.loop-unit.unit-index < length c.args.units.now = c.loop-unit-test.true in
    let inside : tile < length lists = omega (arith, c.loop-unit.invariant.tiles, c.requires.tiles unit 0 (c.requires.units unit (in_at c.args.units.now c.loop-unit.unit-index 0 lt))) in
    let there : tile < length (map vec_items lists) = omega (arith, inside, length-map lists vec_items) in
    let row : c.push.new.self.items ≡ get_or (map vec_items lists) tile [] ++ unit ∷ [] =
    c.in_ok-push.ensures.items ∙ ap (λ l. l ++ unit ∷ []) (ap vec_items c.index_mut.ensures.value ∙ sym (get_or-map vec_items lists tile c.index_mut.result.now [] inside)) in
    record {
      tiles = length-set lists tile c.push.new.self ∙ c.loop-unit.invariant.tiles;
      units = rw (map-set vec_items lists tile c.push.new.self)
          (put_more (map vec_items lists) (λ t. get_or (map vec_items c.args.lists.now.items) t []) c.args.tiles.now c.args.units.now c.loop-unit.unit-index 0 tile c.push.new.self.items lt refl there row c.loop-unit.invariant.units);
    }
