use Rattle.std.proofs.Common.{◌≡◌, ◌-◌, ◌<◌, ◌≤◌, length, get_or, take, drop, ap, arith}
use Rattle.std.proofs.lemmas.List.{get_or_default, length-append, length-take-le}
use Rattle.spf_touch.specs.declared.class.Class.TheVariants.{Read}
use Rattle.spf_layers.specs.Flat.{behind, groups_in}
use Rattle.spf_layers.specs.declared.chains.Node.{Node}
use Rattle.spf_layers.proofs.Flat.{length_groups}
use Rattle.spf_layers.proofs.Laying.{laying_first, laying_last, laying_more}
use Rattle.spf_layers.proofs.layers.lay_chain.Goals as goal

pub loop-number-init : goal.loop-number-init
loop-number-init c = record {
  flat = c.requires.flat;
  start = omega arith;
  grown = omega arith;
  inside = c.requires.head;
  laying = λ whole chained. laying_first c.args.nodes.now c.args.head _ whole chained;
}

abbrev none : Node
none = record { unit = 0; class = Read; next = 0 }

pub loop-number-preserved : goal.loop-number-preserved
loop-number-preserved c =
    let was = c.args.rows.now in
    let rows = c.loop-number.rows in
    let new = c.place.new.self in
    let flat = c.loop-number.invariant.flat in
    let now = c.in_ok-place.ensures.flat in
    let within : c.loop-number.number - 1 < length c.args.nodes.now = omega (arith, c.loop-number.invariant.inside) in
    let node = get_or c.args.nodes.now (c.loop-number.number - 1) none in
    let there : c.len-start.result ≤ length (groups_in rows) = omega (arith, c.loop-number.invariant.grown, length_groups rows.units.items rows.ends.items rows.classes.items flat.classes) in
    let first : c.len-start.result ≡ length (groups_in was) = omega (arith, c.loop-number.invariant.start, length_groups was.units.items was.ends.items was.classes.items c.requires.flat.classes) in
    record {
      flat = now;
      start = c.loop-number.invariant.start;
      grown = omega (
        arith,
        length_groups new.units.items new.ends.items new.classes.items now.classes,
        ap length c.in_ok-place.ensures.placed,
        length-take-le c.len-start.result (groups_in rows) there,
        length-append (take c.len-start.result (groups_in rows)) (behind node.unit node.class (drop c.len-start.result (groups_in rows))),
      );
      inside = omega (arith, c.requires.back (c.loop-number.number - 1) none within);
      laying = λ whole chained. rw c.in_ok-place.ensures.placed
          (laying_more c.args.nodes.now c.loop-number.number c.len-start.result (groups_in was) (groups_in rows) whole node (c.loop-number.invariant.laying whole chained) first c.loop-number-test.true
          (get_or_default c.args.nodes.now (c.loop-number.number - 1) node none within));
    }

pub returns-clause-laid : goal.returns-clause-laid
returns-clause-laid c whole chained =
    laying_last c.args.nodes.now c.loop-number.number (groups_in c.args.rows.now) (groups_in c.loop-number.rows) whole (c.loop-number.invariant.laying whole chained) (omega arith)
