use Rattle.std.proofs.Common.{◌≡◌, ◌+◌, w64, rules, arith, ap, sym, ◌∙◌, slice_get}
use Rattle.std.proofs.lemmas.Int.{to_z-of_z}
use Rattle.std.specs.Int.{int_gap}
use Rattle.spf_store.specs.Shaped.{loop_shape}
use Rattle.spf_store.specs.Source.{unit_effect}
use Rattle.spf_source.specs.Ready.{extent_of}
use Rattle.spf_source.proofs.UnitRows.{last_position, next_position, positions_left, unit_at, unit_in_range, unit_owned}
use Rattle.spf_source.proofs.Way.{arrived, went_on}
use Rattle.spf_source.proofs.loops.run_loop.Goals as goal

pub run_at-requires-clause-range : goal.run_at-requires-clause-range
run_at-requires-clause-range g c =
    let env = c.args.given.now.env.now in
    let low = to_z-of_z w64 c.outer_value-low.result (search rules) ∙ c.outer_value-low.ensures in
    let high = to_z-of_z w64 c.outer_value-high.result (search rules) ∙ c.outer_value-high.ensures in
    let extent : c.extent-position-end.result ≡ (loop_shape env c.loop_at-each.result.now).extent = c.extent-position-end.ensures ∙ (λ i. int_gap (low i) (high i)) in
    unit_in_range env c.args.tree.now c.args.loop_no c.loop-position.position c.loop_at-each.result.now c.loop_at-each.ensures (omega (arith, c.loop-position-test.true, extent)) c.requires.range

pub run_at-requires-clause-own : goal.run_at-requires-clause-own
run_at-requires-clause-own g c =
    let env = c.args.given.now.env.now in
    let tree = c.args.tree.now in
    let low = to_z-of_z w64 c.outer_value-low.result (search rules) ∙ c.outer_value-low.ensures in
    let high = to_z-of_z w64 c.outer_value-high.result (search rules) ∙ c.outer_value-high.ensures in
    let extent : c.extent-position-end.result ≡ (loop_shape env c.loop_at-each.result.now).extent = c.extent-position-end.ensures ∙ (λ i. int_gap (low i) (high i)) in
    let range = unit_in_range env tree c.args.loop_no c.loop-position.position c.loop_at-each.result.now c.loop_at-each.ensures (omega (arith, c.loop-position-test.true, extent)) c.requires.range in
    unit_owned env tree _ (g.C.Cells.own c.loop-position.cells) c.requires.ready.accepted c.requires.ready.bounded (λ e below. c.loop-position.invariant.owns e ∙ c.requires.own e below) range

pub loop-position-preserved : goal.loop-position-preserved
loop-position-preserved g c =
    let env = c.args.given.now.env.now in
    let tree = c.args.tree.now in
    let low = to_z-of_z w64 c.outer_value-low.result (search rules) ∙ c.outer_value-low.ensures in
    let high = to_z-of_z w64 c.outer_value-high.result (search rules) ∙ c.outer_value-high.ensures in
    let all = extent_of env tree (slice_get tree.loops c.args.loop_no) in
    let extent : c.extent-position-end.result ≡ all = c.extent-position-end.ensures ∙ (λ i. int_gap (low i) (high i)) ∙ ap (extent_of env tree) (sym c.loop_at-each.ensures) in
    went_on g.C.Cells.own g.C.Cells.value g.C.Cells.kept g.met.C.Cells.kept_on c.args.cells.now c.loop-position.cells c.run_at.new.cells _ _
    (unit_effect env tree (unit_at env tree c.args.loop_no all c.loop-position.position)) (positions_left env tree c.args.loop_no all (c.loop-position.position + 1))
    (next_position env tree c.args.loop_no all c.loop-position.position (omega (arith, c.loop-position-test.true, extent))) c.loop-position.invariant c.run_at.ensures

pub returns : goal.returns
returns g c =
    let env = c.args.given.now.env.now in
    let tree = c.args.tree.now in
    let low = to_z-of_z w64 c.outer_value-low.result (search rules) ∙ c.outer_value-low.ensures in
    let high = to_z-of_z w64 c.outer_value-high.result (search rules) ∙ c.outer_value-high.ensures in
    let all = extent_of env tree (slice_get tree.loops c.args.loop_no) in
    let extent : c.extent-position-end.result ≡ all = c.extent-position-end.ensures ∙ (λ i. int_gap (low i) (high i)) ∙ ap (extent_of env tree) (sym c.loop_at-each.ensures) in
    arrived g.C.Cells.own g.C.Cells.value g.C.Cells.kept c.args.cells.now c.loop-position.cells _ _
    (last_position env tree c.args.loop_no all c.loop-position.position (omega (arith, c.loop-position-test.false, extent))) c.loop-position.invariant
