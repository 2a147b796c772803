use Rattle.std.proofs.Common.{◌≡◌, ◌<◌, ℤ, List, length, map, take, slice_get, w64, rules, arith, ap, sym, ◌∙◌, subst, Some}
use Rattle.std.proofs.lemmas.Int.{to_z-of_z}
use Rattle.std.proofs.lemmas.Option.{slice_get_within}
use Rattle.spf_kernel.specs.declared.tree.Tree.{Tree}
use Rattle.spf_space.specs.declared.shape.ArrayShape.{ArrayShape}
use Rattle.spf_space.specs.declared.shape.LoopShape.{LoopShape}
use Rattle.spf_store.specs.Accesses.{accesses_of}
use Rattle.spf_store.specs.Shaped.{starts_of}
use Rattle.spf_store.specs.Source.{unit_trace}
use Rattle.spf_store.specs.Needs.{OwnsAll}
use Rattle.spf_source.specs.Ready.{IsReady, extent_of, lower_of}
use Rattle.spf_source.proofs.Starts.{few_arrays, table_is}
use Rattle.spf_source.proofs.UnitRows.{of_shape, slice_get-map}
use Rattle.spf_source.proofs.unit.run_unit.Goals as goal

some_same : {x y : ℤ} → Some x ≡ Some y → x ≡ y
some_same same = cc

pub starts_of-starts-requires : goal.starts_of-starts-requires
starts_of-starts-requires g c =
    let bounded = rw c.tree-tree.ensures.tree at c.tree-tree.ensures.bounded in
    omega (arith, few_arrays c.args.env.now c.args.kernel.now bounded, ap (length {A = ArrayShape}) (c.as_slice.ensures ∙ c.requires.shape.arrays))

pub lower_at-lower-requires : goal.lower_at-lower-requires
lower_at-lower-requires g c =
    omega (arith, slice_get_within c.args.shape.now.loops c.args.unit.now.loop_no c.requires.unit.loop c.requires.unit.there, ap (length {A = LoopShape}) c.as_slice-2.ensures)

pub run_at-requires-clause-ready : goal.run_at-requires-clause-ready
run_at-requires-clause-ready g c =
    let env = c.args.env.now in
    let tree = c.args.kernel.now in
    let table = take c.len.result c.starts_of-starts.result in
    let count = c.len.ensures ∙ sym (ap (length {A = ArrayShape}) c.as_slice.ensures) in
    subst (λ (of : Tree). IsReady env of table) (sym c.tree-tree.ensures.tree) (record {
      accepted = c.requires.accepted;
      bounded = rw c.tree-tree.ensures.tree at c.tree-tree.ensures.bounded;
      starts_are = table_is env tree c.as_slice.result.now c.starts_of-starts.result c.len.result (c.as_slice.ensures ∙ c.requires.shape.arrays) count c.starts_of-starts.ensures;
    })

pub run_at-requires-clause-own : goal.run_at-requires-clause-own
run_at-requires-clause-own g c =
    let env = c.args.env.now in
    subst (λ (of : Tree). OwnsAll (g.C.Cells.own c.args.cells.now) (accesses_of (starts_of env of) (unit_trace env of c.args.unit.now))) (sym c.tree-tree.ensures.tree) c.requires.own

pub run_at-requires-clause-there : goal.run_at-requires-clause-there
run_at-requires-clause-there g c =
    let env = c.args.env.now in
    let tree = c.args.kernel.now in
    let number = c.args.unit.now.loop_no in
    let there = subst (λ (loops : List LoopShape). slice_get loops number ≡ Some c.requires.unit.loop) c.requires.shape.loops c.requires.unit.there in
    let extent = (of_shape env tree tree.loops number c.requires.unit.loop there).0 in
    subst (λ (of : Tree). c.args.unit.now.position < extent_of env of (slice_get of.loops number)) (sym c.tree-tree.ensures.tree) (omega (arith, extent, c.requires.unit.position))

pub run_at-requires-clause-lower : goal.run_at-requires-clause-lower
run_at-requires-clause-lower g c =
    let env = c.args.env.now in
    let tree = c.args.kernel.now in
    let number = c.args.unit.now.loop_no in
    let there = subst (λ (loops : List LoopShape). slice_get loops number ≡ Some c.requires.unit.loop) c.requires.shape.loops c.requires.unit.there in
    let lower = (of_shape env tree tree.loops number c.requires.unit.loop there).1 in
    let here = slice_get-map (λ (each : LoopShape). each.lower) c.args.shape.now.loops number c.requires.unit.loop c.requires.unit.there in
    let told = ap (λ (loops : List LoopShape). slice_get (map (λ (each : LoopShape). each.lower) loops) number) (sym c.as_slice-2.ensures) ∙ c.lower_at-lower.ensures in
    let same : c.requires.unit.loop.lower ≡ c.lower_at-lower.result = some_same (sym here ∙ told) in
    to_z-of_z w64 c.lower_at-lower.result (search rules) ∙ sym same ∙ sym lower ∙ ap (λ (of : Tree). lower_of env of (slice_get of.loops number)) (sym c.tree-tree.ensures.tree)
