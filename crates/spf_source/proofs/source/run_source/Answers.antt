use Rattle.std.proofs.Common.{ℕ, length, take, pos, slice_index_or, nat_lt, arith, ap, sym, ◌∙◌, subst}
use Rattle.std.proofs.lemmas.Bool.{lt-ltb}
use Rattle.spf_kernel.specs.declared.tree.Tree.{Tree}
use Rattle.spf_space.specs.Layout.{cells_in}
use Rattle.spf_space.specs.declared.shape.ArrayShape.{ArrayShape}
use Rattle.spf_space.specs.Units.{units_of}
use Rattle.spf_store.specs.FirstFault.{AreInRange}
use Rattle.spf_store.specs.Shaped.{loops_of}
use Rattle.spf_store.specs.Source.{source_result, units_effect}
use Rattle.spf_store.specs.Stored.{Stored}
use Rattle.spf_source.specs.Ready.{IsReady, OwnsCells}
use Rattle.spf_source.proofs.Starts.{few_arrays, same_length, table_is}
use Rattle.spf_source.proofs.source.run_source.Goals as goal

pub starts_of-starts-requires : goal.starts_of-starts-requires
starts_of-starts-requires c =
    let bounded = rw c.tree-tree.ensures.tree at c.tree-tree.ensures.bounded in
    let arrays = c.as_slice.ensures ∙ ap (λ (stored : Stored). stored.arrays) c.store.view_is ∙ c.requires.arrays in
    omega (arith, few_arrays c.args.env.now c.args.kernel.now bounded, ap (length {A = ArrayShape}) arrays)

pub run_steps-requires-clause-ready : goal.run_steps-requires-clause-ready
run_steps-requires-clause-ready c =
    let env = c.args.env.now in
    let tree = c.args.kernel.now in
    let table = take c.len.result c.starts_of-starts.result in
    let inside = ap (λ (stored : Stored). stored.arrays) c.store.view_is ∙ c.requires.arrays in
    let count = c.len.ensures ∙ sym (ap (length {A = ArrayShape}) c.as_slice.ensures) in
    subst (λ (of : Tree). IsReady env of table) (sym c.tree-tree.ensures.tree) (record {
      accepted = c.requires.accepted;
      bounded = rw c.tree-tree.ensures.tree at c.tree-tree.ensures.bounded;
      starts_are = table_is env tree c.as_slice.result.now c.starts_of-starts.result c.len.result (c.as_slice.ensures ∙ inside) count c.starts_of-starts.ensures;
    })

pub run_steps-requires-clause-own : goal.run_steps-requires-clause-own
run_steps-requires-clause-own c =
    let env = c.args.env.now in
    let inside = ap (λ (stored : Stored). stored.arrays) c.store.view_is ∙ c.requires.arrays in
    subst (λ (of : Tree). OwnsCells env of (λ e. nat_lt e (length c.args.store.now.cells))) (sym c.tree-tree.ensures.tree)
    (λ e below. lt-ltb e (length c.args.store.now.cells) (omega (arith, below, c.store.invariant.filled, ap cells_in inside, ap (λ (stored : Stored). length stored.cells) c.store.view_is)))

pub run_steps-requires-clause-range : goal.run_steps-requires-clause-range
run_steps-requires-clause-range c = subst (AreInRange c.args.env.now) (sym c.tree-tree.ensures.tree) c.requires.range

pub returns-clause-count : goal.returns-clause-count
returns-clause-count c = same_length _ _ c.run_steps.ensures.owns

pub returns-clause-cells : goal.returns-clause-cells
unfolding source_result
returns-clause-cells c e =
    let values = λ (of : ℕ). slice_index_or c.args.store.now.cells of (pos 0) in
    c.run_steps.ensures.values e
    ∙ ap (λ (tree : Tree). units_effect c.args.env.now tree (units_of c.args.steps (loops_of c.args.env.now tree)) values e) c.tree-tree.ensures.tree
