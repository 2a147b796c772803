use Rattle.std.proofs.Common.{All, sym, map, refl, ap, ◌∙◌, subst}
use Rattle.spf_perm.specs.Perm.{IsPerm}
use Rattle.spf_kernel.specs.Bounded.{IsBoundedTree}
use Rattle.spf_kernel.specs.Named.{IsNamed}
use Rattle.spf_space.specs.declared.shape.ArrayShape.{ArrayShape}
use Rattle.spf_pack.specs.Packing.{renaming_of}
use Rattle.spf_exec.specs.Moves.{packing_table, packings_of}
use Rattle.spf_exec.proofs.Binding.{bound_of, tables_of}
use Rattle.spf_exec.proofs.Packings.{all_perms}
use Rattle.spf_exec.proofs.runner.bind.Goals as goal

pub invariant_of-result : goal.invariant_of-result
invariant_of-result c =
    let arrays = c.args.shape.now.arrays in
    let moves = c.args.moved.arrays in
    (all_perms moves arrays c.requires.arrays c.args.shape.now.layout.cells, tt)

pub invariant_of-result-2 : goal.invariant_of-result-2
invariant_of-result-2 c =
    let shape_is = c.requires.sourced.shape_is in
    let tables = rw c.as_slice-3.ensures at c.in_ok-executor.ensures in
    record {
      sourced = c.requires.sourced;
      moves = c.requires.arrays;
      program_is = c.requires.program;
      sites = rw c.as_slice.ensures at (c.if-not-have_few_sites.ensures refl);
      starts_are = c.in_ok-starts.ensures ∙ ap (map (λ (array : ArrayShape). array.start)) (c.as_slice-2.ensures ∙ shape_is.arrays);
      orders = tables.orders;
      packings = map packing_table c.args.moved.arrays;
      executor_is = tables.executor_is;
      bound = λ perms. bound_of c.args.env.now c.args.kernel.now c.args.shape.now c.args.moved shape_is c.requires.loops c.requires.arrays c.args.shape.now.layout.adjacent perms c.packing_is_renaming.ensures.places
          tables.orders (map packing_table c.args.moved.arrays) (tables_of c.args.env.now c.args.kernel.now c.args.shape.now c.args.moved shape_is tables.orders tables.order_tables c.requires.sourced.accepted)
          c.requires.sourced.accepted (subst IsNamed c.tree-tree.ensures.tree c.tree-tree.ensures.named) (subst IsBoundedTree c.tree-tree.ensures.tree c.tree-tree.ensures.bounded);
    }

pub returns-clause-effect : goal.returns-clause-effect
returns-clause-effect c orders packings tables u inside values e =
    let arrays = c.args.shape.now.arrays in
    let moves = c.args.moved.arrays in
    let perms : All IsPerm (packings_of moves arrays) = all_perms moves arrays c.requires.arrays c.args.shape.now.layout.cells in
    let bound = bound_of c.args.env.now c.args.kernel.now c.args.shape.now c.args.moved c.requires.sourced.shape_is c.requires.loops c.requires.arrays c.args.shape.now.layout.adjacent perms c.packing_is_renaming.ensures.places
    orders packings tables c.requires.sourced.accepted (subst IsNamed c.tree-tree.ensures.tree c.tree-tree.ensures.named) (subst IsBoundedTree c.tree-tree.ensures.tree c.tree-tree.ensures.bounded) in
    sym (c.executor_runs_renamed_units.ensures.effect c.args.env.now c.args.kernel.now c.args.moved orders packings (renaming_of (packings_of moves arrays) perms) c.args.shape.now.steps u bound c.requires.sourced.range inside values e)
