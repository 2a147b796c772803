use Rattle.std.proofs.Common.{◌<◌, ◌^◌, flat_map, subst, sym}
use Rattle.spf_store.specs.Shaped.{data_in, sizes}
use Rattle.spf_store.proofs.Layouts.{few_cells}
use Rattle.spf_input.proofs.input.lay_out.Goals as goal

pub array_shapes-requires-clause-few : goal.array_shapes-requires-clause-few
array_shapes-requires-clause-few c =
    subst (λ decls. sizes c.args.env (flat_map data_in decls) < 2 ^ 32) (sym c.as_slice-decls.ensures) (few_cells c.args.env c.args.tree.now c.requires.accepted c.requires.bounded)
