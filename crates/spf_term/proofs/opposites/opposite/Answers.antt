use Rattle.std.proofs.Common.{rules}
use Rattle.std.proofs.lemmas.Int.{to_z-of_z}
use Rattle.std.specs.Int.{w128}
use Rattle.spf_term.specs.declared.wide.WideTerm.{out-WideTerm}
use Rattle.spf_term.proofs.Turning.{opposite_fits, opposite_is, opposite_number, small_constant_of, small_monos_of}
use Rattle.spf_term.proofs.opposites.opposite.Goals as goal

pub overflow_sub-constant : goal.overflow_sub-constant
overflow_sub-constant c = opposite_fits (out-WideTerm c.args.term).constant _ (to_z-of_z w128 (out-WideTerm c.args.term).constant (search rules)) (small_constant_of c.args.term c.requires)

pub opposite_monos-requires : goal.opposite_monos-requires
opposite_monos-requires c = small_monos_of c.args.term c.requires

pub returns : goal.returns
returns c =
    opposite_is c.args.term c.in_ok-monos.monos _ c.in_ok-monos.ensures
    (opposite_number (out-WideTerm c.args.term).constant _ (to_z-of_z w128 (out-WideTerm c.args.term).constant (search rules)) (small_constant_of c.args.term c.requires))
