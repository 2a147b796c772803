use Rattle.std.proofs.Common.{◌<◌, ◌^◌, All, ℕ, length, sym, subst, arith}
use Rattle.spf_rel.specs.Renumbering.{Variables, moved}
use Rattle.spf_rel.specs.declared.renumber.Blocks.{Blocks}
use Rattle.spf_rel.proofs.Defining.{shifts_fit}
use Rattle.spf_rel.proofs.functional.reversed.Goals as goal

pub definitions-requires-clause-room : goal.definitions-requires-clause-room
definitions-requires-clause-room c =
    let few = c.requires.few in
    subst (λ (blocks : Blocks). All (Variables (λ (number : ℕ). moved blocks number < 2 ^ 32)) c.args.terms.now) (sym c.shifting.ensures)
    (shifts_fit (length c.args.terms.now) c.args.outs c.args.terms.now (omega (arith, few)) c.requires.outputs)
