use Rattle.std.proofs.Common.{◌<◌, ◌^◌, All, ℕ, sym, subst, arith}
use Rattle.spf_rel.specs.Renumbering.{Variables, moved}
use Rattle.spf_rel.specs.declared.renumber.Blocks.{Blocks}
use Rattle.spf_rel.proofs.Defining.{graph_is, shifts_fit}
use Rattle.spf_rel.proofs.functional.graph.Goals as goal

pub definitions-requires-clause-room : goal.definitions-requires-clause-room
definitions-requires-clause-room c =
    let few = c.requires.few in
    subst (λ (blocks : Blocks). All (Variables (λ (number : ℕ). moved blocks number < 2 ^ 32)) c.args.terms.now) (sym c.shifting.ensures)
    (shifts_fit 0 c.args.ins c.args.terms.now (omega (arith, few)) c.requires.inputs)

pub returns : goal.returns
returns c = graph_is c.args.ins c.args.terms.now c.shifting.result c.in_ok-equal.equal c.in_ok-only_equal.field-0 c.shifting.ensures c.in_ok-equal.ensures c.in_ok-only_equal.ensures
