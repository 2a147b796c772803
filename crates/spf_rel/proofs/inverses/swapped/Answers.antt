use Rattle.std.proofs.Common.{ℕ, ◌<◌, ◌^◌, sym, subst}
use Rattle.std.specs.List.{All}
use Rattle.spf_rel.specs.Renumbering.{Variables, moved}
use Rattle.spf_rel.specs.declared.renumber.Blocks.{Blocks}
use Rattle.spf_rel.proofs.Swapped.{swap_fits}
use Rattle.spf_rel.proofs.inverses.swapped.Goals as goal

pub renumbered_terms-requires : goal.renumbered_terms-requires
renumbered_terms-requires c =
    subst (λ (blocks : Blocks). All (Variables (λ (number : ℕ). moved blocks number < 2 ^ 32)) c.args.conj.now.equal) (sym c.swap.ensures)
    (swap_fits c.args.ins c.args.outs c.args.conj.now.inner c.requires.few c.args.conj.now.equal c.requires.equal)

pub renumbered_terms-requires-2 : goal.renumbered_terms-requires-2
renumbered_terms-requires-2 c =
    subst (λ (blocks : Blocks). All (Variables (λ (number : ℕ). moved blocks number < 2 ^ 32)) c.args.conj.now.least) (sym c.swap-2.ensures)
    (swap_fits c.args.ins c.args.outs c.args.conj.now.inner c.requires.few c.args.conj.now.least c.requires.least)
