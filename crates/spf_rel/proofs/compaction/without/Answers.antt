use Rattle.std.proofs.Common.{◌<◌, ◌^◌, sym, subst}
use Rattle.std.specs.List.{All}
use Rattle.spf_rel.specs.Renumbering.{Variables, moved}
use Rattle.spf_rel.specs.declared.renumber.Blocks.{Blocks}
use Rattle.spf_rel.proofs.Compacting.{closing_fits}
use Rattle.spf_rel.proofs.compaction.without.Goals as goal

pub renumbered_terms-requires : goal.renumbered_terms-requires
renumbered_terms-requires c =
    subst (λ (blocks : Blocks). All (Variables (λ number. moved blocks number < 2 ^ 32)) c.args.conj.now.equal) (sym c.closing.ensures) (closing_fits c.args.var c.args.conj.now.equal c.requires.numbered.equal)

pub renumbered_terms-requires-2 : goal.renumbered_terms-requires-2
renumbered_terms-requires-2 c =
    subst (λ (blocks : Blocks). All (Variables (λ number. moved blocks number < 2 ^ 32)) c.args.conj.now.least) (sym c.closing-2.ensures) (closing_fits c.args.var c.args.conj.now.least c.requires.numbered.least)
