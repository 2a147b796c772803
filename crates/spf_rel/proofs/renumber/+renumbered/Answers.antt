use Rattle.std.proofs.Common.{ℕ, ◌<◌, ◌^◌, arith, rules}
use Rattle.std.proofs.lemmas.Grind.{common_steps}
use Rattle.spf_term.specs.declared.term.Term.{the_lemmas}
use Rattle.spf_rel.specs.Renumbering.{moved}
use Rattle.spf_rel.proofs.Renumbered.{at_mono, renumbered_is}
use Rattle.spf_rel.proofs.renumber.+renumbered.Goals as goal

pub renumbered-renumbered_atom-requires : goal.renumbered-renumbered_atom-requires
renumbered-renumbered_atom-requires t c =
    let fits = at_mono (λ (number : ℕ). moved c.args.blocks.now number < 2 ^ 32) c.args.term.now c.requires c.as_slice-mono-items.result.now c.as_slice-mono-items.ensures
    c.loop-mono.mono-index c.mono-item.result c.loop-mono-test.true c.mono-item.is in
    search (rules, the_lemmas)

pub renumbered-returns : goal.renumbered-returns
renumbered-returns t c =
    let is = renumbered_is (moved c.args.blocks.now) c.args.term.now in
    grind (arith, common_steps)
