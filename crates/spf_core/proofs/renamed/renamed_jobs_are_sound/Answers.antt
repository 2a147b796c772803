use Rattle.spf_core.proofs.RenamedJobs.{sound_moved}
use Rattle.spf_touch.specs.Renaming.{renamed_units}
use Rattle.spf_core.proofs.renamed.renamed_jobs_are_sound.Goals as goal

pub returns : goal.returns
returns c renaming units mine job moved sound alike =
    let theirs = renamed_units renaming units in
    sound_moved units mine job moved sound alike.count
    (λ us legal. (c.alike_units_do_the_same.ensures.orders mine theirs us alike).1 ((c.renamed_units_do_the_same.ensures.orders renaming units us).1 legal))
    (λ u v first second clashes. (c.renamed_units_do_the_same.ensures.conflicts renaming units u v).0 ((c.alike_units_do_the_same.ensures.conflicts mine theirs u v alike first second).0 clashes))
