use Rattle.std.proofs.Common.{ℕ, ℤ, List, length, ap, sym, ◌∙◌}
use Rattle.spf_pack.specs.Packing.{packed_element, renaming_of}
use Rattle.spf_space.specs.Layout.{cells_in}
use Rattle.spf_store.specs.Behavior.{source_behavior}
use Rattle.spf_store.specs.Stored.{Stored}
use Rattle.spf_core.specs.Replay.{values_of}
use Rattle.spf_exec.specs.Running.{executor_behavior}
use Rattle.spf_job.proofs.PlanMoves.{have_packings}
use Rattle.spf_job.proofs.PlanParts.{all_perms, ran_packed}
use Rattle.spf_job.proofs.running.run_tiles.Goals as goal

pub fetch-requires-clause-store : goal.fetch-requires-clause-store
fetch-requires-clause-store c =
    let arrays = ap (λ (stored : Stored). stored.arrays) c.store.view_is ∙ c.requires.arrays ∙ sym c.requires.sourced.shape_is.arrays in
    let cells = c.packing_is_renaming.ensures.cells c.args.shape.now.arrays c.args.plan.now.packs (have_packings c.args.shape.now.arrays c.args.plan.now.packs c.requires.plan.packed) in
    rw (c.packs.ensures, cells) (ap (λ (stored : Stored). length stored.cells) (sym c.store.view_is) ∙ (sym c.store.invariant.filled ∙ ap cells_in arrays))

pub fetch-requires-clause-cells : goal.fetch-requires-clause-cells
fetch-requires-clause-cells c =
    let arrays = ap (λ (stored : Stored). stored.arrays) c.store.view_is ∙ c.requires.arrays ∙ sym c.requires.sourced.shape_is.arrays in
    let cells = c.packing_is_renaming.ensures.cells c.args.shape.now.arrays c.args.plan.now.packs (have_packings c.args.shape.now.arrays c.args.plan.now.packs c.requires.plan.packed) in
    let filled = ap (λ (stored : Stored). length stored.cells) (sym c.store.view_is) ∙ (sym c.store.invariant.filled ∙ ap cells_in arrays) in
    rw (c.packs.ensures, cells) (ap length c.as_slice.ensures.value ∙ (c.in_ok-cells.ensures.count ∙ (c.in_ok-job.ensures.count ∙ filled)))

pub returns-clause-cells : goal.returns-clause-cells
returns-clause-cells c e =
    let plan = c.args.plan.now in
    let steps = c.args.shape.now.steps in
    let source = source_behavior c.args.env.now c.args.kernel.now steps in
    let perms = all_perms plan.packs c.requires.plan.packed.perms in
    let renaming = renaming_of plan.packs perms in
    let here = values_of c.args.store.now.cells in
    let there = values_of c.in_ok-job.job.tiling.cells in
    c.fetch.ensures.cells e
    ∙ (ap (λ (packs : List (List ℕ)). values_of c.as_slice.result.now (packed_element packs e)) c.packs.ensures
    ∙ (ap (λ (cells : List ℤ). values_of cells (packed_element plan.packs e)) c.as_slice.ensures.value
    ∙ (c.in_ok-cells.ensures.cells (packed_element plan.packs e)
    ∙ (ran_packed (executor_behavior c.in_ok-job.job.units) source renaming (c.in_ok-job.ensures.units perms) there here c.in_ok-job.ensures.cells
    (c.renamed_units_do_the_same.ensures.values renaming source) e
    ∙ c.ascending_units_are_the_source.ensures.source c.args.env.now c.args.kernel.now steps here e))))
