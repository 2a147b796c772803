use Rattle.std.proofs.Common.{◌≡◌, ℕ, All, List, subst}
use Rattle.std.specs.Prelude.{IfOk}
use Rattle.spf_perm.specs.Perm.{IsPerm}
use Rattle.spf_touch.specs.Renaming.{renamed_units}
use Rattle.spf_pack.specs.Packing.{renaming_of}
use Rattle.spf_store.specs.Behavior.{source_behavior}
use Rattle.spf_exec.specs.Running.{Executed, executor_behavior}
use Rattle.spf_job.proofs.jobs.runner.Goals as goal

pub returns : goal.returns
returns c =
    subst (λ (packs : List (List ℕ)). IfOk c.bind.result (λ (runner : Executed). (perms : All IsPerm packs) →
    executor_behavior runner ≡ renamed_units (renaming_of packs perms) (source_behavior c.args.env.now c.args.kernel.now c.args.shape.now.steps)))
    c.in_ok-moved.ensures.packings c.bind.ensures.behavior
