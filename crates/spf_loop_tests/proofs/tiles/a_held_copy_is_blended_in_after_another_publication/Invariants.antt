use Rattle.std.proofs.Common.{◌≡◌, ◌≤◌}
use Rattle.spf_touch.specs.Ops.{op_behavior}
use Rattle.spf_core.specs.Stand.{IsReplayed, widest_of}
use Rattle.spf_loop_tests.proofs.tiles.a_held_copy_is_blended_in_after_another_publication.Given as goal

-- the state is the job's
abbrev pub invariant-loop-event : goal.invariant-loop-event
invariant-loop-event g l = record {
  order : l.state.order ≡ l.job.tiling.order;
  feet : widest_of l.job.tiling.feet ≤ l.state.widest;
  replayed : IsReplayed (op_behavior l.job.units) l.job.tiling l.state;
}
