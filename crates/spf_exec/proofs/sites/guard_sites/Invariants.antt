use Rattle.std.proofs.Common.{◌+◌, ◌-◌, ◌≤◌, ◌^◌, min, take}
use Rattle.std.specs.List.{sum_by}
use Rattle.spf_kernel.specs.BodySites.{assign_sites, cond_sites}
use Rattle.spf_exec.proofs.sites.guard_sites.Given as goal

abbrev pub invariant-loop-cond : goal.invariant-loop-cond
invariant-loop-cond l = min (sum_by cond_sites (take l.cond-index l.cond-items)) (2 ^ 64 - 1) ≤ l.count

abbrev pub invariant-loop-assign : goal.invariant-loop-assign
invariant-loop-assign l = min (sum_by cond_sites l.fn.guard.conds + sum_by assign_sites (take l.assign-index l.assign-items)) (2 ^ 64 - 1) ≤ l.count
