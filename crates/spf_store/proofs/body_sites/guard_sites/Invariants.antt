use Rattle.std.proofs.Common.{◌≡◌, ◌+◌, take}
use Rattle.std.specs.List.{sum_by}
use Rattle.spf_kernel.specs.BodySites.{assign_sites, cond_sites}
use Rattle.spf_store.proofs.body_sites.guard_sites.Given as goal

abbrev pub invariant-loop-cond : goal.invariant-loop-cond
invariant-loop-cond l = l.count ≡ sum_by cond_sites (take l.cond-index l.cond-items)

abbrev pub invariant-loop-assign : goal.invariant-loop-assign
invariant-loop-assign l = l.count ≡ sum_by cond_sites l.fn.guard.conds + sum_by assign_sites (take l.assign-index l.assign-items)
