use Rattle.std.proofs.Common.{◌-◌, ◌≤◌, ◌^◌, min, take}
use Rattle.std.specs.List.{sum_by}
use Rattle.spf_kernel.specs.BodySites.{item_sites}
use Rattle.spf_exec.proofs.sites.has_few_sites.Given as goal

abbrev pub invariant-loop-item : goal.invariant-loop-item
invariant-loop-item l = min (sum_by item_sites (take l.item-index l.items)) (2 ^ 64 - 1) ≤ l.count
