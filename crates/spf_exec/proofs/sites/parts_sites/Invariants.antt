use Rattle.std.proofs.Common.{◌-◌, ◌≤◌, ◌^◌, min, take}
use Rattle.std.specs.List.{sum_by}
use Rattle.spf_kernel.specs.BodySites.{part_sites}
use Rattle.spf_exec.proofs.sites.parts_sites.Given as goal

abbrev pub invariant-loop-part : goal.invariant-loop-part
invariant-loop-part l = min (sum_by part_sites (take l.part-index l.parts)) (2 ^ 64 - 1) ≤ l.count
