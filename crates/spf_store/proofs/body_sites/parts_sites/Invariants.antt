use Rattle.std.proofs.Common.{◌≡◌, take}
use Rattle.std.specs.List.{sum_by}
use Rattle.spf_kernel.specs.BodySites.{part_sites}
use Rattle.spf_store.proofs.body_sites.parts_sites.Given as goal

abbrev pub invariant-loop-part : goal.invariant-loop-part
invariant-loop-part l = l.count ≡ sum_by part_sites (take l.part-index l.parts)
