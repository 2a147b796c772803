use Rattle.spf_kernel.proofs.Common.{◌≡◌, take, sum_by}
use Rattle.spf_kernel.proofs.sites.sum.Given as goal

abbrev pub invariant-loop-part : goal.invariant-loop-part
invariant-loop-part g l = l.sum ≡ sum_by g.T.HasSites.sites (take l.part-index l.parts)
