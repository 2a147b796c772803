use Rattle.std.proofs.Common.{◌-◌, ◌≤◌, ◌^◌, min, take}
use Rattle.std.specs.List.{sum_by}
use Rattle.spf_kernel.specs.BodySites.{fact_sites, prod_sites}
use Rattle.spf_exec.proofs.sites.+value_sites.Given as goal

abbrev pub invariant-prod_sites-loop-fact : goal.invariant-prod_sites-loop-fact
invariant-prod_sites-loop-fact l = min (sum_by fact_sites (take l.fact-index l.fact-items)) (2 ^ 64 - 1) ≤ l.count

abbrev pub invariant-value_sites-loop-prod : goal.invariant-value_sites-loop-prod
invariant-value_sites-loop-prod l = min (sum_by prod_sites (take l.prod-index l.prod-items)) (2 ^ 64 - 1) ≤ l.count
