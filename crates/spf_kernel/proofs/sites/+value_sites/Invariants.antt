use Rattle.spf_kernel.proofs.Common.{◌≡◌, take, sum_by, of_data, fact_sites, prod_sites}
use Rattle.spf_kernel.proofs.sites.+value_sites.Given as goal

abbrev pub invariant-prod_sites-loop-fact : goal.invariant-prod_sites-loop-fact
invariant-prod_sites-loop-fact l = l.count ≡ sum_by (fact_sites of_data) (take l.fact-index l.fact-items)

abbrev pub invariant-value_sites-loop-prod : goal.invariant-value_sites-loop-prod
invariant-value_sites-loop-prod l = l.count ≡ sum_by (prod_sites of_data) (take l.prod-index l.prod-items)
