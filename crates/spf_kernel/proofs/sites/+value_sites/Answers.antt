use Rattle.spf_kernel.proofs.Common.{of_data, ◌≤◌, arith, common_steps, prod_sites, rules, the_lemmas}
use Rattle.spf_kernel.proofs.sites.+value_sites.Goals as goal
use Rattle.spf_kernel.proofs.SiteSums.{sum_within, value_sites_are}

pub value_sites-prod_sites-count-requires : goal.value_sites-prod_sites-count-requires
value_sites-prod_sites-count-requires t c =
    let e = value_sites_are of_data c.args.value.now in
    let one = sum_within (prod_sites of_data) c.as_slice-prod-items.result.now c.loop-prod.prod-index c.prod-item.result c.loop-prod-test.true c.prod-item.is in
    let few : prod_sites of_data c.prod-item.result ≤ 256 = grind arith in
    search (rules, the_lemmas)

pub value_sites-overflow_add-count : goal.value_sites-overflow_add-count
value_sites-overflow_add-count t c =
    let e = value_sites_are of_data c.args.value.now in
    grind (arith, common_steps)

pub value_sites-returns : goal.value_sites-returns
value_sites-returns t c =
    let e = value_sites_are of_data c.args.value.now in
    grind (arith, common_steps)
