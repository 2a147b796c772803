use Rattle.std.proofs.Common.{arith, rules}
use Rattle.std.proofs.lemmas.Grind.{common_steps}
use Rattle.spf_kernel.specs.declared.tree.Value.{the_lemmas}
use Rattle.spf_store.proofs.Rows.{prod_kept}
use Rattle.spf_exec.specs.Placeable.{placeable, rewriting_of}
use Rattle.spf_exec.proofs.KeptPlaces.{value_listed, value_made}
use Rattle.spf_exec.proofs.rewriting.+rewrite_value.Goals as goal

pub rewrite_value-rewrite_prod-requires : goal.rewrite_value-rewrite_prod-requires
rewrite_value-rewrite_prod-requires t c =
    let good = prod_kept placeable c.args.value.now c.as_slice-prod-items.result.now c.loop-prod.prod-index c.prod-item.result c.as_slice-prod-items.ensures c.loop-prod-test.true c.prod-item.is c.requires.placeable in
    search (rules, the_lemmas)

pub rewrite_value-returns : goal.rewrite_value-returns
rewrite_value-returns t c =
    let listed = value_listed (rewriting_of c.args.placing.now) c.args.value.now in
    let made = value_made (rewriting_of c.args.placing.now) c.args.value.now in
    grind (arith, common_steps)
