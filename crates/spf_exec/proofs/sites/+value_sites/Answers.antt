use Rattle.std.proofs.Common.{arith}
use Rattle.std.proofs.lemmas.Grind.{common_steps}
use Rattle.spf_store.proofs.SiteCounts.{value_sites_are}
use Rattle.spf_exec.proofs.sites.+value_sites.Goals as goal

pub value_sites-returns : goal.value_sites-returns
value_sites-returns t c = let sites = value_sites_are c.args.value.now in grind (arith, common_steps)
