use Rattle.spf_kernel.proofs.Common.{arith}
use Rattle.spf_kernel.proofs.kernel.Kernel.data_sites.Goals as goal
use Rattle.spf_kernel.proofs.BodySites.{few_data_sites}

pub data_sites-requires : goal.data_sites-requires
data_sites-requires c = few_data_sites c.tree.result.now c.tree.ensures.parsed

pub returns-clause-few : goal.returns-clause-few
returns-clause-few c = omega (arith, few_data_sites c.tree.result.now c.tree.ensures.parsed, c.data_sites.ensures)
