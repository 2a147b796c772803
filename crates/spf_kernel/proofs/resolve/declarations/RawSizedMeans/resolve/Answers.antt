use Rattle.spf_kernel.proofs.Common.{arith}
use Rattle.spf_kernel.proofs.resolve.declarations.RawSizedMeans.resolve.Goals as goal

pub resolve_name-requires : goal.resolve_name-requires
resolve_name-requires c = c.requires 0 c.args.self.now.name (omega arith)
