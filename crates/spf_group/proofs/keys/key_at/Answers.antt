use Rattle.std.proofs.Common.{arith}
use Rattle.spf_group.proofs.Cuts.{cut_at, cut_past}
use Rattle.spf_group.proofs.keys.key_at.Goals as goal

pub returns-then-position-starts : goal.returns-then-position-starts
returns-then-position-starts c = cut_at c.args.parts.now c.args.starts.now c.args.position (omega arith)

pub returns-else-position-starts : goal.returns-else-position-starts
returns-else-position-starts c = cut_past c.args.parts.now c.args.starts.now c.args.position (omega arith)
