use Rattle.std.proofs.Common.{arith}
use Rattle.spf_emit.proofs.Indents.{depth_within}
use Rattle.spf_emit.proofs.statement.push_guard.Goals as goal

pub overflow_add-depth : goal.overflow_add-depth
overflow_add-depth c =
    let within = depth_within c.args.text.now.items c.push_indent.new.text.items c.args.depth c.in_ok-push_indent.ensures in
    omega (arith, within, c.push_indent.new.text.small)
