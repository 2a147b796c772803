use Rattle.std.proofs.Common.{◌≡◌, ◌++◌}
use Rattle.spf_emit.specs.Text.{indent}
use Rattle.spf_emit.proofs.parts.push_indent.Given as goal

abbrev pub invariant-loop-level : goal.invariant-loop-level
invariant-loop-level l = l.text.items ≡ l.fn.text.items ++ indent l._level
