use Rattle.std.proofs.Common.{◌≡◌, drop}
use Rattle.spf_input.specs.Rules.{bad_trend_of, first}
use Rattle.spf_input.proofs.ranges.test_trends.Given as goal

abbrev pub invariant-loop-decl : goal.invariant-loop-decl
invariant-loop-decl l = first (bad_trend_of l.entries) (drop l.decl-index l.decls) ≡ first (bad_trend_of l.entries) l.decls
