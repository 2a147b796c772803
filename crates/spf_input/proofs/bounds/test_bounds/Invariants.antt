use Rattle.std.proofs.Common.{◌≡◌, drop}
use Rattle.spf_input.specs.Rules.{bad_bound_of, first}
use Rattle.spf_input.proofs.bounds.test_bounds.Given as goal

abbrev pub invariant-loop-each : goal.invariant-loop-each
invariant-loop-each l = first (bad_bound_of l.env) (drop l.each-index l.loops) ≡ first (bad_bound_of l.env) l.loops
