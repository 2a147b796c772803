use Rattle.std.proofs.Common.{◌≡◌, drop}
use Rattle.std.specs.List.{list_any}
use Rattle.spf_reltext.specs.Rules.{has_long_side}
use Rattle.spf_reltext.proofs.rules.any_has_long_side.Given as goal

abbrev pub invariant-loop-constraint : goal.invariant-loop-constraint
invariant-loop-constraint l = list_any has_long_side (drop l.constraint-index l.constraints) ≡ list_any has_long_side l.constraints
