use Rattle.std.proofs.Common.{◌≡◌, drop}
use Rattle.std.specs.List.{list_any}
use Rattle.spf_reltext.specs.Rules.{breaks_names}
use Rattle.spf_reltext.proofs.rules.any_breaks_names.Given as goal

abbrev pub invariant-loop-literal : goal.invariant-loop-literal
invariant-loop-literal l = list_any breaks_names (drop l.literal-index l.literals) ≡ list_any breaks_names l.literals
