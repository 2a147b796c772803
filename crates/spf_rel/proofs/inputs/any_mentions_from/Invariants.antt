use Rattle.std.proofs.Common.{◌≡◌, false, take}
use Rattle.std.specs.List.{list_any}
use Rattle.spf_rel.specs.Function.{mentions_from}
use Rattle.spf_rel.proofs.inputs.any_mentions_from.Given as goal

abbrev pub invariant-loop-term : goal.invariant-loop-term
invariant-loop-term l = list_any (mentions_from l.low) (take l.term-index l.terms) ≡ false
