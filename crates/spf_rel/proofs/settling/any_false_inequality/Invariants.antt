use Rattle.std.proofs.Common.{◌≡◌, false, take}
use Rattle.std.specs.List.{list_any}
use Rattle.spf_rel.specs.Simplified.{is_false_inequality}
use Rattle.spf_rel.proofs.settling.any_false_inequality.Given as goal

abbrev pub invariant-loop-term : goal.invariant-loop-term
invariant-loop-term l = list_any is_false_inequality (take l.term-index l.terms) ≡ false
