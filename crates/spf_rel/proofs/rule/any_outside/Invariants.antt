use Rattle.std.proofs.Common.{◌≡◌, None, take}
use Rattle.std.specs.List.{find, flat_map}
use Rattle.spf_term.specs.NumberRule.{is_outside, numbers}
use Rattle.spf_rel.proofs.rule.any_outside.Given as goal

abbrev pub invariant-loop-term : goal.invariant-loop-term
invariant-loop-term l = find is_outside (flat_map numbers (take l.term-index l.terms)) ≡ None
