use Rattle.std.proofs.Common.{◌≡◌, drop}
use Rattle.std.specs.List.{find}
use Rattle.spf_term.specs.NumberRule.{is_outside, numbers}
use Rattle.spf_term.specs.declared.term.Term.{out-Term}
use Rattle.spf_term.proofs.Numbers.{list_numbers}
use Rattle.spf_term.proofs.number_rule.+first_outside.Given as goal

abbrev pub invariant-first_outside-loop-mono : goal.invariant-first_outside-loop-mono
invariant-first_outside-loop-mono l = find is_outside (list_numbers (drop l.mono-index l.mono-items) (out-Term l.term).constant) ≡ find is_outside (numbers l.term)
