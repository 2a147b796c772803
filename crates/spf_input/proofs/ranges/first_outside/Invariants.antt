use Rattle.std.proofs.Common.{◌≡◌, drop, not}
use Rattle.std.specs.List.{position_from}
use Rattle.spf_input.specs.Rules.{first_outside, is_entry}
use Rattle.spf_input.proofs.ranges.first_outside.Given as goal

abbrev pub invariant-loop-number : goal.invariant-loop-number
invariant-loop-number l = record {
  rest : position_from (λ number. not (is_entry l.range.start l.range.end number)) l.place (drop l.number-index l.numbers) ≡ first_outside l.range.start l.range.end l.numbers;
  each : l.place ≡ l.number-index;
}
