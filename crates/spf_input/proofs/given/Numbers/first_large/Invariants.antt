use Rattle.std.proofs.Common.{◌≡◌, ◌-◌, ◌≤◌}
use Rattle.std.specs.List.{position_from}
use Rattle.spf_lex.specs.Tokens.{texts}
use Rattle.spf_input.specs.Given.{numbers_between}
use Rattle.spf_input.specs.Rules.{is_large}
use Rattle.spf_input.specs.Tested.{listed}
use Rattle.spf_input.proofs.given.Numbers.first_large.Given as goal

abbrev pub invariant-loop-read : goal.invariant-loop-read
invariant-loop-read l = record {
  rest : position_from is_large l.place (numbers_between (texts l.self.tokens.now) l.at l.self.to) ≡ position_from is_large 0 (listed l.self);
  each : l.place ≤ l.at;
}

abbrev pub decreases-loop-read : goal.decreases-loop-read
decreases-loop-read l = l.self.to - l.at
