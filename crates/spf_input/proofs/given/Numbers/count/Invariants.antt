use Rattle.std.proofs.Common.{◌≡◌, ◌+◌, ◌-◌, ◌≤◌, length}
use Rattle.spf_lex.specs.Tokens.{texts}
use Rattle.spf_input.specs.Given.{numbers_between}
use Rattle.spf_input.specs.Tested.{listed}
use Rattle.spf_input.proofs.given.Numbers.count.Given as goal

abbrev pub invariant-loop-read : goal.invariant-loop-read
invariant-loop-read l = record {
  counted : l.count + length (numbers_between (texts l.self.tokens.now) l.at l.self.to) ≡ length (listed l.self);
  each : l.count ≤ l.at;
}

abbrev pub decreases-loop-read : goal.decreases-loop-read
decreases-loop-read l = l.self.to - l.at
