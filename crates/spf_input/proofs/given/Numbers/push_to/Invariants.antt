use Rattle.std.proofs.Common.{◌≡◌, ◌-◌, ◌++◌, FitsSigned}
use Rattle.std.specs.Int.{w64}
use Rattle.std.specs.List.{AllByRecursion}
use Rattle.spf_lex.specs.Tokens.{texts}
use Rattle.spf_input.specs.Given.{numbers_between}
use Rattle.spf_input.specs.Tested.{listed}
use Rattle.spf_input.proofs.given.Numbers.push_to.Given as goal

abbrev pub invariant-loop-read : goal.invariant-loop-read
invariant-loop-read l =
    let rest = numbers_between (texts l.self.tokens.now) l.at l.self.to in
    record {
      pushed : l.list.items ++ rest ≡ l.fn.list.items ++ listed l.self;
      fits : AllByRecursion (FitsSigned w64) rest;
    }

abbrev pub decreases-loop-read : goal.decreases-loop-read
decreases-loop-read l = l.self.to - l.at
