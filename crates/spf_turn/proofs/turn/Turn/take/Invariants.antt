use Rattle.std.proofs.Common.{◌≡◌, ℕ, List, All}
use Rattle.spf_turn.specs.Passes.{IsOther, after_misses}
use Rattle.spf_turn.proofs.turn.Turn.take.Given as goal

-- each try found another holder
abbrev pub invariant-loop : goal.invariant-loop
invariant-loop g l = record {
  others : List ℕ;
  other : All (IsOther l.initial.pass) others;
  same : l.pass ≡ after_misses l.initial.pass others;
}
