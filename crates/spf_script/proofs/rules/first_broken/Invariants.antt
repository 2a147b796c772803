use Rattle.std.proofs.Common.{◌≡◌, ◌+◌, drop}
use Rattle.std.specs.List.{position_from}
use Rattle.spf_script.proofs.rules.first_broken.Given as goal

abbrev pub invariant-loop-one : goal.invariant-loop-one
invariant-loop-one l = (l.rule ≡ l.one-index + 1) × (position_from (λ one. one) l.rule (drop l.one-index l.broken) ≡ position_from (λ one. one) 1 l.broken)
