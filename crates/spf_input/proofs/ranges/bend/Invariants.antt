use Rattle.std.proofs.Common.{◌≡◌, ◌-◌, drop}
use Rattle.spf_input.specs.Rules.{bend_from}
use Rattle.spf_input.proofs.ranges.bend.Given as goal

abbrev pub invariant-loop-place : goal.invariant-loop-place
invariant-loop-place l = bend_from l.trend (l.place - 1) (drop (l.place - 1) l.numbers) ≡ bend_from l.trend 0 l.numbers
