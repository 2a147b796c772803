use Rattle.std.proofs.Common.{◌≡◌, drop}
use Rattle.spf_script.specs.Rules.{length_of}
use Rattle.spf_script.proofs.rules.length_of.Given as goal

abbrev pub invariant-loop-array : goal.invariant-loop-array
invariant-loop-array l = length_of (drop l.array-index l.arrays) l.name ≡ length_of l.arrays l.name
