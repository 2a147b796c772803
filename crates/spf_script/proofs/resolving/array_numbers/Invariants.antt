use Rattle.std.proofs.Common.{◌≡◌, map, take}
use Rattle.spf_script.specs.Resolved.{array_number}
use Rattle.spf_script.proofs.resolving.array_numbers.Given as goal

abbrev pub invariant-loop-name : goal.invariant-loop-name
invariant-loop-name l = l.numbers ≡ map (array_number l.arrays) (take l.name-index l.names)
