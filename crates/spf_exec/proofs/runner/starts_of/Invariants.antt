use Rattle.std.proofs.Common.{◌≡◌, map, take}
use Rattle.spf_space.specs.declared.shape.ArrayShape.{ArrayShape}
use Rattle.spf_exec.proofs.runner.starts_of.Given as goal

abbrev pub invariant-loop-array : goal.invariant-loop-array
invariant-loop-array l = l.starts.items ≡ map (λ (array : ArrayShape). array.start) (take l.array-index l.arrays)
