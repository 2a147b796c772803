use Rattle.std.proofs.Common.{◌≡◌, drop}
use Rattle.spf_kernel.specs.declared.tree.DataDecl.{DataDecl}
use Rattle.spf_input.specs.Rules.{first, bad_size_of}
use Rattle.spf_input.proofs.sizes.test_array_sizes.Given as goal

abbrev pub invariant-loop-array : goal.invariant-loop-array
invariant-loop-array l =
    let find = λ (array : DataDecl). bad_size_of l.env array.name array.size in
    first find (drop l.array-index l.arrays) ≡ first find l.arrays
