use Rattle.std.proofs.Common.{◌≡◌, drop}
use Rattle.spf_kernel.specs.declared.tree.DataDecl.{DataDecl}
use Rattle.spf_input.specs.Rules.{first, bad_length_of}
use Rattle.spf_input.proofs.sizes.test_array_lengths.Given as goal

abbrev pub invariant-loop-array : goal.invariant-loop-array
invariant-loop-array l =
    let find = λ (array : DataDecl). bad_length_of l.env l.entries array.name array.size in
    first find (drop l.array-index l.arrays) ≡ first find l.arrays
