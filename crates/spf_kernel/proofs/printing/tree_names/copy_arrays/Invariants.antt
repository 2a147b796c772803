use Rattle.spf_kernel.proofs.Common.{◌≡◌, ◌++◌, map, take, DataDecl}
use Rattle.spf_kernel.proofs.printing.tree_names.copy_arrays.Given as goal

abbrev pub invariant-loop-array : goal.invariant-loop-array
invariant-loop-array l = l.names ≡ l.fn.names ++ map (λ (array : DataDecl). array.name) (take l.array-index l.arrays)
