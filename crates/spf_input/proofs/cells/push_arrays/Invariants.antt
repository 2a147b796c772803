use Rattle.std.proofs.Common.{◌≡◌, ◌++◌, flat_map, map, take}
use Rattle.spf_kernel.specs.declared.tree.DataDecl.{DataDecl}
use Rattle.spf_input.specs.Given.{numbers_of}
use Rattle.spf_input.proofs.cells.push_arrays.Given as goal

abbrev pub invariant-loop-array : goal.invariant-loop-array
invariant-loop-array l = l.cells.items ≡ l.fn.cells.items ++ flat_map (numbers_of l.entries) (map (λ (array : DataDecl). array.name) (take l.array-index l.arrays))
