use Rattle.std.proofs.Common.{◌≡◌, ℕ, List, map, take, ◌||◌}
use Rattle.spf_kernel.specs.declared.tree.DataDecl.{DataDecl}
use Rattle.spf_input.specs.Rules.{is_among}
use Rattle.spf_input.proofs.names.add_arrays.Given as goal

abbrev pub invariant-loop-array : goal.invariant-loop-array
invariant-loop-array l = (name : List ℕ) → is_among l.set name ≡ (is_among l.fn.set name || is_among (map (λ (array : DataDecl). array.name) (take l.array-index l.arrays)) name)
