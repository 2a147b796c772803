use Rattle.std.proofs.Common.{◌≡◌, ℕ, List, drop, map}
use Rattle.spf_kernel.specs.declared.tree.DataDecl.{DataDecl}
use Rattle.spf_input.specs.Rules.{first, given_names, is_among, unless}
use Rattle.spf_input.proofs.lookup.test_arrays.Given as goal

abbrev pub invariant-loop-array : goal.invariant-loop-array
invariant-loop-array l =
    let find = λ (name : List ℕ). unless (is_among (given_names l.entries) name) name in
    first find (map (λ (array : DataDecl). array.name) (drop l.array-index l.arrays)) ≡ first find (map (λ (array : DataDecl). array.name) l.arrays)
