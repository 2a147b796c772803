-- Numbers that break no rule of the input are the cells of a store.
use Rattle.std.proofs.Common.{◌≡◌, ℕ, ◌+◌, suc, None, refl, sym, ap, arith, List, [], ◌∷◌, length, flat_map}
use Rattle.spf_term.specs.Environment.{Environment}
use Rattle.spf_kernel.specs.Bounded.{IsBoundedTree}
use Rattle.spf_kernel.specs.Parsed.{IsParsed}
use Rattle.spf_kernel.specs.declared.tree.DataDecl.{DataDecl}
use Rattle.spf_kernel.specs.declared.tree.Tree.{Tree}
use Rattle.spf_store.specs.Shaped.{array_shapes, data_in, data_of, size}
use Rattle.spf_store.specs.Stored.{IsStored}
use Rattle.spf_store.proofs.Layouts.{arrays_are_named, laid_out}
use Rattle.spf_input.specs.Given.{Given}
use Rattle.spf_input.specs.Numbers.{cells_of, env_of, param_values, table_values}
use Rattle.spf_input.specs.Rules.{first_fault_of}
use Rattle.spf_input.proofs.Accepting.{accepted}
use Rattle.spf_input.proofs.Filling.{filled}
use Rattle.spf_input.proofs.Plain.{parsed_same}

shapes_length : (env : Environment) (from : ℕ) (arrays : List DataDecl) → length (array_shapes env from arrays) ≡ length arrays
shapes_length env from [] = refl
shapes_length env from (array ∷ arrays) = ap suc (shapes_length env (from + size env array.size) arrays)

pub stored : (tree : Tree) (given : List Given) → IsParsed tree → IsBoundedTree tree → first_fault_of tree given ≡ None
    → IsStored (record { cells = cells_of tree given; arrays = data_of (env_of tree given) tree })
stored tree given parsed bounded unbroken =
    let env = env_of tree given in
    let same = parsed_same (param_values tree given) (table_values tree given) tree parsed in
    let laid = laid_out env tree (accepted tree given same unbroken) bounded bounded.few 0 (omega arith) in
    let fills = filled tree given same unbroken in
    record {
      adjacent = laid.adjacent;
      filled = sym fills;
      cells = omega (arith, fills, laid.cells);
      arrays = omega (arith, shapes_length env 0 (flat_map data_in tree.decls), arrays_are_named tree.decls, bounded.arrays);
    }
