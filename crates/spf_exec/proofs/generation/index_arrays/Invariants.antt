use Rattle.std.proofs.Common.{◌≡◌, ◌≤◌, length, take}
use Rattle.std.specs.List.{flat_map}
use Rattle.spf_kernel.specs.TreeNames.{tables_of}
use Rattle.spf_exec.proofs.generation.index_arrays.Given as goal

abbrev pub invariant-loop-decl : goal.invariant-loop-decl
invariant-loop-decl l = record {
  counted : l.count ≡ length (flat_map tables_of (take l.decl-index l.decls));
  few : l.count ≤ l.decl-index;
}
