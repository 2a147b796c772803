use Rattle.std.proofs.Common.{◌≡◌, take}
use Rattle.spf_kernel.specs.TreeNames.{names_in}
use Rattle.spf_emit.proofs.names.declared.Given as goal

abbrev pub invariant-loop-decl : goal.invariant-loop-decl
invariant-loop-decl l = record {
  params : l.names.params ≡ (names_in (take l.decl-index l.decls)).params;
  functions : l.names.functions ≡ (names_in (take l.decl-index l.decls)).tables;
  arrays : l.names.arrays ≡ (names_in (take l.decl-index l.decls)).arrays;
}
