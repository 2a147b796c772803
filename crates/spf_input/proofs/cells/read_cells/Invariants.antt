use Rattle.std.proofs.Common.{◌≡◌, flat_map, take}
use Rattle.spf_kernel.specs.TreeNames.{arrays_of}
use Rattle.spf_input.specs.Given.{numbers_of}
use Rattle.spf_input.proofs.cells.read_cells.Given as goal

abbrev pub invariant-loop-decl : goal.invariant-loop-decl
invariant-loop-decl l = l.cells.items ≡ flat_map (numbers_of l.entries) (flat_map arrays_of (take l.decl-index l.decls))
