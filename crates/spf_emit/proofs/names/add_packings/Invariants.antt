use Rattle.std.proofs.Common.{◌≡◌, ◌++◌, map, take}
use Rattle.spf_emit.specs.Naming.{packing_name}
use Rattle.spf_emit.proofs.names.add_packings.Given as goal

abbrev pub invariant-loop-array : goal.invariant-loop-array
invariant-loop-array l = l.names ≡ l.fn.names ++ map packing_name (take l.array-index l.arrays)
