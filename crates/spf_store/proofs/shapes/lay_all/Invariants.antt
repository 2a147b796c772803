use Rattle.std.proofs.Common.{◌≡◌, ◌+◌, ◌++◌, take}
use Rattle.spf_store.specs.Shaped.{array_shapes, sizes}
use Rattle.spf_store.proofs.shapes.lay_all.Given as goal

abbrev pub invariant-loop-array : goal.invariant-loop-array
invariant-loop-array l = record {
  shapes : l.laid.shapes ≡ l.fn.laid.shapes ++ array_shapes l.env l.fn.laid.end (take l.array-index l.arrays);
  end : l.laid.end ≡ l.fn.laid.end + sizes l.env (take l.array-index l.arrays);
}
