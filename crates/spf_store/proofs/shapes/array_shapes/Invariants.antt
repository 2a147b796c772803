use Rattle.std.proofs.Common.{◌≡◌, take, flat_map}
use Rattle.spf_store.specs.Shaped.{array_shapes, data_in, sizes}
use Rattle.spf_store.proofs.shapes.array_shapes.Given as goal

abbrev pub invariant-loop-decl : goal.invariant-loop-decl
invariant-loop-decl l = record {
  shapes : l.laid.shapes ≡ array_shapes l.env 0 (flat_map data_in (take l.decl-index l.decls));
  end : l.laid.end ≡ sizes l.env (flat_map data_in (take l.decl-index l.decls));
}
