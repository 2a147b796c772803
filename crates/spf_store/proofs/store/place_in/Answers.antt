use Rattle.std.proofs.Common.{arith, refl}
use Rattle.std.proofs.lemmas.Option.{slice_get_read}
use Rattle.spf_store.proofs.Adjacent.{start_is}
use Rattle.spf_store.proofs.store.place_in.Goals as goal

pub returns-then-place-shape : goal.returns-then-place-shape
returns-then-place-shape c =
    let arrays = c.args.arrays.now in
    let there = slice_get_read arrays _ c.loop-array.array _ refl c.loop-array-test.true c.index-arrays-array.is in
    let start = start_is 0 arrays c.loop-array.array _ c.requires.adjacent there in
    record { shape = _; there = there; inside = c.if-place-shape.true; lies = omega (arith, start, c.loop-array.invariant) }
