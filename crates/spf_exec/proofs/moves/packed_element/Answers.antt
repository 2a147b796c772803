use Rattle.std.proofs.Common.{◌≤◌, length, refl, arith}
use Rattle.std.proofs.lemmas.Option.{slice_get_read}
use Rattle.spf_space.specs.declared.shape.ArrayShape.{ArrayShape}
use Rattle.spf_exec.proofs.Packings.{array_move, behind_array, cells_from, in_array}
use Rattle.spf_exec.proofs.moves.packed_element.Goals as goal

pub returns-then-place-array : goal.returns-then-place-array
returns-then-place-array c =
    let arrays = c.args.arrays.now in
    let moves = c.args.moves.now in
    let n = c.loop-number.number in
    let array : ArrayShape = c.index-arrays-number.result in
    let move = array_move moves arrays c.requires.moves n array (slice_get_read arrays (length arrays) n array refl c.loop-number-test.true c.index-arrays-number.is) in
    let here = in_array moves arrays n array c.loop-number-test.true c.index-arrays-number.is move c.loop-number.place c.if-place-array.true in
    omega (arith, c.loop-number.invariant.rest, here, c.moved_to.ensures)

pub loop-number-preserved : goal.loop-number-preserved
loop-number-preserved c =
    let arrays = c.args.arrays.now in
    let moves = c.args.moves.now in
    let n = c.loop-number.number in
    let array : ArrayShape = c.index-arrays-number.result in
    let behind : array.length ≤ c.loop-number.place = c.if-place-array.false in
    let move = array_move moves arrays c.requires.moves n array (slice_get_read arrays (length arrays) n array refl c.loop-number-test.true c.index-arrays-number.is) in
    record {
      within = omega (arith, c.loop-number.invariant.within);
      cells = omega (arith, behind, c.loop-number.invariant.within, c.loop-number.invariant.cells, cells_from moves arrays n array c.loop-number-test.true c.index-arrays-number.is);
      rest = omega (arith, behind, c.loop-number.invariant.within, c.loop-number.invariant.rest, behind_array moves arrays n array c.loop-number-test.true c.index-arrays-number.is move c.loop-number.place behind);
    }
