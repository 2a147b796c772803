use Rattle.std.proofs.Common.{◌+◌, ◌∙◌, arith, length, drop, subst}
use Rattle.spf_pack.proofs.PackedCells.{AreAhead, next_of, none_left, one_less, unpacked_all, unpacked_more}
use Rattle.spf_pack.proofs.packing.unpack.Goals as goal

pub loop-packing-preserved : goal.loop-packing-preserved
loop-packing-preserved c =
    let packings = c.args.packings.now in
    let rest = drop (c.loop-packing.packing-index + 1) packings in
    let ahead = subst (λ left. AreAhead packings left c.loop-packing.start (length c.args.cells.now))
    (next_of packings c.loop-packing.packing-index c.packing-item.result c.loop-packing-test.true c.packing-item.is) c.loop-packing.invariant.ahead in
    record {
      long = c.unpack_array.ensures.long ∙ c.loop-packing.invariant.long;
      ahead = rw c.len.ensures (one_less packings rest c.packing-item.result c.loop-packing.start (length c.args.cells.now) ahead);
      done = rw c.len.ensures (unpacked_more packings rest c.packing-item.result c.loop-packing.start c.args.cells.now c.loop-packing.out c.unpack_array.new.out ahead
          c.unpack_array.ensures.cells c.unpack_array.ensures.before c.loop-packing.invariant.done);
    }

pub returns-clause-cells : goal.returns-clause-cells
returns-clause-cells c =
    let packings = c.args.packings.now in
    let ahead = subst (λ left. AreAhead packings left c.loop-packing.start (length c.args.cells.now))
    (none_left packings c.loop-packing.packing-index (omega (arith, c.loop-packing-test.false))) c.loop-packing.invariant.ahead in
    unpacked_all packings c.loop-packing.start c.args.cells.now c.loop-packing.out ahead c.requires.cells c.loop-packing.invariant.long c.loop-packing.invariant.done
