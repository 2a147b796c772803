use Rattle.std.proofs.Common.{◌+◌, ◌∙◌, arith, length, drop, subst, sym}
use Rattle.spf_perm.specs.Perm.{IsPerm}
use Rattle.spf_pack.proofs.PackedCells.{AreAhead, next_of, none_left, one_less, packed_all, packed_more}
use Rattle.spf_pack.proofs.packing.pack_arrays.Goals as goal

pub pack_array-requires-clause-perm : goal.pack_array-requires-clause-perm
pack_array-requires-clause-perm c = subst IsPerm (sym c.packing-item.is) (c.requires.perms c.loop-packing.packing-index c.packing-item.result c.loop-packing-test.true)

pub loop-packing-preserved : goal.loop-packing-preserved
loop-packing-preserved c =
    let packings = c.args.packings.now in
    let rest = drop (c.loop-packing.packing-index + 1) packings in
    let perm = subst IsPerm (sym c.packing-item.is) (c.requires.perms c.loop-packing.packing-index c.packing-item.result c.loop-packing-test.true) in
    let ahead = subst (λ left. AreAhead packings left c.loop-packing.start (length c.args.cells.now))
    (next_of packings c.loop-packing.packing-index c.packing-item.result c.loop-packing-test.true c.packing-item.is) c.loop-packing.invariant.ahead in
    record {
      long = c.pack_array.ensures.long ∙ c.loop-packing.invariant.long;
      ahead = rw c.len.ensures (one_less packings rest c.packing-item.result c.loop-packing.start (length c.args.cells.now) ahead);
      done = rw c.len.ensures (packed_more packings rest c.packing-item.result c.loop-packing.start c.args.cells.now c.loop-packing.moved c.pack_array.new.moved ahead
          c.pack_array.ensures.cells c.pack_array.ensures.before perm c.loop-packing.invariant.done);
    }

pub returns-clause-cells : goal.returns-clause-cells
returns-clause-cells c =
    let packings = c.args.packings.now in
    let ahead = subst (λ left. AreAhead packings left c.loop-packing.start (length c.args.cells.now))
    (none_left packings c.loop-packing.packing-index (omega (arith, c.loop-packing-test.false))) c.loop-packing.invariant.ahead in
    packed_all packings c.loop-packing.start c.args.cells.now c.loop-packing.moved ahead c.requires.cells c.loop-packing.invariant.long c.loop-packing.invariant.done
