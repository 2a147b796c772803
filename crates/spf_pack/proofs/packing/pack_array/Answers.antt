use Rattle.std.proofs.Common.{◌+◌, ◌∙◌, arith, take}
use Rattle.std.proofs.lemmas.List.{length-take-le}
use Rattle.spf_perm.specs.Perm.{at}
use Rattle.spf_pack.proofs.PackedCells.{in_middle, in_range}
use Rattle.spf_pack.proofs.packing.pack_array.Goals as goal

pub returns-clause-cells : goal.returns-clause-cells
returns-clause-cells c e inside =
    in_middle (take c.args.start c.args.moved.now) c.apply_to.new.to _ c.args.start (at c.args.packing.now e)
    (length-take-le c.args.start c.args.moved.now (omega (arith, c.requires.inside, c.requires.long)))
    (omega (arith, c.apply_to.ensures.length, c.requires.perm.below e inside))
    ∙ c.apply_to.ensures.moved e inside
    ∙ in_range c.args.cells.now c.args.start (c.args.start + c.len.result) e (omega (arith, c.len.ensures, inside))
