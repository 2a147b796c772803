use Rattle.std.proofs.Common.{arith}
use Rattle.spf_touch.proofs.Lists.{cut_at, is_once, length-range}
use Rattle.spf_touch.proofs.touches.list_at.Goals as goal

pub part-requires-clause-order : goal.part-requires-clause-order
part-requires-clause-order c =
    let at = is_once c.args.touches.now 0 c.args.ends.now c.args.list 0 c.requires.lists c.requires.there in
    omega (arith, at.0, c.start_of.ensures)

pub part-requires-clause-inside : goal.part-requires-clause-inside
part-requires-clause-inside c = (is_once c.args.touches.now 0 c.args.ends.now c.args.list 0 c.requires.lists c.requires.there).1

pub returns-clause-list : goal.returns-clause-list
returns-clause-list c = rw (c.part.ensures, c.start_of.ensures) (cut_at c.args.touches.now 0 c.args.ends.now c.args.list 0 c.requires.there)

pub returns-clause-once : goal.returns-clause-once
returns-clause-once c = rw (c.part.ensures, c.start_of.ensures) (is_once c.args.touches.now 0 c.args.ends.now c.args.list 0 c.requires.lists c.requires.there).2

pub returns-clause-short : goal.returns-clause-short
returns-clause-short c =
    let at = is_once c.args.touches.now 0 c.args.ends.now c.args.list 0 c.requires.lists c.requires.there in
    rw (c.part.ensures, c.start_of.ensures) (length-range c.args.touches.now _ _ at.0 at.1)
