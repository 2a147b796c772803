use Rattle.std.proofs.Common.{◌+◌, ◌≤◌, arith, refl}
use Rattle.std.proofs.lemmas.Option.{slice_get_read}
use Rattle.spf_space.specs.Layout.{cells_in}
use Rattle.spf_store.proofs.Adjacent.{end_within}
use Rattle.spf_access.proofs.compare.element.Goals as goal

ends : (c : goal.Then-inside-shape) → c.in-Some.shape.now.start + c.in-Some.shape.now.length ≤ 0 + cells_in c.args.arrays.now
ends c =
    let look = c.in-Some.ensures.lookup in
    let there = slice_get_read c.args.arrays.now _ c.args.array c.in-Some.shape.now refl look.3.0 look.1 in
    (end_within 0 c.args.arrays.now c.args.array c.in-Some.shape.now c.requires.adjacent there).1

pub overflow_add-result : goal.overflow_add-result
overflow_add-result c = omega (arith, ends c)

pub returns-in-Ok-clause-inside : goal.returns-in-Ok-clause-inside
returns-in-Ok-clause-inside c = omega (arith, ends c)
