use Rattle.std.proofs.Common.{[], sym}
use Rattle.std.proofs.lemmas.Option.{get_or_from_slice_get}
use Rattle.spf_grow.proofs.units.touched.Goals as goal

pub returns : goal.returns
returns c = sym (get_or_from_slice_get c.args.touches.now _ c.of.result.now [] (rw c.locals.ensures at c.of.ensures.list))
