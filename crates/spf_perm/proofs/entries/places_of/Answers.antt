use Rattle.std.proofs.Common.{arith}
use Rattle.spf_perm.proofs.Bijections.{inverse_from}
use Rattle.spf_perm.proofs.entries.places_of.Goals as goal

pub returns : goal.returns
returns c = inverse_from c.args.list.now c.loop-place.places.items c.requires c.loop-place.invariant.0 (λ e lt. c.loop-place.invariant.1 e (omega arith))
