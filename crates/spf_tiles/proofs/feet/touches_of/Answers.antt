use Rattle.spf_touch.proofs.Members.{in_at}
use Rattle.spf_tiles.proofs.feet.touches_of.Goals as goal

pub push_touches-requires : goal.push_touches-requires
push_touches-requires g c = c.requires _ (in_at c.args.list.now c.loop-unit.unit-index 0 c.loop-unit-test.true)
