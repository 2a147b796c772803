use Rattle.spf_tiles.proofs.Sound.{sound}
use Rattle.spf_tiles.proofs.laws.plan_parts_are_sound.Goals as goal

pub returns : goal.returns
returns c = sound
