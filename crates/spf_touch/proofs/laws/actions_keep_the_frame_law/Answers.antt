use Rattle.std.proofs.Common.{◌≡◌, true}
use Rattle.std.specs.List.{flat_map}
use Rattle.spf_touch.specs.ActionLaw.{action_law}
use Rattle.spf_touch.specs.Actions.{accesses}
use Rattle.spf_touch.proofs.Accessed.{accesses_hold}
use Rattle.spf_touch.proofs.ActionEffects.{actions_effect}
use Rattle.spf_touch.proofs.laws.actions_keep_the_frame_law.Goals as goal

pub returns-clause-frame : goal.returns-clause-frame
returns-clause-frame c = action_law

pub returns-clause-effect : goal.returns-clause-effect
returns-clause-effect c = actions_effect

pub returns-clause-own : goal.returns-clause-own
returns-clause-own c actions owns own = accesses_hold (λ e. owns e ≡ true) (flat_map accesses actions) own
