use Rattle.spf_access.proofs.Events.{turn_walks}
use Rattle.spf_access.proofs.walks.WalkVisitorProgress.turn.Goals as goal

pub returns : goal.returns
returns c = turn_walks c.args.self.now.env.now c.args.progress.now c.visit.new.self c.visit.result c.visit.ensures
