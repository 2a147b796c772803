use Rattle.spf_rel.proofs.Formed.{first_formed, has_room, last_formed}
use Rattle.spf_rel.proofs.graphs.graphs_are_formed.Goals as goal

pub returns-clause-first : goal.returns-clause-first
returns-clause-first c ins terms last h = first_formed ins terms last h

pub returns-clause-last : goal.returns-clause-last
returns-clause-last c ins terms last h = last_formed ins terms last h

pub returns-clause-room : goal.returns-clause-room
returns-clause-room c ins terms last h = has_room ins terms last h
