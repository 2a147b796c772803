use Rattle.spf_reltext.proofs.RoundTrip.{relation_read, set_read}
use Rattle.spf_reltext.proofs.round_trip.printed_is_read.Goals as goal

pub returns-clause-relation : goal.returns-clause-relation
returns-clause-relation c names new rel tokens = relation_read names new tokens rel

pub returns-clause-set : goal.returns-clause-set
returns-clause-set c names new set tokens = set_read names new tokens set
