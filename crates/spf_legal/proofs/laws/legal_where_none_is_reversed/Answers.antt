use Rattle.spf_legal.proofs.Reversed.{legal_from_none}
use Rattle.spf_legal.proofs.laws.legal_where_none_is_reversed.Goals as goal

pub returns : goal.returns
returns c touches steps loops tiles orders places = legal_from_none steps loops tiles orders places touches
