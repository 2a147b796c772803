use Rattle.spf_kernel.proofs.Common.{sym, bytes_eq}
use Rattle.spf_kernel.proofs.check.names.NameSet.number.Goals as goal
use Rattle.spf_kernel.proofs.NameLists.{position_or_len-map, unwrap_or-position}

pub returns-clause-number : goal.returns-clause-number
returns-clause-number c =
    rw (c.unwrap_or.ensures, c.get_index_of.ensures.index, c.len.ensures.len, unwrap_or-position, ← c.self.view_is)
    (sym (position_or_len-map (λ name. name.now) (bytes_eq c.args.name.now) c.self.inside.names.keys))
