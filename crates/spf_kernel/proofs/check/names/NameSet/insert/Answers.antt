use Rattle.spf_kernel.proofs.Common.{bytes_eq, rules}
use Rattle.spf_kernel.proofs.check.names.NameSet.insert.Goals as goal
use Rattle.spf_kernel.proofs.check.names.NameSet.insert.Goals.{in-Ok, in-Err}
use Rattle.spf_kernel.proofs.NameLists.{map-insert_key}

pub returns-clause-inserted : goal.returns-clause-inserted
returns-clause-inserted c = elim c.match-insert.branch [
  | in-Ok w ↦ rw (w.result-is, w.in-Ok.ensures.keys, ← c.self.view_is) (map-insert_key (λ name. name.now) bytes_eq c.self.inside.names.keys c.args.name)
  | in-Err w ↦ rw w.result-is (search rules)
]
