use Rattle.std.proofs.Common.{sym, ◌∙◌, refl, rules}
use Rattle.std.specs.List.{list_any}
use Rattle.std.specs.Str.{bytes_eq}
use Rattle.spf_reltext.specs.Names.{inserted}
use Rattle.spf_reltext.proofs.NameLists.{list_any-map, map-insert_key}
use Rattle.spf_reltext.proofs.name_set.NameSet.insert.Goals as goal
use Rattle.spf_reltext.proofs.name_set.NameSet.insert.Goals.{in-Ok, in-Err}

pub returns-then-contains-clause-inserted : goal.returns-then-contains-clause-inserted
returns-then-contains-clause-inserted c =
    let found = (λ i. list_any (bytes_eq (sym c.bytes.ensures.bytes i)) (sym c.self.view_is i)) ∙ list_any-map (λ name. name.items) (bytes_eq c.bytes.result.now) c.self.inside.names.keys
    ∙ sym c.contains.ensures ∙ c.if-contains.true in
    rw found refl

pub returns-clause-inserted : goal.returns-clause-inserted
returns-clause-inserted c = elim c.match-insert.branch [
  | in-Ok w ↦
      let bytes = c.in_ok-copy.ensures.items ∙ c.bytes-2.ensures.bytes in
      rw (w.result-is, w.in-Ok.ensures.keys) (map-insert_key (λ name. name.items) bytes_eq c.self.inside.names.keys c.in_ok-copy.copy ∙ (λ i. inserted (c.self.view_is i) (bytes i)))
  | in-Err w ↦ rw w.result-is (search rules)
]
