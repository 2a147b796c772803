use Rattle.std.proofs.Common.{◌≡◌, ◌+◌, ◌++◌, drop}
use Rattle.std.specs.List.{sum_by}
use Rattle.spf_emit.specs.Places.{cond_places}
use Rattle.spf_emit.specs.Text.{by_number, cond_part, parts_text}
use Rattle.spf_emit.proofs.statement.push_conds.Given as goal

-- what is written, and what is still to be, are the whole
abbrev pub invariant-loop-n : goal.invariant-loop-n
invariant-loop-n l = record {
  places : l.at + sum_by cond_places (drop l.n l.conds) ≡ l.first + sum_by cond_places l.conds;
  text : l.text.items ++ parts_text cond_places (cond_part l.writing.names.now (by_number l.writing.terms.now)) l.n l.at (drop l.n l.conds)
      ≡ l.fn.text.items ++ parts_text cond_places (cond_part l.writing.names.now (by_number l.writing.terms.now)) 0 l.first l.conds;
}
