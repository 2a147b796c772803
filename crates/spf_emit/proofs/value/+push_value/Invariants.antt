use Rattle.std.proofs.Common.{◌≡◌, ◌+◌, ◌++◌, drop}
use Rattle.std.specs.List.{sum_by}
use Rattle.spf_emit.specs.Places.{fact_places, prod_places}
use Rattle.spf_emit.specs.Text.{by_number, fact_part, parts_text, prod_part}
use Rattle.spf_emit.proofs.value.+push_value.Given as goal

-- what is written, and what is still to be, are the whole
abbrev pub invariant-push_prod-loop-n : goal.invariant-push_prod-loop-n
invariant-push_prod-loop-n l = record {
  places : l.at + sum_by fact_places (drop l.n l.fact-items) ≡ l.first + sum_by fact_places l.fact-items;
  text : l.text.items ++ parts_text fact_places (fact_part l.writing.names.now (by_number l.writing.terms.now)) l.n l.at (drop l.n l.fact-items)
      ≡ l.fn.text.items ++ parts_text fact_places (fact_part l.writing.names.now (by_number l.writing.terms.now)) 0 l.first l.fact-items;
}

abbrev pub invariant-push_value-loop-n : goal.invariant-push_value-loop-n
invariant-push_value-loop-n l = record {
  places : l.at + sum_by prod_places (drop l.n l.prod-items) ≡ l.first + sum_by prod_places l.prod-items;
  text : l.text.items ++ parts_text prod_places (prod_part l.writing.names.now (by_number l.writing.terms.now)) l.n l.at (drop l.n l.prod-items)
      ≡ l.fn.text.items ++ parts_text prod_places (prod_part l.writing.names.now (by_number l.writing.terms.now)) 0 l.first l.prod-items;
}
