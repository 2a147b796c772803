use Rattle.std.proofs.Common.{◌≡◌, ◌++◌, map, take}
use Rattle.std.specs.List.{flat_map}
use Rattle.spf_exec.specs.BodyTerms.{fact_terms, prod_terms}
use Rattle.spf_exec.specs.Placeable.{rewriting_of}
use Rattle.spf_exec.specs.Rewritten.{rewritten_fact, rewritten_prod}
use Rattle.spf_exec.proofs.rewriting.+rewrite_value.Given as goal

abbrev pub invariant-rewrite_prod-loop-fact : goal.invariant-rewrite_prod-loop-fact
invariant-rewrite_prod-loop-fact l = record {
  listed : l.terms ≡ l.fn.terms ++ flat_map (fact_terms (rewriting_of l.placing)) (take l.fact-index l.fact-items);
  made : l.facts ≡ map (rewritten_fact (rewriting_of l.placing)) (take l.fact-index l.fact-items);
}

abbrev pub invariant-rewrite_value-loop-prod : goal.invariant-rewrite_value-loop-prod
invariant-rewrite_value-loop-prod l = record {
  listed : l.terms ≡ l.fn.terms ++ flat_map (prod_terms (rewriting_of l.placing)) (take l.prod-index l.prod-items);
  made : l.prods ≡ map (rewritten_prod (rewriting_of l.placing)) (take l.prod-index l.prod-items);
}
