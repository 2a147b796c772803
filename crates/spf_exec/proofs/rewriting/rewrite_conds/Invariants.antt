use Rattle.std.proofs.Common.{◌≡◌, ◌++◌, map, take}
use Rattle.std.specs.List.{flat_map}
use Rattle.spf_exec.specs.BodyTerms.{cond_terms}
use Rattle.spf_exec.specs.Placeable.{rewriting_of}
use Rattle.spf_exec.specs.Rewritten.{rewritten_cond}
use Rattle.spf_exec.proofs.rewriting.rewrite_conds.Given as goal

abbrev pub invariant-loop-cond : goal.invariant-loop-cond
invariant-loop-cond l = record {
  listed : l.terms ≡ l.fn.terms ++ flat_map (cond_terms (rewriting_of l.placing)) (take l.cond-index l.conds);
  made : l.rewritten ≡ map (rewritten_cond (rewriting_of l.placing)) (take l.cond-index l.conds);
}
