use Rattle.std.proofs.Common.{◌≡◌, ◌++◌, map, take}
use Rattle.std.specs.List.{flat_map}
use Rattle.spf_exec.specs.BodyTerms.{assign_terms}
use Rattle.spf_exec.specs.Placeable.{rewriting_of}
use Rattle.spf_exec.specs.Rewritten.{rewritten_assign}
use Rattle.spf_exec.proofs.rewriting.rewrite_assigns.Given as goal

abbrev pub invariant-loop-assign : goal.invariant-loop-assign
invariant-loop-assign l = record {
  listed : l.terms ≡ l.fn.terms ++ flat_map (assign_terms (rewriting_of l.placing)) (take l.assign-index l.assigns);
  made : l.rewritten ≡ map (rewritten_assign (rewriting_of l.placing)) (take l.assign-index l.assigns);
}
