use Rattle.std.proofs.Common.{◌≡◌, ◌++◌, map, take}
use Rattle.std.specs.List.{flat_map}
use Rattle.spf_exec.specs.BodyTerms.{part_terms}
use Rattle.spf_exec.specs.Placeable.{rewriting_of}
use Rattle.spf_exec.specs.Rewritten.{rewritten_part}
use Rattle.spf_exec.proofs.rewriting.rewrite_parts.Given as goal

abbrev pub invariant-loop-part : goal.invariant-loop-part
invariant-loop-part l = record {
  listed : l.terms ≡ l.fn.terms ++ flat_map (part_terms (rewriting_of l.placing)) (take l.part-index l.parts);
  made : l.rewritten ≡ map (rewritten_part (rewriting_of l.placing)) (take l.part-index l.parts);
}
