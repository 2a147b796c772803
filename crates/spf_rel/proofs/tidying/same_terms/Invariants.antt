use Rattle.std.proofs.Common.{◌≡◌, drop, length}
use Rattle.spf_rel.specs.Simplified.{same_terms}
use Rattle.spf_rel.proofs.tidying.same_terms.Given as goal

abbrev pub invariant-loop-index : goal.invariant-loop-index
invariant-loop-index l = record {
  long : length l.terms ≡ length l.others;
  same : same_terms l.terms l.others ≡ same_terms (drop l.index l.terms) (drop l.index l.others);
}
