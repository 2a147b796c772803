use Rattle.std.proofs.Common.{◌≡◌, ◌++◌, map, take}
use Rattle.spf_term.specs.Wide.{plain_mono}
use Rattle.spf_term.proofs.Substituted.{normal_product}
use Rattle.spf_term.proofs.substitution.push_scaled.Given as goal

abbrev pub invariant-loop-mono : goal.invariant-loop-mono
invariant-loop-mono l = map plain_mono l.monos.items ≡ map plain_mono l.fn.monos.items ++ map (normal_product l.factor) (take l.mono-index l.mono-items)
