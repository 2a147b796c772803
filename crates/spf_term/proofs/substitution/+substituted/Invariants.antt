use Rattle.std.proofs.Common.{◌≡◌, ◌+ℤ◌, map, take}
use Rattle.spf_term.specs.Normal.{normal_mono}
use Rattle.spf_term.specs.Wide.{plain_mono}
use Rattle.spf_term.specs.declared.term.Term.{out-Term}
use Rattle.spf_term.proofs.Substituted.{constants, parts}
use Rattle.spf_term.proofs.substitution.+substituted.Given as goal

abbrev pub invariant-substituted_wide-loop-mono : goal.invariant-substituted_wide-loop-mono
invariant-substituted_wide-loop-mono l = record {
  made : map plain_mono l.monos.items ≡ map normal_mono (parts l.var l.by (take l.mono-index l.mono-items));
  sum : l.constant ≡ (out-Term l.term).constant +ℤ constants l.var l.by (take l.mono-index l.mono-items);
}
