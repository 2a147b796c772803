use Rattle.std.proofs.Common.{◌≡◌, map, take}
use Rattle.spf_term.specs.Wide.{plain_mono}
use Rattle.spf_term.specs.Normal.{normal_mono}
use Rattle.spf_term.proofs.normals.+normal.Given as goal

abbrev pub invariant-normal_wide-loop-mono : goal.invariant-normal_wide-loop-mono
invariant-normal_wide-loop-mono l = map plain_mono l.monos.items ≡ map normal_mono (take l.mono-index l.mono-items)
