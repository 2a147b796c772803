use Rattle.std.proofs.Common.{◌≡◌, take}
use Rattle.spf_top.specs.Texts.{arrays_text}
use Rattle.spf_top.proofs.text.lines.Given as goal

abbrev pub invariant-loop-array : goal.invariant-loop-array
invariant-loop-array l = l.text.items ≡ arrays_text l.cells (take l.array-index l.arrays)
