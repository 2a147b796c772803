use Rattle.std.proofs.Common.{◌≡◌, take}
use Rattle.spf_term.proofs.copies.+copy.Given as goal

abbrev pub invariant-copied-loop-mono : goal.invariant-copied-loop-mono
invariant-copied-loop-mono l = l.monos ≡ take l.mono-index l.mono-items
