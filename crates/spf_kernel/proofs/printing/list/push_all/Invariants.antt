use Rattle.spf_kernel.proofs.Common.{◌≡◌, ◌++◌, flat_map, take}
use Rattle.spf_kernel.proofs.printing.list.push_all.Given as goal

abbrev pub invariant-loop-part : goal.invariant-loop-part
invariant-loop-part g l = l.words ≡ l.fn.words ++ flat_map (g.T.Print.printed l.shown.names.now l.shown.vars.now) (take l.part-index l.parts)
