use Rattle.spf_kernel.proofs.Common.{◌≡◌, ◌++◌, flat_map, take, further_mono}
use Rattle.spf_kernel.proofs.printing.term.+print_term.Given as goal

abbrev pub invariant-push_further_monos-loop-mono : goal.invariant-push_further_monos-loop-mono
invariant-push_further_monos-loop-mono l = l.words ≡ l.fn.words ++ flat_map (further_mono l.shown.names.now l.shown.vars.now) (take l.mono-index l.monos)
