use Rattle.spf_kernel.proofs.Common.{◌≡◌, map, take, texts}
use Rattle.spf_kernel.proofs.resolve.resolve_all.Given as goal

abbrev pub invariant-loop-part : goal.invariant-loop-part
invariant-loop-part g l = l.all ≡ map (g.T.Means.meaning (texts l.source.tokens.now) l.source.names.now l.scope) (take l.part-index l.parts)
