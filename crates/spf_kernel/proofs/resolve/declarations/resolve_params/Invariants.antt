use Rattle.spf_kernel.proofs.Common.{◌≡◌, map, take, texts, text_of}
use Rattle.spf_kernel.proofs.resolve.declarations.resolve_params.Given as goal

abbrev pub invariant-loop-token : goal.invariant-loop-token
invariant-loop-token l = l.all ≡ map (text_of (texts l.source.tokens.now)) (take l.token-index l.params)
