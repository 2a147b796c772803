use Rattle.spf_kernel.proofs.Common.{◌≡◌, take, map, texts, factor_of}
use Rattle.spf_kernel.proofs.resolve.values.+resolve_value.Given as goal
use Rattle.spf_kernel.proofs.TermEquations.{summand_of}

abbrev pub invariant-resolve_summand-loop-factor : goal.invariant-resolve_summand-loop-factor
invariant-resolve_summand-loop-factor l = l.facts ≡ map (factor_of (texts l.source.tokens.now) l.source.names.now l.scope) (take l.factor-index l.factor-items)

abbrev pub invariant-resolve_value-loop-summand : goal.invariant-resolve_value-loop-summand
invariant-resolve_value-loop-summand l = l.prods ≡ map (summand_of (texts l.source.tokens.now) l.source.names.now l.scope) (take l.summand-index l.summand-items)
