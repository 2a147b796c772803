use Rattle.std.proofs.Common.{drop}
use Rattle.std.specs.Prelude.{⊤}
use Rattle.spf_store.proofs.Pieces.{AmongPieces}
use Rattle.spf_kernel.specs.BodySites.{fact_sites, prod_sites}
use Rattle.spf_store.specs.Trace.{fact_trace}
use Rattle.spf_access.specs.Progress.{Accepts}
use Rattle.spf_access.specs.ValueTrace.{prod_trace}
use Rattle.spf_access.proofs.walks.+value.Given as goal

abbrev pub invariant-walk_prod-loop-fact : goal.invariant-walk_prod-loop-fact
invariant-walk_prod-loop-fact l =
    AmongPieces (Accepts l.env) (λ progress event. ⊤) fact_sites (fact_trace l.env l.variables) l.fn.progress l.site l.fact-items l.progress l.next (drop l.fact-index l.fact-items)

abbrev pub invariant-walk_value-loop-prod : goal.invariant-walk_value-loop-prod
invariant-walk_value-loop-prod l =
    AmongPieces (Accepts l.env) (λ progress event. ⊤) prod_sites (prod_trace l.env l.variables) l.fn.progress l.site l.prod-items l.progress l.next (drop l.prod-index l.prod-items)
