use Rattle.std.proofs.Common.{◌+◌, ◌<◌, ◌^◌, List, All, arith, rules, subst, sym}
use Rattle.std.proofs.lemmas.List.{drop_all}
use Rattle.std.proofs.lemmas.Result.{err_from_is_err_and}
use Rattle.spf_term.proofs.WalkParts.{stopped_walk}
use Rattle.spf_term.specs.Walk.{Through, StopsAt}
use Rattle.std.specs.List.{sum_by}
use Rattle.spf_kernel.specs.declared.tree.Prod.{Prod}
use Rattle.spf_kernel.specs.declared.tree.Value.{the_lemmas}
use Rattle.spf_kernel.specs.BodySites.{prod_sites}
use Rattle.spf_store.specs.Event.{Event}
use Rattle.spf_store.specs.Small.{IsSmallFactor}
use Rattle.spf_store.proofs.Pieces.{at_first, at_last, gone_past, stopped_at}
use Rattle.spf_access.specs.Progress.{Accepts, Refuses}
use Rattle.spf_access.proofs.Values.{items_sites, items_small, items_trace, piece_numbered}
use Rattle.spf_access.proofs.walks.+value.Goals as goal

pub walk_prod-loop-fact-init : goal.walk_prod-loop-fact-init
walk_prod-loop-fact-init t c = at_first _ _ _ _ _ _ _ (λ k d inside. tt)

pub walk_prod-loop-fact-preserved : goal.walk_prod-loop-fact-preserved
walk_prod-loop-fact-preserved t c =
    gone_past _ _ _ _ _ _ _ c.loop-fact.fact-index c.fact-item.result c.loop-fact-test.true c.fact-item.is c.loop-fact.invariant
    (λ before after event other accepted may. tt) c.in_ok-next.ensures.walks c.in_ok-next.ensures.next

pub walk_prod-returns-in_err-next-clause-walks : goal.walk_prod-returns-in_err-next-clause-walks
walk_prod-returns-in_err-next-clause-walks t c =
    stopped_walk c.walk_fact.new.progress (err_from_is_err_and c.from_residual.result c.from_residual.ensures.1)
    (rw c.as_slice-fact-items.ensures at
    (stopped_at _ _ _ _ _ _ _ c.loop-fact.fact-index c.fact-item.result c.loop-fact-test.true c.fact-item.is c.loop-fact.invariant c.in_err-next.ensures.walks))

pub walk_value-loop-prod-init : goal.walk_value-loop-prod-init
walk_value-loop-prod-init t c = at_first _ _ _ _ _ _ _ (λ k d inside. tt)

pub walk_value-walk_prod-requires : goal.walk_value-walk_prod-requires
walk_value-walk_prod-requires t c =
    let items = c.as_slice-prod-items.result.now in
    let count = items_sites c.args.env.now c.args.variables.now c.args.value.now items c.as_slice-prod-items.ensures in
    let IsGood = λ (prod : Prod). All (IsSmallFactor c.args.env.now c.args.variables.now) prod.facts in
    let all = items_small c.args.env.now c.args.variables.now c.args.value.now items c.as_slice-prod-items.ensures c.requires.small in
    let good = subst IsGood (sym c.prod-item.is) (all c.loop-prod.prod-index c.prod-item.result c.loop-prod-test.true) in
    let low : c.args.site + sum_by prod_sites items < 2 ^ 32 = omega (arith, count, c.requires.numbered) in (
      search (rules, the_lemmas),
      (
        good,
        piece_numbered prod_sites items c.loop-prod.prod-index c.prod-item.result c.args.site c.loop-prod.next c.loop-prod-test.true c.prod-item.is c.loop-prod.invariant.number low,
      ),
    )

pub walk_value-loop-prod-preserved : goal.walk_value-loop-prod-preserved
walk_value-loop-prod-preserved t c =
    gone_past _ _ _ _ _ _ _ c.loop-prod.prod-index c.prod-item.result c.loop-prod-test.true c.prod-item.is c.loop-prod.invariant
    (λ before after event other accepted may. tt) c.in_ok-next.ensures.walks c.in_ok-next.ensures.next

pub walk_value-returns-in_err-next-clause-walks : goal.walk_value-returns-in_err-next-clause-walks
walk_value-returns-in_err-next-clause-walks t c =
    let trace = items_trace c.args.env.now c.args.variables.now c.args.value.now c.as_slice-prod-items.result.now c.as_slice-prod-items.ensures c.args.site in
    stopped_walk c.walk_prod.new.progress (err_from_is_err_and c.from_residual.result c.from_residual.ensures.1)
    (subst (λ (events : List Event). StopsAt (Accepts c.args.env.now) (Refuses c.args.env.now) c.args.progress.now events c.in_err-next.field-0.0) trace
    (stopped_at _ _ _ _ _ _ _ c.loop-prod.prod-index c.prod-item.result c.loop-prod-test.true c.prod-item.is c.loop-prod.invariant c.in_err-next.ensures.walks))

pub walk_value-returns-clause-walks : goal.walk_value-returns-clause-walks
walk_value-returns-clause-walks t c =
    let trace = items_trace c.args.env.now c.args.variables.now c.args.value.now c.as_slice-prod-items.result.now c.as_slice-prod-items.ensures c.args.site in
    let among = rw (drop_all c.loop-prod.prod-index c.as_slice-prod-items.result.now (omega arith)) at c.loop-prod.invariant in
    subst (λ (events : List Event). Through (Accepts c.args.env.now) c.args.progress.now events c.loop-prod.progress) trace (at_last _ _ _ _ _ _ _ among)

pub walk_value-returns-clause-next : goal.walk_value-returns-clause-next
walk_value-returns-clause-next t c =
    let among = rw (drop_all c.loop-prod.prod-index c.as_slice-prod-items.result.now (omega arith)) at c.loop-prod.invariant in
    omega (arith, among.number, items_sites c.args.env.now c.args.variables.now c.args.value.now c.as_slice-prod-items.result.now c.as_slice-prod-items.ensures)
