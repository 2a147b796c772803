use Rattle.std.proofs.Common.{ℕ, ◌+◌, List, All, w64, rules, ap, subst, sym, ◌∙◌, Ok, Err}
use Rattle.std.proofs.lemmas.Int.{to_z-of_z}
use Rattle.std.proofs.lemmas.Result.{err_from_is_err_and}
use Rattle.spf_term.specs.Value.{applications}
use Rattle.spf_term.specs.Walk.{Through, StopsAt}
use Rattle.spf_term.proofs.WalkParts.{stopped_walk}
use Rattle.spf_store.specs.Event.{Event}
use Rattle.spf_store.proofs.Inners.{at_high, at_turns, same_turns}
use Rattle.spf_store.proofs.OnTheWay.{part_may, stopped, walked_on}
use Rattle.spf_store.proofs.walk.walk_inner.Goals as goal

pub walk_bound-requires-2-clause-may : goal.walk_bound-requires-2-clause-may
walk_bound-requires-2-clause-may g c =
    let way = at_high (g.V.Visitor.accepts c.args.visitor.now) (g.V.Visitor.may c.args.visitor.now) (g.V.Visitor.env c.args.visitor.now) c.args.state.now c.args.variables.now
    c.args.site c.args.low.now c.args.high.now c.args.parts.now (g.met.V.Visitor.stays c.args.visitor.now) c.requires.may c.in_ok-first.ensures.walks in
    rw c.in_ok-first.ensures.next (part_may _ _ _ _ way)

pub returns-in_err-last-clause-walks : goal.returns-in_err-last-clause-walks
returns-in_err-last-clause-walks g c =
    let way = at_high (g.V.Visitor.accepts c.args.visitor.now) (g.V.Visitor.may c.args.visitor.now) (g.V.Visitor.env c.args.visitor.now) c.args.state.now c.args.variables.now
    c.args.site c.args.low.now c.args.high.now c.args.parts.now (g.met.V.Visitor.stays c.args.visitor.now) c.requires.may c.in_ok-first.ensures.walks in
    let exit = c.from_residual-in_err-last in
    let at = rw c.in_ok-first.ensures.next at c.in_err-last.ensures.walks in
    stopped_walk c.walk_bound-2.new.state (err_from_is_err_and exit.result exit.ensures.1) (stopped _ _ _ _ way at)

pub walk_turns-requires-clause-may : goal.walk_turns-requires-clause-may
walk_turns-requires-clause-may g c =
    let next = c.in_ok-last.ensures.next ∙ ap (λ (site : ℕ). site + (1 + applications c.args.high.now)) c.in_ok-first.ensures.next in
    let low = to_z-of_z w64 c.in_ok-first.first.value (search rules) ∙ c.in_ok-first.ensures.value in
    let high = to_z-of_z w64 c.in_ok-last.last.value (search rules) ∙ c.in_ok-last.ensures.value in
    let same = same_turns (g.V.Visitor.env c.args.visitor.now) c.args.variables.now c.args.parts.now next low high in
    let way = at_turns (g.V.Visitor.accepts c.args.visitor.now) (g.V.Visitor.may c.args.visitor.now) (g.V.Visitor.env c.args.visitor.now) c.args.state.now c.args.variables.now
    c.args.site c.args.low.now c.args.high.now c.args.parts.now (g.met.V.Visitor.stays c.args.visitor.now) c.requires.may c.walk_bound.new.state c.in_ok-first.ensures.walks (rw c.in_ok-first.ensures.next at c.in_ok-last.ensures.walks) in
    subst (λ (events : List Event). All (g.V.Visitor.may c.args.visitor.now c.walk_bound-2.new.state) events) (sym same) way.ahead

pub returns-in_err-walk_turns-clause-walks : goal.returns-in_err-walk_turns-clause-walks
returns-in_err-walk_turns-clause-walks g c =
    let next = c.in_ok-last.ensures.next ∙ ap (λ (site : ℕ). site + (1 + applications c.args.high.now)) c.in_ok-first.ensures.next in
    let low = to_z-of_z w64 c.in_ok-first.first.value (search rules) ∙ c.in_ok-first.ensures.value in
    let high = to_z-of_z w64 c.in_ok-last.last.value (search rules) ∙ c.in_ok-last.ensures.value in
    let same = same_turns (g.V.Visitor.env c.args.visitor.now) c.args.variables.now c.args.parts.now next low high in
    let way = at_turns (g.V.Visitor.accepts c.args.visitor.now) (g.V.Visitor.may c.args.visitor.now) (g.V.Visitor.env c.args.visitor.now) c.args.state.now c.args.variables.now
    c.args.site c.args.low.now c.args.high.now c.args.parts.now (g.met.V.Visitor.stays c.args.visitor.now) c.requires.may c.walk_bound.new.state c.in_ok-first.ensures.walks (rw c.in_ok-first.ensures.next at c.in_ok-last.ensures.walks) in
    let exit = c.from_residual-in_err-walk_turns in
    let at = subst (λ (events : List Event). StopsAt (g.V.Visitor.accepts c.args.visitor.now) (g.V.Visitor.refuses c.args.visitor.now) c.walk_bound-2.new.state events c.in_err-walk_turns.field-0.0) same c.in_err-walk_turns.ensures in
    stopped_walk c.walk_turns.new.state (err_from_is_err_and exit.result exit.ensures.1) (walked_on _ _ {A = ℕ} _ c.walk_turns.new.state (Err c.in_err-walk_turns.field-0.0) way at)

pub returns-clause-walks : goal.returns-clause-walks
returns-clause-walks g c =
    let next = c.in_ok-last.ensures.next ∙ ap (λ (site : ℕ). site + (1 + applications c.args.high.now)) c.in_ok-first.ensures.next in
    let low = to_z-of_z w64 c.in_ok-first.first.value (search rules) ∙ c.in_ok-first.ensures.value in
    let high = to_z-of_z w64 c.in_ok-last.last.value (search rules) ∙ c.in_ok-last.ensures.value in
    let same = same_turns (g.V.Visitor.env c.args.visitor.now) c.args.variables.now c.args.parts.now next low high in
    let way = at_turns (g.V.Visitor.accepts c.args.visitor.now) (g.V.Visitor.may c.args.visitor.now) (g.V.Visitor.env c.args.visitor.now) c.args.state.now c.args.variables.now
    c.args.site c.args.low.now c.args.high.now c.args.parts.now (g.met.V.Visitor.stays c.args.visitor.now) c.requires.may c.walk_bound.new.state c.in_ok-first.ensures.walks (rw c.in_ok-first.ensures.next at c.in_ok-last.ensures.walks) in
    let through = subst (λ (events : List Event). Through (g.V.Visitor.accepts c.args.visitor.now) c.walk_bound-2.new.state events c.walk_turns.new.state) same c.in_ok-walk_turns.ensures in
    walked_on _ _ {A = ℕ} (g.V.Visitor.refuses c.args.visitor.now) c.walk_turns.new.state (Ok 0) way through
