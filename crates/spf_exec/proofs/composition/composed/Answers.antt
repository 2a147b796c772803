use Rattle.std.proofs.Common.{◌≡◌, IfOk, [], ◌∷◌, ap, sym, ◌∙◌, subst}
use Rattle.spf_term.specs.Normal.{normal}
use Rattle.spf_term.specs.declared.term.Term.{Term}
use Rattle.spf_rel.specs.Function.{IsFunction}
use Rattle.spf_rel.specs.Graph.{composed_term, graph}
use Rattle.spf_rel.specs.Meaning.{IsFormedRel}
use Rattle.spf_rel.specs.Operations.{HasRoomRel, compose}
use Rattle.spf_rel.specs.declared.relation.Rel.{Rel}
use Rattle.spf_exec.specs.Composed.{sources, variable}
use Rattle.spf_exec.proofs.Composing.{they_compose, variable_constant, variable_monos, variable_within}
use Rattle.spf_exec.proofs.composition.composed.Goals as goal

pub compose-requires-clause-arities : goal.compose-requires-clause-arities
compose-requires-clause-arities c = ap (λ (r : Rel). r.outs) c.in_ok-to_sources.ensures ∙ sym (ap (λ (r : Rel). r.ins) c.in_ok-access.ensures)

pub compose-requires-clause-a : goal.compose-requires-clause-a
compose-requires-clause-a c =
    let h = they_compose c.args.iteration.now c.args.term.now c.requires.iteration c.requires.term
    (c.compositions_stay_light.ensures.composed 3 c.args.iteration.now (variable 1) c.args.term.now c.requires.iteration.within (variable_within c.numbers_are_within_the_size.ensures.count 1) c.requires.term.within) in
    subst IsFormedRel (sym c.in_ok-to_sources.ensures) (c.graphs_are_formed.ensures.first 2 (sources c.args.iteration.now) c.args.term.now h)

pub compose-requires-clause-b : goal.compose-requires-clause-b
compose-requires-clause-b c =
    let h = they_compose c.args.iteration.now c.args.term.now c.requires.iteration c.requires.term
    (c.compositions_stay_light.ensures.composed 3 c.args.iteration.now (variable 1) c.args.term.now c.requires.iteration.within (variable_within c.numbers_are_within_the_size.ensures.count 1) c.requires.term.within) in
    subst IsFormedRel (sym c.in_ok-access.ensures) (c.graphs_are_formed.ensures.last 2 (sources c.args.iteration.now) c.args.term.now h)

pub compose-requires-clause-room : goal.compose-requires-clause-room
compose-requires-clause-room c =
    let h = they_compose c.args.iteration.now c.args.term.now c.requires.iteration c.requires.term
    (c.compositions_stay_light.ensures.composed 3 c.args.iteration.now (variable 1) c.args.term.now c.requires.iteration.within (variable_within c.numbers_are_within_the_size.ensures.count 1) c.requires.term.within) in
    subst HasRoomRel (λ i. compose (sym c.in_ok-access.ensures i) (sym c.in_ok-to_sources.ensures i)) (c.graphs_are_formed.ensures.room 2 (sources c.args.iteration.now) c.args.term.now h)

pub only-requires : goal.only-requires
only-requires c =
    let h = they_compose c.args.iteration.now c.args.term.now c.requires.iteration c.requires.term
    (c.compositions_stay_light.ensures.composed 3 c.args.iteration.now (variable 1) c.args.term.now c.requires.iteration.within (variable_within c.numbers_are_within_the_size.ensures.count 1) c.requires.term.within) in
    let same : c.in_ok-composition.composition ≡ compose (graph 2 (c.args.term.now ∷ [])) (graph 2 (sources c.args.iteration.now)) = c.in_ok-composition.ensures.form ∙ (λ i. compose (c.in_ok-access.ensures i) (c.in_ok-to_sources.ensures i)) in
    let one = c.compositions_have_one_function.ensures 2 (sources c.args.iteration.now) c.args.term.now c.as_function.result h (subst (λ (r : Rel). IsFunction r c.as_function.result) same c.as_function.ensures.answer) in
    (normal (composed_term 2 (sources c.args.iteration.now) c.args.term.now), one)

pub returns : goal.returns
returns c =
    let h = they_compose c.args.iteration.now c.args.term.now c.requires.iteration c.requires.term
    (c.compositions_stay_light.ensures.composed 3 c.args.iteration.now (variable 1) c.args.term.now c.requires.iteration.within (variable_within c.numbers_are_within_the_size.ensures.count 1) c.requires.term.within) in
    let same : c.in_ok-composition.composition ≡ compose (graph 2 (c.args.term.now ∷ [])) (graph 2 (sources c.args.iteration.now)) = c.in_ok-composition.ensures.form ∙ (λ i. compose (c.in_ok-access.ensures i) (c.in_ok-to_sources.ensures i)) in
    let one = c.compositions_have_one_function.ensures 2 (sources c.args.iteration.now) c.args.term.now c.as_function.result h (subst (λ (r : Rel). IsFunction r c.as_function.result) same c.as_function.ensures.answer) in
    let whole = normal (composed_term 2 (sources c.args.iteration.now) c.args.term.now) in
    subst (λ (of : Term). IfOk c.only.result (λ (made : Term). made ≡ of))
    (c.first_variables_are_replaced.ensures 2 c.args.iteration.now (variable 1) c.args.term.now c.requires.iteration.variables (variable_monos 1) (variable_constant 1) c.requires.term.variables)
    (c.only.ensures whole one)
