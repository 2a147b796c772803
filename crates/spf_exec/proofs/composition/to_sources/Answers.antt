use Rattle.std.proofs.Common.{◌≡◌, ◌<◌, ◌≤◌, ◌^◌, All, IfOk, ℕ, length, ap, sym, ◌∙◌, subst, arith}
use Rattle.spf_term.specs.Measure.{size}
use Rattle.spf_term.specs.declared.term.Term.{Term}
use Rattle.spf_rel.specs.Graph.{reversed}
use Rattle.spf_rel.specs.Meaning.{IsFormedRel}
use Rattle.spf_rel.specs.Operations.{inverse}
use Rattle.spf_rel.specs.Renumbering.{Variables}
use Rattle.spf_rel.specs.declared.relation.Rel.{Rel}
use Rattle.spf_exec.specs.Composed.{sources}
use Rattle.spf_exec.proofs.Composing.{both_small, of_two}
use Rattle.spf_exec.proofs.composition.to_sources.Goals as goal

pub reversed-requires-clause-few : goal.reversed-requires-clause-few
reversed-requires-clause-few c = let e = ap length (c.as_slice.ensures ∙ c.in_ok-sources.ensures) in omega (arith, e)

pub reversed-requires-clause-outputs : goal.reversed-requires-clause-outputs
reversed-requires-clause-outputs c = subst (All (Variables (λ (number : ℕ). number < 2))) (sym (c.as_slice.ensures ∙ c.in_ok-sources.ensures)) (of_two c.args.iteration.now c.requires)

pub reversed-requires-clause-small : goal.reversed-requires-clause-small
reversed-requires-clause-small c =
    subst (All (λ (term : Term). size term ≤ 2 ^ 62)) (sym (c.as_slice.ensures ∙ c.in_ok-sources.ensures)) (both_small c.numbers_are_within_the_size.ensures.count c.args.iteration.now c.requires)

pub inverse-requires : goal.inverse-requires
inverse-requires c =
    subst IsFormedRel (sym (c.in_ok-reordering.ensures ∙ ap (reversed 2) (c.as_slice.ensures ∙ c.in_ok-sources.ensures)))
    (c.inverses_are_graphs.ensures.formed 2 (sources c.args.iteration.now) (of_two c.args.iteration.now c.requires) (omega arith))

pub returns : goal.returns
returns c =
    subst (λ (of : Rel). IfOk c.inverse.result (λ (made : Rel). made ≡ of))
    (ap inverse (c.in_ok-reordering.ensures ∙ ap (reversed 2) (c.as_slice.ensures ∙ c.in_ok-sources.ensures))
    ∙ c.inverses_are_graphs.ensures.inverse 2 (sources c.args.iteration.now) (of_two c.args.iteration.now c.requires)) c.inverse.ensures.form
