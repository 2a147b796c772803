use Rattle.spf_rel.proofs.Laws.{Laws}
use Rattle.spf_rel.proofs.Simplifying.{simplification_kept}
use Rattle.spf_rel.proofs.simplifying_laws.simplification_keeps_the_meaning.Goals as goal

pub returns-clause-meaning : goal.returns-clause-meaning
returns-clause-meaning c outer conjs made formed is =
    let laws : Laws = record {
      normal = c.normal_form_keeps_the_value.ensures;
      oriented = c.oriented_terms_are_alike.ensures;
      substituted = c.substitution_keeps_the_value.ensures;
      solves = c.solutions_solve.ensures;
      exact = c.terms_are_ordered.ensures.exact;
    } in
    (simplification_kept laws outer conjs made formed is).alike

pub returns-clause-formed : goal.returns-clause-formed
returns-clause-formed c outer conjs made formed is =
    let laws : Laws = record {
      normal = c.normal_form_keeps_the_value.ensures;
      oriented = c.oriented_terms_are_alike.ensures;
      substituted = c.substitution_keeps_the_value.ensures;
      solves = c.solutions_solve.ensures;
      exact = c.terms_are_ordered.ensures.exact;
    } in
    (simplification_kept laws outer conjs made formed is).formed
