use Rattle.std.proofs.Common.{sym, subst}
use Rattle.spf_rel.proofs.Laws.{Laws}
use Rattle.spf_rel.proofs.Simplifying.{all_solved_kept}
use Rattle.spf_rel.specs.Meaning.{IsFormed}
use Rattle.std.specs.List.{All}
use Rattle.spf_rel.proofs.simplification.simplified.Goals as goal

pub tidied-requires : goal.tidied-requires
tidied-requires c =
    let laws : Laws = record {
      normal = c.normal_form_keeps_the_value.ensures;
      oriented = c.oriented_terms_are_alike.ensures;
      substituted = c.substitution_keeps_the_value.ensures;
      solves = c.solutions_solve.ensures;
      exact = c.terms_are_ordered.ensures.exact;
    } in
    subst (All (IsFormed c.args.outer)) (sym c.as_slice.ensures) (all_solved_kept c.args.outer laws c.args.conjs.now c.in-Ok.done c.requires c.in-Ok.ensures).formed
