use Rattle.std.proofs.Common.{◌<◌}
use Rattle.spf_rel.proofs.GraphLaws.{GraphLaws}
use Rattle.spf_rel.proofs.Graphed.{all_of_it, choice_is, made_inputs, simplified_is}
use Rattle.spf_rel.proofs.Kept.{normal_kept}
use Rattle.spf_rel.specs.Graph.{composed_term}
use Rattle.spf_rel.proofs.graphs.compositions_of_graphs_are_graphs.Goals as goal

pub returns-clause-solved : goal.returns-clause-solved
returns-clause-solved c ins terms last h =
    let laws : GraphLaws = record {
      solved = c.equations_are_solved.ensures.solved;
      unsolved = c.equations_are_solved.ensures.unsolved;
      kept = c.equations_are_kept.ensures;
      difference_count = c.equations_are_bounded.ensures.difference_count;
      difference_size = c.equations_are_bounded.ensures.difference_size;
      equation_count = c.equations_are_bounded.ensures.count;
      equation_size = c.equations_are_bounded.ensures.size;
      none = c.numbers_are_within_the_size.ensures.none;
      total = c.terms_are_ordered.ensures.total;
    } in
    all_of_it ins terms last h laws

pub returns-clause-simplified : goal.returns-clause-simplified
returns-clause-simplified c ins terms last made h is =
    let laws : GraphLaws = record {
      solved = c.equations_are_solved.ensures.solved;
      unsolved = c.equations_are_solved.ensures.unsolved;
      kept = c.equations_are_kept.ensures;
      difference_count = c.equations_are_bounded.ensures.difference_count;
      difference_size = c.equations_are_bounded.ensures.difference_size;
      equation_count = c.equations_are_bounded.ensures.count;
      equation_size = c.equations_are_bounded.ensures.size;
      none = c.numbers_are_within_the_size.ensures.none;
      total = c.terms_are_ordered.ensures.total;
    } in
    simplified_is laws ins terms last h made is

pub returns-clause-function : goal.returns-clause-function
returns-clause-function c ins terms last h =
    let laws : GraphLaws = record {
      solved = c.equations_are_solved.ensures.solved;
      unsolved = c.equations_are_solved.ensures.unsolved;
      kept = c.equations_are_kept.ensures;
      difference_count = c.equations_are_bounded.ensures.difference_count;
      difference_size = c.equations_are_bounded.ensures.difference_size;
      equation_count = c.equations_are_bounded.ensures.count;
      equation_size = c.equations_are_bounded.ensures.size;
      none = c.numbers_are_within_the_size.ensures.none;
      total = c.terms_are_ordered.ensures.total;
    } in
    choice_is laws ins terms last h

pub returns-clause-inputs : goal.returns-clause-inputs
returns-clause-inputs c ins terms last h = normal_kept (λ number. number < ins) (composed_term ins terms last) (made_inputs ins terms last h)
