use Rattle.spf_rel.specs.Graph.{composed_term}
use Rattle.spf_rel.proofs.OnlyFunction.{Composed, by, only}
use Rattle.spf_rel.proofs.graphs.compositions_have_one_function.Goals as goal

pub returns : goal.returns
returns c ins terms last made h is =
    let laws : Composed ins terms last = record {
      solved = c.compositions_of_graphs_are_graphs.ensures.solved ins terms last h;
      simplified = λ made. c.compositions_of_graphs_are_graphs.ensures.simplified ins terms last made h;
      chosen = c.compositions_of_graphs_are_graphs.ensures.function ins terms last h;
      inputs = c.compositions_of_graphs_are_graphs.ensures.inputs ins terms last h;
      fewer = c.normal_forms_are_no_larger.ensures.count (composed_term ins terms last);
      smaller = c.normal_forms_are_no_larger.ensures.size (composed_term ins terms last);
      none = c.numbers_are_within_the_size.ensures.none (by ins terms last);
    } in
    only ins terms last h laws made is
