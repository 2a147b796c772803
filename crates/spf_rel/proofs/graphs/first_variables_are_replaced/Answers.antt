use Rattle.spf_rel.proofs.FirstReplaced.{replaced_first}
use Rattle.spf_rel.proofs.graphs.first_variables_are_replaced.Goals as goal

pub returns : goal.returns
returns c ins by inner term below is none h =
    replaced_first c.substitution_keeps_the_normal_form.ensures.by c.substitution_keeps_the_normal_form.ensures.whole ins by inner term below is none h
