use Rattle.std.proofs.Common.{ap, map, sym, take, ◌∙◌}
use Rattle.std.proofs.lemmas.List.{take-map}
use Rattle.spf_reltext.proofs.name_set.NameSet.truncate.Goals as goal

pub returns : goal.returns
returns c = (λ i. map (λ name. name.items) (c.truncate.ensures.keys i)) ∙ sym (take-map (λ name. name.items) c.args.len c.self.inside.names.keys) ∙ ap (take c.args.len) c.self.view_is
