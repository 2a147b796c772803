use Rattle.spf_kernel.proofs.Common.{◌∙◌, sym, ap, list_any, bytes_eq}
use Rattle.spf_kernel.proofs.check.names.NameSet.contains.Goals as goal
use Rattle.spf_kernel.proofs.NameLists.{list_any-map}

pub returns : goal.returns
returns c = c.contains.ensures ∙ (sym (list_any-map (λ name. name.now) (bytes_eq c.args.name.now) c.self.inside.names.keys) ∙ ap (list_any (bytes_eq c.args.name.now)) c.self.view_is)
