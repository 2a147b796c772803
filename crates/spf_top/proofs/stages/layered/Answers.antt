use Rattle.std.proofs.Common.{length, ap, ◌∙◌}
use Rattle.std.proofs.lemmas.List.{length-map}
use Rattle.std.proofs.lemmas.List.FromFn.{length-range_with_len}
use Rattle.spf_top.proofs.stages.layered.Goals as goal

pub returns-in-Ok-clause-layers : goal.returns-in-Ok-clause-layers
returns-in-Ok-clause-layers c = record {
  lists = c.requires.lists;
  inside = c.requires.inside;
  elements = ap length c.in-Ok.ensures.groups ∙ length-map _ _ ∙ length-range_with_len _ _;
  fits = c.in-Ok.ensures.fits;
}
