use Rattle.std.proofs.Common.{length, ap, ◌∙◌}
use Rattle.std.proofs.lemmas.List.{length-map}
use Rattle.std.proofs.lemmas.List.FromFn.{length-range_with_len}
use Rattle.spf_tests.proofs.plans.built.Goals as goal

pub returns : goal.returns
returns c = record {
  lists = c.requires.lists;
  inside = c.requires.inside;
  elements = ap length c.in_ok-build.ensures.groups ∙ length-map _ _ ∙ length-range_with_len _ _;
  fits = c.in_ok-build.ensures.fits;
}
