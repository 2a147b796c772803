use Rattle.std.proofs.Common.{arith, ◌∙◌}
use Rattle.std.proofs.lemmas.Bool.Decides.{nat_tests}
use Rattle.std.proofs.lemmas.Result.{IfOk-weaker}
use Rattle.spf_rel.proofs.Swapped.{terms_same}
use Rattle.spf_rel.proofs.unions.copied_terms.Goals as goal

pub returns : goal.returns
returns c = IfOk-weaker c.renumbered_terms.result _ _ (λ made is. is ∙ terms_same _ (λ number. grind (arith, nat_tests)) c.args.terms.now) c.renumbered_terms.ensures
