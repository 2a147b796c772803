use Rattle.std.proofs.Common.{ap, map, ◌∙◌, subst}
use Rattle.spf_term.specs.Wide.{plain}
use Rattle.spf_rel.specs.Elimination.{put}
use Rattle.spf_rel.specs.Rule.{IsTestedTogether}
use Rattle.spf_rel.specs.declared.relation.Conj.{Conj}
use Rattle.spf_rel.proofs.Choosing.{eliminated_is}
use Rattle.spf_rel.proofs.elimination.eliminate.Goals as goal

pub returns : goal.returns
returns c =
    subst (λ (wanted : Conj). IsTestedTogether wanted c.tested_together.result)
    (eliminated_is c.args.conj.now c.args.chosen.now c.as_slice-terms.result.now c.as_slice-terms.ensures (map plain c.as_slice-2.result.now) (map plain c.as_slice-3.result.now)
    (ap (map plain) c.as_slice-2.ensures ∙ c.in_ok-equal.ensures) (ap (map plain) c.as_slice-3.ensures ∙ c.in_ok-least.ensures ∙ ap (map (put c.args.chosen.now.found)) c.as_slice.ensures))
    c.tested_together.ensures
