use Rattle.std.proofs.Common.{◌+◌, [], ◌∷◌, ◌++◌, map, take, drop, ap, ◌∙◌, subst}
use Rattle.spf_term.specs.Wide.{plain}
use Rattle.spf_rel.specs.Elimination.{put}
use Rattle.spf_rel.specs.Function.{IsTestedPartly}
use Rattle.spf_rel.specs.declared.partly.Partly.{Partly}
use Rattle.spf_rel.proofs.outputs.assigned.Goals as goal

pub returns : goal.returns
returns c =
    let found = c.args.chosen.found in
    let place = c.args.chosen.place in
    let equal = ap (map plain) c.as_slice-4.ensures ∙ c.in_ok-equal.ensures ∙ ap (λ terms. map (put found) (take place terms ++ drop (place + 1) terms)) c.as_slice.ensures in
    let least = ap (map plain) c.as_slice-5.ensures ∙ c.in_ok-least.ensures ∙ ap (map (put found)) c.as_slice-2.ensures in
    let results = ap (map plain) c.as_slice-6.ensures ∙ c.in_ok-results.ensures ∙ ap (map (put found)) c.as_slice-3.ensures in
    subst (λ (wanted : Partly). IsTestedPartly wanted c.tested_partly.result) (λ i. record { equal = equal i; least = least i; results = results i ++ found.by ∷ [] }) c.tested_partly.ensures
