use Rattle.std.proofs.Common.{List, [], ◌∷◌, ◌++◌, map, ap, ◌∙◌}
use Rattle.std.specs.List.{flat_map}
use Rattle.spf_term.specs.NumberRule.{numbers}
use Rattle.spf_term.specs.Wide.{plain}
use Rattle.spf_term.specs.declared.term.Term.{Term}
use Rattle.spf_term.specs.declared.wide.WideTerm.{WideTerm}
use Rattle.spf_rel.specs.declared.partly.Partly.{Partly}
use Rattle.spf_rel.proofs.Narrowed.{first_refused, none_refused, second_refused, third_refused}
use Rattle.spf_rel.proofs.Together.{refused}
use Rattle.spf_rel.proofs.partly.narrowed_partly.Goals as goal

pub returns-in_ok-push-in-Ok-all_narrowed-2 : goal.returns-in_ok-push-in-Ok-all_narrowed-2
returns-in_ok-push-in-Ok-all_narrowed-2 c =
    let results = c.in_ok-push-in-Ok-all_narrowed-2.ensures.ok ∙ ap (λ (terms : List Term). terms ++ c.args.last ∷ []) c.in-Ok-all_narrowed-2.ensures.0 in (
      λ i. record { equal = c.in-Ok.ensures.0 i; least = c.in-Ok-all_narrowed.ensures.0 i; results = results i },
      none_refused c.args.equal.now c.args.least.now c.args.results.now c.args.last c.in-Ok.ensures.1 c.in-Ok-all_narrowed.ensures.1 c.in-Ok-all_narrowed-2.ensures.1 c.requires,
    )

pub returns-in-Err-all_narrowed-2 : goal.returns-in-Err-all_narrowed-2
returns-in-Err-all_narrowed-2 c =
    let all = map plain c.args.equal.now ++ (map plain c.args.least.now ++ (map plain c.args.results.now ++ c.args.last ∷ [])) in
    let wanted : Partly = record { equal = map plain c.args.equal.now; least = map plain c.args.least.now; results = map plain c.args.results.now ++ c.args.last ∷ [] } in
    refused (flat_map (λ (term : WideTerm). numbers (plain term)) c.args.results.now) (flat_map numbers all) (map plain c.args.results.now) wanted c.in-Err-all_narrowed-2.fault
    (third_refused c.args.equal.now c.args.least.now c.args.results.now c.args.last c.in-Ok.ensures.1 c.in-Ok-all_narrowed.ensures.1) c.in-Err-all_narrowed-2.ensures

pub returns-in-Err-all_narrowed : goal.returns-in-Err-all_narrowed
returns-in-Err-all_narrowed c =
    let all = map plain c.args.equal.now ++ (map plain c.args.least.now ++ (map plain c.args.results.now ++ c.args.last ∷ [])) in
    let wanted : Partly = record { equal = map plain c.args.equal.now; least = map plain c.args.least.now; results = map plain c.args.results.now ++ c.args.last ∷ [] } in
    refused (flat_map (λ (term : WideTerm). numbers (plain term)) c.args.least.now) (flat_map numbers all) (map plain c.args.least.now) wanted c.in-Err-all_narrowed.fault
    (second_refused c.args.equal.now c.args.least.now c.args.results.now c.args.last c.in-Ok.ensures.1) c.in-Err-all_narrowed.ensures

pub returns-in-Err : goal.returns-in-Err
returns-in-Err c =
    let all = map plain c.args.equal.now ++ (map plain c.args.least.now ++ (map plain c.args.results.now ++ c.args.last ∷ [])) in
    let wanted : Partly = record { equal = map plain c.args.equal.now; least = map plain c.args.least.now; results = map plain c.args.results.now ++ c.args.last ∷ [] } in
    refused (flat_map (λ (term : WideTerm). numbers (plain term)) c.args.equal.now) (flat_map numbers all) (map plain c.args.equal.now) wanted c.in-Err.fault
    (first_refused c.args.equal.now c.args.least.now c.args.results.now c.args.last) c.in-Err.ensures
