use Rattle.std.proofs.Common.{List, ℕ, [], ◌∷◌, ◌++◌, ap, ◌∙◌, append_assoc, ◌+ℤ◌, pos, rules}
use Rattle.std.specs.Fmt.{signed_decimal}
use Rattle.std.specs.Int.{w64}
use Rattle.std.proofs.lemmas.Int.{to_z-of_z}
use Rattle.spf_perm.specs.Perm.{at}
use Rattle.spf_top.proofs.PlanTexts.{grown}
use Rattle.spf_top.proofs.plan_text.push_iterations.Goals as goal

pub loop-position-preserved : goal.loop-position-preserved
loop-position-preserved c =
    let lower = c.args.each.now.lower in
    let bytes = c.as_bytes.result.now in
    let iteration = c.iteration_of-iteration.ensures ∙ ap (λ (place : ℕ). lower +ℤ pos place) c.at.ensures.place in
    let printed = c.as_bytes.ensures.value ∙ c.format.ensures.text ∙ ap signed_decimal (to_z-of_z w64 c.iteration_of-iteration.result (search rules) ∙ iteration) in
    grown (λ position. 32 ∷ signed_decimal (lower +ℤ pos (at c.args.sources.now position))) c.args.text.now.items c.loop-position.text.items c.extend_from_slice.new.self.items (32 ∷ bytes) c.loop-position.position
    c.loop-position.invariant (c.in_ok-extend_from_slice.ensures.items ∙ ap (λ (text : List ℕ). text ++ bytes) c.in_ok-push.ensures.items ∙ append_assoc c.loop-position.text.items (32 ∷ []) bytes)
    (ap (λ (text : List ℕ). 32 ∷ text) printed)
