use Rattle.std.proofs.Common.{◌≡◌, Some, Ok, ap, sym, ◌∙◌, subst}
use Rattle.std.specs.List.{list_any}
use Rattle.spf_rel.specs.Function.{AreFound, mentions_from}
use Rattle.spf_rel.proofs.Answering.{of_inputs}
use Rattle.spf_rel.proofs.functions.function_of_one.Goals as goal

pub returns-else-any_mentions_from-clause-formed : goal.returns-else-any_mentions_from-clause-formed
returns-else-any_mentions_from-clause-formed c =
    let is = c.in-Ok-Some.field-0-is in
    let some : c.in-Ok-Some.field-0 ≡ Some c.in-Ok-Some.terms = cc in
    of_inputs c.args.ins c.args.outs c.args.conj c.in-Ok-Some.terms (c.in-Ok-Some.ensures.answer ∙ (λ i. Ok (some i)))
    (sym (c.any_mentions_from.ensures ∙ ap (list_any (mentions_from c.args.ins)) c.as_slice.ensures) ∙ c.if-any_mentions_from.false) (subst (AreFound c.args.outs) some c.in-Ok-Some.ensures.found)
