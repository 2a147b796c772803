use Rattle.std.proofs.Common.{List, ℕ, ◌≡◌, sym, ap, ◌∙◌, subst}
use Rattle.std.proofs.lemmas.Result.{IfOk-weaker}
use Rattle.spf_lex.specs.Joined.{joined}
use Rattle.spf_script.specs.Parsed.{IsTextOf}
use Rattle.spf_script.specs.Printed.{words_of}
use Rattle.spf_script.specs.declared.step.TextStep.{TextStep}
use Rattle.spf_script.proofs.FitSteps.{printed_parses}
use Rattle.spf_script.proofs.printing.print.Goals as goal

pub returns-clause-parsed : goal.returns-clause-parsed
returns-clause-parsed c =
    let steps = c.args.script.now in
    let parsed = rw c.steps.ensures.steps at c.steps.ensures.parsed in
    IfOk-weaker c.script_text.result (λ text. text.items ≡ joined (words_of c.steps.result.now)) (λ text. IsTextOf text.items steps)
    (λ text is. subst (λ (bytes : List ℕ). IsTextOf bytes steps) (sym (is ∙ ap (λ (steps : List TextStep). joined (words_of steps)) c.steps.ensures.steps)) (printed_parses steps parsed))
    c.script_text.ensures
