use Rattle.std.proofs.Common.{Ok, Err, refl, inl, inr}
use Rattle.spf_input.proofs.Bundles.{bundle_read, kernel_stands, err_only}
use Rattle.spf_input.specs.Answer.{IsAnswer}
use Rattle.spf_input.proofs.reading.read_kernel.Goals as goal

pub judge-requires-clause-stands : goal.judge-requires-clause-stands
judge-requires-clause-stands c = kernel_stands c.in_ok-tokens.tokens c.in_ok-raw.raw (bundle_read c.in_ok-tokens.tokens (Ok c.in_ok-raw.raw) c.in_ok-raw.ensures.found)

pub returns-in_err-raw : goal.returns-in_err-raw
returns-in_err-raw c =
    let tokens = c.in_ok-tokens.tokens in
    let fault = c.in_err-raw.field-0.0 in
    err_only (IsAnswer c.args.text.now) _ c.from_residual-in_err-raw.result c.from_residual-in_err-raw.ensures.0 c.from_residual-in_err-raw.ensures.1
    (λ e is. inr (tokens, (c.in_ok-tokens.ensures.text, c.in_ok-tokens.ensures.found), inl (fault, bundle_read tokens (Err fault) c.in_err-raw.ensures.found, is)))

pub returns-in_err-judge : goal.returns-in_err-judge
returns-in_err-judge c =
    let tokens = c.in_ok-tokens.tokens in
    let whole = bundle_read tokens (Ok c.in_ok-raw.raw) c.in_ok-raw.ensures.found in
    err_only (IsAnswer c.args.text.now) _ c.from_residual-in_err-judge.result c.from_residual-in_err-judge.ensures.0 c.from_residual-in_err-judge.ensures.1
    (λ e is. inr (tokens, (c.in_ok-tokens.ensures.text, c.in_ok-tokens.ensures.found), inr ((tokens, c.in_ok-raw.raw), (refl, whole), (c.in_err-judge.field-0.0, c.in_err-judge.ensures, is))))

pub returns : goal.returns
returns c =
    let tokens = c.in_ok-tokens.tokens in
    (tokens, (c.in_ok-tokens.ensures.text, c.in_ok-tokens.ensures.found), ((tokens, c.in_ok-raw.raw), (refl, bundle_read tokens (Ok c.in_ok-raw.raw) c.in_ok-raw.ensures.found), c.in_ok-judge.ensures))
