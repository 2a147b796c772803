use Rattle.std.proofs.Common.{Ok, Err, refl, inl, inr, ◌∙◌}
use Rattle.spf_lex.proofs.Spans.{each_text}
use Rattle.spf_input.specs.Answer.{IsBundleAnswer}
use Rattle.spf_input.specs.Given.{given_in}
use Rattle.spf_input.proofs.Bundles.{bundle_read, err_only, kernel_stands, script_stands}
use Rattle.spf_input.proofs.EntryNames.{entries_named}
use Rattle.spf_input.proofs.reading.read_bundle.Goals as goal

pub judge-requires-clause-stands : goal.judge-requires-clause-stands
judge-requires-clause-stands c = kernel_stands c.in_ok-tokens.tokens c.in_ok-parts.parts (bundle_read c.in_ok-tokens.tokens (Ok c.in_ok-parts.parts) c.in_ok-parts.ensures.found)

pub script_of-script-requires-clause-stands : goal.script_of-script-requires-clause-stands
script_of-script-requires-clause-stands c =
    script_stands c.in_ok-tokens.tokens c.in_ok-parts.parts (bundle_read c.in_ok-tokens.tokens (Ok c.in_ok-parts.parts) c.in_ok-parts.ensures.found)

pub read_input-requires-clause-named : goal.read_input-requires-clause-named
read_input-requires-clause-named c =
    rw c.as_slice-entries.ensures
    (entries_named c.in_ok-tokens.tokens c.in_ok-parts.parts (each_text c.in_ok-tokens.tokens.text c.in_ok-tokens.tokens.spans c.in_ok-parts.ensures.lexed.tokens) (bundle_read c.in_ok-tokens.tokens (Ok c.in_ok-parts.parts) c.in_ok-parts.ensures.found))

pub bundle_of-requires : goal.bundle_of-requires
bundle_of-requires c = (given_in c.in_ok-tokens.tokens c.in_ok-parts.parts.input, rw (c.tree.ensures.tree, c.as_slice-entries.ensures) at c.in_ok-input.ensures)

pub returns-in_err-parts : goal.returns-in_err-parts
returns-in_err-parts c =
    let tokens = c.in_ok-tokens.tokens in
    let fault = c.in_err-parts.field-0.0 in
    err_only (IsBundleAnswer c.args.text.now) _ c.from_residual-in_err-parts.result c.from_residual-in_err-parts.ensures.0 c.from_residual-in_err-parts.ensures.1
    (λ e is. inr (tokens, (c.in_ok-tokens.ensures.text, c.in_ok-tokens.ensures.found), inl (fault, bundle_read tokens (Err fault) c.in_err-parts.ensures.found, is)))

pub returns-in_err-kernel : goal.returns-in_err-kernel
returns-in_err-kernel c =
    let tokens = c.in_ok-tokens.tokens in
    let parts = c.in_ok-parts.parts in
    let whole = bundle_read tokens (Ok parts) c.in_ok-parts.ensures.found in
    err_only (IsBundleAnswer c.args.text.now) _ c.from_residual-in_err-kernel.result c.from_residual-in_err-kernel.ensures.0 c.from_residual-in_err-kernel.ensures.1
    (λ e is. inr (tokens, (c.in_ok-tokens.ensures.text, c.in_ok-tokens.ensures.found), inr ((tokens, parts), (refl, whole), inl (c.in_err-kernel.field-0.0, c.in_err-kernel.ensures, is))))

pub returns-in_err-input : goal.returns-in_err-input
returns-in_err-input c =
    let tokens = c.in_ok-tokens.tokens in
    let parts = c.in_ok-parts.parts in
    let kernel = c.in_ok-kernel.kernel in
    let whole = bundle_read tokens (Ok parts) c.in_ok-parts.ensures.found in
    let broken = rw (c.tree.ensures.tree, c.as_slice-entries.ensures) at c.in_err-input.ensures in
    err_only (IsBundleAnswer c.args.text.now) _ c.from_residual-in_err-input.result c.from_residual-in_err-input.ensures.0 c.from_residual-in_err-input.ensures.1
    (λ e is. rw is (inr (tokens, (c.in_ok-tokens.ensures.text, c.in_ok-tokens.ensures.found), inr ((tokens, parts), (refl, whole), inr (((tokens, parts), kernel), (refl, c.in_ok-kernel.ensures), broken)))))

pub returns : goal.returns
returns c =
    let tokens = c.in_ok-tokens.tokens in
    let parts = c.in_ok-parts.parts in
    let kernel = c.in_ok-kernel.kernel in
    let whole = bundle_read tokens (Ok parts) c.in_ok-parts.ensures.found in
    let is = rw (c.tree.ensures.tree, c.as_slice-entries.ensures) at c.in_ok-input.ensures in
    let made = c.bundle_of.ensures in (
      tokens,
      (c.in_ok-tokens.ensures.text, c.in_ok-tokens.ensures.found),
      (
        (tokens, parts),
        (refl, whole),
        (
          ((tokens, parts), kernel),
          (refl, c.in_ok-kernel.ensures),
          record {
            unbroken = is.unbroken;
            kernel = made.kernel;
            script = made.script ∙ c.script_of-script.ensures;
            env = made.env ∙ is.env;
            cells = made.cells ∙ is.cells;
            arrays = made.arrays ∙ is.arrays;
            steps = made.steps ∙ is.steps;
          },
        ),
      ),
    )
