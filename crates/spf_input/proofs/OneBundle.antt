-- Each stage of reading a bundle has one answer, so that a bundle whose kernel keeps the rules has one.
use Rattle.std.proofs.Common.{◌≡◌, Ok, Err, refl, sym, ap, ◌∙◌, inl, inr}
use Rattle.std.specs.Prelude.{◌⊎◌, Result}
use Rattle.spf_lex.specs.BundleWords.{bundle_words}
use Rattle.spf_lex.specs.Tokens.{Tokenized, texts}
use Rattle.spf_lex.specs.declared.parts.PartFault.TheVariants as part_is
use Rattle.spf_lex.specs.declared.scan.LexFault.TheVariants as lex_is
use Rattle.spf_lex.specs.Language.{tokens_of}
use Rattle.spf_lex.proofs.Finding.{one_yield, yields_text}
use Rattle.spf_lex.proofs.TokenReadings.{one_reading, no_reading_and_fault}
use Rattle.spf_kernel.specs.declared.fault.Unkept.TheVariants as unkept_is
use Rattle.spf_kernel.specs.declared.tree.Tree.{Tree}
use Rattle.spf_input.specs.Answer.{lexes, parses, judges, inputs, IsAnswer, IsBundleAnswer, IsBundleOf}
use Rattle.spf_input.specs.Productions.{bundle}
use Rattle.spf_input.specs.Stage.{OneAnswer, ◌then◌, with_given}
use Rattle.spf_input.specs.declared.bundle.RawBundle.{RawBundle}
use Rattle.spf_input.specs.declared.fault.InputFault.TheVariants.{Text, Kernel, Input, Memory}
use Rattle.spf_input.specs.declared.reading.Bundle.{Bundle}
use Rattle.spf_input.proofs.Bundles.{kinds_exact, bundle_clear}
use Rattle.spf_input.proofs.Stages.{one_then}

one_lexes : OneAnswer Memory lexes
one_lexes text tokens (Ok other) (is, has) (is_too, has_too) =
    let spans : other.spans ≡ tokens.spans = one_reading text other.spans tokens.spans has_too has in
    let same_text : other.text ≡ tokens.text = is_too ∙ sym is in
    inl (λ i. Ok (record { text = same_text i; spans = spans i }))
one_lexes text tokens (Err refusal) (is, has) (lex_is.NoToken place, lacks, refused) = absurd (no_reading_and_fault text tokens.spans lacks.0 has lacks.1)
one_lexes text tokens (Err refusal) (is, has) (lex_is.Memory, free, refused) = inr (ap Err refused)

one_parses : OneAnswer Memory parses
one_parses tokens (same, raw) (Ok (other, tree)) (is, whole) (is_too, whole_too) =
    let trees : tree ≡ raw = one_yield kinds_exact bundle bundle_clear (tokens_of bundle_words (texts tokens)) tree raw whole_too whole in
    let both : other ≡ same = is_too ∙ sym is in
    inl (λ i. Ok (both i, trees i))
one_parses tokens (same, raw) (Err refusal) (is, whole) (part_is.Syntax place kind, fault, refused) =
    absurd (fault.no_text (yields_text kinds_exact bundle bundle_clear (tokens_of bundle_words (texts tokens)) raw whole))
one_parses tokens (same, raw) (Err refusal) (is, whole) (part_is.Memory, free, refused) = inr (ap Err refused)

one_judges : OneAnswer Memory judges
one_judges (tokens, raw) tree (Ok other) kept kept_too = inl (ap Ok (kept_too.1 ∙ sym kept.1))
one_judges (tokens, raw) tree (Err refusal) kept (unkept_is.Rule place rule, broken, refused) = absurd (kept.0 broken.0 rule broken.1.breaks)
one_judges (tokens, raw) tree (Err refusal) kept (unkept_is.Memory, free, refused) = inr (ap Err refused)

pub one_bundle : OneAnswer Memory IsAnswer
one_bundle = one_then Memory lexes (parses then judges) one_lexes (one_then Memory parses judges one_parses one_judges)

-- a result is this value or this refusal
abbrev IsOneOf : {R A : Type 0} → R → A → Result A R → Type 0
IsOneOf free a result = (result ≡ Ok a) ⊎ (result ≡ Err free)

one_with_given : {R A B : Type 0} (free : R) (p : A → Result B R → Type 0) → OneAnswer free p → OneAnswer free (with_given p)
one_with_given {R} {A} {B} free p one a (same, b) (Ok (other, c)) (is, took) (is_too, took_too) = by (Ok c) refl (one a b (Ok c) took took_too) where
  by : (result : Result B R) → result ≡ Ok c → IsOneOf free b result → IsOneOf {A = A × B} free (same, b) (Ok (other, c))
  by result is_c (inl e) =
      let c_is : c ≡ b = cc in
      let both : other ≡ same = is_too ∙ sym is in
      inl (λ i. Ok (both i, c_is i))
  by result is_c (inr e) = absurd cc
one_with_given {R} {A} {B} free p one a (same, b) (Err refusal) (is, took) bad = by (Err refusal) refl (one a b (Err refusal) took bad) where
  by : (result : Result B R) → result ≡ Err refusal → IsOneOf free b result → IsOneOf {A = A × B} free (same, b) (Err refusal)
  by result is_r (inl e) = absurd cc
  by result is_r (inr e) = let refusal_is : refusal ≡ free = cc in inr (ap Err refusal_is)

same_bundle : (tokens : Tokenized) (raw : RawBundle) (tree : Tree) (one other : Bundle) → IsBundleOf tokens raw tree one → IsBundleOf tokens raw tree other → other ≡ one
same_bundle tokens raw tree one other is is_too = λ i. record {
  kernel = (is_too.kernel ∙ sym is.kernel) i;
  script = (is_too.script ∙ sym is.script) i;
  env = (is_too.env ∙ sym is.env) i;
  store = record { cells = (is_too.cells ∙ sym is.cells) i; arrays = (is_too.arrays ∙ sym is.arrays) i };
  steps = (is_too.steps ∙ sym is.steps) i;
}

one_inputs : OneAnswer Memory inputs
one_inputs ((tokens, raw), tree) bundle (Ok other) is is_too = inl (ap Ok (same_bundle tokens raw tree bundle other is is_too))
one_inputs ((tokens, raw), tree) bundle (Err (Input name place rule)) is broken = let e = sym is.unbroken ∙ broken in absurd cc
one_inputs ((tokens, raw), tree) bundle (Err Memory) is free = inr refl
one_inputs ((tokens, raw), tree) bundle (Err (Text place kind)) is none = absurd none
one_inputs ((tokens, raw), tree) bundle (Err (Kernel place rule)) is none = absurd none

pub one_whole_bundle : OneAnswer Memory IsBundleAnswer
one_whole_bundle =
    one_then Memory lexes (parses then (with_given judges then inputs)) one_lexes
    (one_then Memory parses (with_given judges then inputs) one_parses (one_then Memory (with_given judges) inputs (one_with_given Memory judges one_judges) one_inputs))
