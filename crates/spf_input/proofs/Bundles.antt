-- The language of bundles is LL(1), and a bundle's kernel stands in it.
use Rattle.std.proofs.Common.{◌≡◌, ℕ, ◌++◌, true, Result, Ok, Err, refl, ap, ◌∙◌, append_assoc}
use Rattle.std.specs.Result.{IsErr, IsErrAnd}
use denote.Enum.Bare.{same_true, true_same}
use Rattle.spf_lex.specs.BundleWords.{same_kind, bundle_words}
use Rattle.spf_lex.specs.Derivation.{Spells}
use Rattle.spf_lex.specs.Grammar.{IsExact}
use Rattle.spf_lex.specs.LookAhead.{is_clear, nullable, first, extension}
use Rattle.spf_lex.specs.Standing.{IsWhole, StandsAt, ReadsAllBy, ReadsWhole}
use Rattle.spf_lex.specs.Tokens.{Tokenized}
use Rattle.spf_lex.specs.contracts.kind.Kind.{the_type}
use Rattle.spf_lex.specs.declared.parts.PartFault.{PartFault}
use Rattle.spf_lex.proofs.Between.{stands_between}
use Rattle.spf_lex.proofs.WholeTexts.{reads_whole}
use Rattle.spf_kernel.specs.Productions.{number, sign, numbered, mono, first_step, next_step, sum, subscripted, atom, ix, in_brackets, first_summand, next_summand, value_of, plain, nested, fact, value, becomes, assign, compare, cond, guard, range, part, inner, item, one_loop, params, sized, trend, index, values, decl, kernel}
use Rattle.spf_script.specs.Productions as script_is
use Rattle.spf_input.specs.Productions as input_is
use Rattle.spf_input.specs.Productions.{given, entry, input, bundle}
use Rattle.spf_input.specs.declared.bundle.RawBundle.{RawBundle}

pub kinds_exact : IsExact same_kind
kinds_exact = λ a b. (same_true the_type tt a b, true_same the_type a b)

pub bundle_clear : is_clear same_kind bundle.shape.grammar ≡ true
unfolding is_clear nullable first extension number sign numbered mono first_step next_step sum subscripted atom ix in_brackets first_summand next_summand value_of plain nested fact value becomes assign compare cond guard range part inner item one_loop params sized trend index values decl kernel script_is.name script_is.number script_is.names script_is.cpack script_is.order script_is.bucket script_is.seed script_is.tile script_is.tilepack script_is.step script_is.script given input_is.values entry input bundle
bundle_clear = refl

pub bundle_read : (tokens : Tokenized) (result : Result RawBundle PartFault) → ReadsAllBy bundle_words tokens bundle.read result → ReadsWhole bundle_words bundle tokens result
bundle_read = reads_whole kinds_exact bundle bundle_clear bundle_words

pub kernel_stands : (tokens : Tokenized) (raw : RawBundle) → IsWhole bundle_words bundle tokens raw → (from next : ℕ) × StandsAt bundle_words kernel tokens from next raw.kernel
unfolding bundle Spells
kernel_stands tokens raw (d, (spf, behind_spf, splits, one_spf, (one, behind_one, next, one_one, (part, back, after, spells, others))), is) =
    (_, _, stands_between bundle_words kernel tokens raw.kernel (spf ++ one) part back (rw append_assoc (splits ∙ ap (λ ts. spf ++ ts) (next ∙ ap (λ ts. one ++ ts) after))) (d.1.1.0, spells, ap (λ (b : RawBundle). b.kernel) is))

pub script_stands : (tokens : Tokenized) (raw : RawBundle) → IsWhole bundle_words bundle tokens raw → (from next : ℕ) × StandsAt bundle_words script_is.script tokens from next raw.script
unfolding bundle Spells
script_stands tokens raw (d, (spf, behind_spf, splits, one_spf, (one, behind_one, next, one_one, (part, back, after, spells, (second, rest, more, second_spells, others)))), is) = (
  _,
  _,
  stands_between bundle_words script_is.script tokens raw.script (spf ++ (one ++ part)) second rest
      (rw (append_assoc, append_assoc) (splits ∙ ap (λ ts. spf ++ ts) (next ∙ ap (λ ts. one ++ ts) (after ∙ ap (λ ts. part ++ ts) more)))) (d.1.1.1.0, second_spells, ap (λ (b : RawBundle). b.script) is),
)

-- what is only known of a refusal is known of the result
pub err_only : {A E : Type 0} (Q : Result A E → Type 0) (P : E → Type 0) (result : Result A E) → IsErr result → IsErrAnd result P → ((e : E) → P e → Q (Err e)) → Q result
err_only Q P (Ok a) is known go = absurd cc
err_only Q P (Err e) is known go = go e known
