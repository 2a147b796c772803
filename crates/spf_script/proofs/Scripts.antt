-- The language of scripts is LL(1), and a script ends by itself.
use Rattle.std.proofs.Common.{◌≡◌, ℕ, true, [], List, Result, refl}
use Rattle.spf_lex.specs.BundleWords.{same_kind, bundle_words}
use Rattle.spf_lex.specs.Grammar.{IsExact}
use Rattle.spf_lex.specs.LookAhead.{nullable, first, extension, is_clear}
use Rattle.spf_lex.specs.Standing.{FindsBy, FindsAt}
use Rattle.spf_lex.specs.Tokens.{Tokenized}
use Rattle.spf_lex.specs.contracts.kind.Kind.{the_type}
use Rattle.spf_lex.specs.declared.parts.PartFault.{PartFault}
use Rattle.spf_lex.proofs.Finding.{finds}
use denote.Enum.Bare.{same_true, true_same}
use Rattle.spf_script.specs.Productions.{name, number, names, cpack, order, bucket, seed, tile, tilepack, step, script}
use Rattle.spf_script.specs.declared.step.TextStep.{TextStep}

pub kinds_exact : IsExact same_kind
kinds_exact = λ a b. (same_true the_type tt a b, true_same the_type a b)

pub script_clear : is_clear same_kind script.shape.grammar ≡ true
unfolding is_clear nullable first extension name number names cpack order bucket seed tile tilepack step script
script_clear = refl

pub script_closed : extension script.shape.grammar ≡ []
unfolding nullable first extension name number names cpack order bucket seed tile tilepack step script
script_closed = refl

pub script_found : (tokens : Tokenized) (from : ℕ) (result : Result (List TextStep × ℕ) PartFault) → FindsBy bundle_words tokens script.read from result → FindsAt bundle_words script tokens from result
script_found = finds kinds_exact script script_clear bundle_words
