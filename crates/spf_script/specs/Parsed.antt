-- The scripts that a text holds, and what reading one answers.
use Rattle.std.specs.Prelude.{ℕ, List, length, Result, Ok, Err, ⊤}
use Rattle.spf_lex.specs.BundleWords.{bundle_words}
use Rattle.spf_lex.specs.Standing.{StandsAt, IsSyntaxFault}
use Rattle.spf_lex.specs.Tokens.{Tokenized, IsTokenized, HasTokens}
use Rattle.spf_lex.specs.declared.token_list.Span.{Span}
use Rattle.spf_script.specs.Productions.{script}
use Rattle.spf_script.specs.declared.script.ScriptTextFault.{ScriptTextFault}
use Rattle.spf_script.specs.declared.script.ScriptTextFault.TheVariants.{Syntax, Memory}
use Rattle.spf_script.specs.declared.step.TextStep.{TextStep}

-- the steps are those of a script that stands among the tokens of some text
pub record IsParsed (steps : List TextStep) : Type 0 where
  pub tokens : Tokenized
  pub lexed : IsTokenized tokens.text tokens.spans
  pub from : ℕ
  pub next : ℕ
  pub stands : StandsAt bundle_words script tokens from next steps

-- the tokens of the text, from the first to the last, are a script of these steps
pub record IsTextOf (text : List ℕ) (steps : List TextStep) : Type 0 where
  pub spans : List Span
  pub tokens : HasTokens text spans
  pub stands : StandsAt bundle_words script (record { text = text; spans = spans }) 0 (length spans) steps

-- what `parse` answers; out of memory is free
abbrev pub IsAnswer : Tokenized → ℕ → Result (List TextStep × ℕ) ScriptTextFault → Type 0
IsAnswer tokens from (Ok (steps, next)) = StandsAt bundle_words script tokens from next steps
IsAnswer tokens from (Err (Syntax place kind)) = IsSyntaxFault bundle_words script tokens from place kind
IsAnswer tokens from (Err Memory) = ⊤
