-- The answers of the steps of `calculate` are its answers.
use Rattle.std.proofs.Common.{◌≡◌, ◌+◌, ℕ, List, [], ◌∷◌, Ok, Err, refl, inl, inr}
use Rattle.spf_lex.specs.LexFault.{IsFaultOf}
use Rattle.spf_lex.specs.Standing.{ReadsAllBy}
use Rattle.spf_lex.specs.Tokens.{Tokenized, HasTokens}
use Rattle.spf_lex.specs.declared.parts.PartFault.{PartFault}
use Rattle.spf_lex.specs.declared.parts.PartFault.TheVariants as part_is
use Rattle.spf_lex.specs.declared.scan.LexFault.{LexFault}
use Rattle.spf_lex.specs.declared.scan.LexFault.TheVariants as lex_is
use Rattle.spf_lex.specs.declared.text_kind.TextKind.{TextKind}
use Rattle.spf_base.specs.declared.place.Place.{Place}
use Rattle.spf_reltext.specs.CalcWords.{calc_words}
use Rattle.spf_reltext.specs.declared.names.RelNames.{RelNames}
use Rattle.spf_calc.proofs.CalcTexts.{calc_read}
use Rattle.spf_calc.specs.Answer.{AreResults, IsCalcText, IsFault, IsResultOf, no_part, no_token}
use Rattle.spf_calc.specs.Evaluated.{names_of, no_names}
use Rattle.spf_calc.specs.Productions.{calc}
use Rattle.spf_calc.specs.Situation.{Situation, start}
use Rattle.spf_calc.specs.Statements.{AreSteps}
use Rattle.spf_calc.specs.declared.fault.CalcFault.{CalcFault}
use Rattle.spf_calc.specs.declared.fault.CalcFault.TheVariants.{Text, Rule, Memory}
use Rattle.spf_calc.specs.declared.raw.RawCalc.{RawCalc}
use Rattle.spf_calc.specs.declared.raw.RawStatement.{RawStatement}

pub is_text : (text : List ℕ) (tokens : Tokenized) (raw : RawCalc) → tokens.text ≡ text → HasTokens text tokens.spans → ReadsAllBy calc_words tokens calc.read (Ok raw) → IsCalcText text raw
is_text text tokens raw same lexed found = record { tokens = tokens; text_is = same; lexed = lexed; whole = calc_read tokens (Ok raw) found }

pub token_fault : (text : List ℕ) (fault : LexFault) → IsFaultOf text fault → IsFault text (no_token fault)
token_fault text (lex_is.NoToken place) lacks = inl (lacks, refl)
token_fault text lex_is.Memory lacks = tt

pub syntax_fault : (text : List ℕ) (tokens : Tokenized) (fault : PartFault) → tokens.text ≡ text → HasTokens text tokens.spans → ReadsAllBy calc_words tokens calc.read (Err fault) → IsFault text (no_part fault)
syntax_fault text tokens (part_is.Syntax place kind) same lexed found =
    inr (record { tokens = tokens; text_is = same; lexed = lexed; stops = calc_read tokens (Err (part_is.Syntax place kind)) found })
syntax_fault text tokens part_is.Memory same lexed found = tt

-- statements aren't refused by a fault of the text
no_text : (names : RelNames) (number : ℕ) (state : Situation) (statements : List RawStatement) (place : Place) (kind : TextKind) → AreSteps names number state statements (Err (Text place kind)) → ⊥
no_text names number state [] place kind steps = steps
no_text names number state (statement ∷ statements) place kind (inl here) = here
no_text names number state (statement ∷ statements) place kind (inr later) = no_text names (number + 1) later.0 statements place kind later.2

pub rule_fault : (text : List ℕ) (raw : RawCalc) (fault : CalcFault) → IsCalcText text raw → AreResults raw (Err fault) → IsFault text fault
rule_fault text raw (Text place kind) is steps = absurd (no_text (names_of no_names raw.statements) 1 start raw.statements place kind steps)
rule_fault text raw (Rule statement rule) is steps = record { raw = raw; is_text = is; steps = steps }
rule_fault text raw Memory is steps = tt

pub results_of : (text : List ℕ) (raw : RawCalc) (end : Situation) (results : List ℕ) → IsCalcText text raw → AreResults raw (Ok end) → results ≡ end.shown → IsResultOf text results
results_of text raw end results is steps shown = record { raw = raw; is_text = is; end = end; steps = steps; results_are = shown }
