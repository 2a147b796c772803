-- What `calculate` answers: the results of a calculator text, or the first fault.
use Rattle.std.specs.Prelude.{ℕ, ◌≡◌, ◌⊎◌, List, Result, Ok, Err, ⊤}
use Rattle.spf_lex.specs.LexFault.{IsFaultOf}
use Rattle.spf_lex.specs.Standing.{IsWhole, ReadsWhole}
use Rattle.spf_lex.specs.Tokens.{Tokenized, HasTokens}
use Rattle.spf_lex.specs.declared.parts.PartFault.{PartFault}
use Rattle.spf_lex.specs.declared.parts.PartFault.TheVariants as part_is
use Rattle.spf_lex.specs.declared.scan.LexFault.{LexFault}
use Rattle.spf_lex.specs.declared.scan.LexFault.TheVariants as lex_is
use Rattle.spf_lex.specs.declared.text_kind.TextKind.TheVariants.{Token}
use Rattle.spf_reltext.specs.CalcWords.{calc_words}
use Rattle.spf_calc.specs.Evaluated.{names_of, no_names}
use Rattle.spf_calc.specs.Productions.{calc}
use Rattle.spf_calc.specs.Situation.{Situation, start}
use Rattle.spf_calc.specs.Statements.{AreSteps}
use Rattle.spf_calc.specs.declared.fault.CalcFault.{CalcFault}
use Rattle.spf_calc.specs.declared.fault.CalcFault.TheVariants.{Text, Rule, Memory}
use Rattle.spf_calc.specs.declared.raw.RawCalc.{RawCalc}

abbrev pub no_token : LexFault → CalcFault
no_token (lex_is.NoToken place) = Text place Token
no_token lex_is.Memory = Memory

abbrev pub no_part : PartFault → CalcFault
no_part (part_is.Syntax place kind) = Text place kind
no_part part_is.Memory = Memory

-- the text is a calculator text, of which this is the raw tree
pub record IsCalcText (text : List ℕ) (raw : RawCalc) : Type 0 where
  pub tokens : Tokenized
  pub text_is : tokens.text ≡ text
  pub lexed : HasTokens text tokens.spans
  pub whole : IsWhole calc_words calc tokens raw

-- the text has tokens, of which one, or the end, is the first that no calculator text has there
pub record IsSyntaxFaultOf (text : List ℕ) (fault : PartFault) : Type 0 where
  pub tokens : Tokenized
  pub text_is : tokens.text ≡ text
  pub lexed : HasTokens text tokens.spans
  pub stops : ReadsWhole calc_words calc tokens (Err fault)

-- what the statements of the text answer, with the names of the whole text
abbrev pub AreResults : RawCalc → Result Situation CalcFault → Type 0
AreResults raw result = AreSteps (names_of no_names raw.statements) 1 start raw.statements result

-- the text of the results
pub record IsResultOf (text results : List ℕ) : Type 0 where
  pub raw : RawCalc
  pub is_text : IsCalcText text raw
  pub end : Situation
  pub steps : AreResults raw (Ok end)
  pub results_are : results ≡ end.shown

-- a statement of the text breaks a rule, and none before it does
pub record IsRuleFaultOf (text : List ℕ) (fault : CalcFault) : Type 0 where
  pub raw : RawCalc
  pub is_text : IsCalcText text raw
  pub steps : AreResults raw (Err fault)

-- the first fault: a place without a token, a fault of syntax, or a rule; out of memory is free
abbrev pub IsFault : List ℕ → CalcFault → Type 0
IsFault text (Text place kind) = (IsFaultOf text (lex_is.NoToken place) × (kind ≡ Token)) ⊎ IsSyntaxFaultOf text (part_is.Syntax place kind)
IsFault text (Rule statement rule) = IsRuleFaultOf text (Rule statement rule)
IsFault text Memory = ⊤

-- what `calculate` answers
abbrev pub IsCalcAnswer : List ℕ → Result (List ℕ) CalcFault → Type 0
IsCalcAnswer text (Ok results) = IsResultOf text results
IsCalcAnswer text (Err fault) = IsFault text fault
