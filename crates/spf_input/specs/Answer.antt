-- What reading a text as a bundle answers: its tokens, its raw tree and its kernel, or the first fault.
use Rattle.std.specs.Prelude.{ℕ, ◌≡◌, List, None, Some, Result, Ok, Err, ⊤}
use Rattle.spf_lex.specs.BundleWords.{bundle_words}
use Rattle.spf_lex.specs.LexFault.{IsFaultOf}
use Rattle.spf_lex.specs.Standing.{IsWhole, ReadsWhole}
use Rattle.spf_lex.specs.Tokens.{Tokenized, HasTokens}
use Rattle.spf_lex.specs.declared.parts.PartFault.{PartFault}
use Rattle.spf_lex.specs.declared.parts.PartFault.TheVariants as part_is
use Rattle.spf_lex.specs.declared.scan.LexFault.{LexFault}
use Rattle.spf_lex.specs.declared.scan.LexFault.TheVariants as lex_is
use Rattle.spf_lex.specs.declared.text_kind.TextKind.TheVariants.{Token}
use Rattle.spf_kernel.specs.Parsed.{IsVerdict}
use Rattle.spf_kernel.specs.declared.fault.Unkept.{Unkept}
use Rattle.spf_kernel.specs.declared.fault.Unkept.TheVariants as unkept_is
use Rattle.spf_kernel.specs.declared.tree.Tree.{Tree}
use Rattle.spf_input.specs.Productions.{bundle}
use Rattle.spf_store.specs.Shaped.{data_of, size}
use Rattle.spf_input.specs.Given.{Given, given_in}
use Rattle.spf_input.specs.Numbers.{cells_of, env_of}
use Rattle.spf_input.specs.Rules.{first_fault_of, spot}
use Rattle.spf_input.specs.Stage.{◌then◌, with_given}
use Rattle.spf_input.specs.declared.bundle.RawBundle.{RawBundle}
use Rattle.spf_input.specs.declared.fault.InputFault.{InputFault}
use Rattle.spf_input.specs.declared.fault.InputFault.TheVariants.{Text, Kernel, Input, Memory}
use Rattle.spf_input.specs.declared.reading.Bundle.{Bundle}

abbrev pub no_token : LexFault → InputFault
no_token (lex_is.NoToken place) = Text place Token
no_token lex_is.Memory = Memory

abbrev pub no_part : PartFault → InputFault
no_part (part_is.Syntax place kind) = Text place kind
no_part part_is.Memory = Memory

abbrev pub unkept : Unkept → InputFault
unkept (unkept_is.Rule place rule) = Kernel place rule
unkept unkept_is.Memory = Memory

-- the tokens of a text, or the place without one
abbrev pub lexes : List ℕ → Result Tokenized InputFault → Type 0
lexes text (Ok tokens) = (tokens.text ≡ text) × HasTokens text tokens.spans
lexes text (Err refusal) = (fault : LexFault) × IsFaultOf text fault × (refusal ≡ no_token fault)

-- the raw tree of the bundle that all tokens are, or the first token that no bundle has there
abbrev pub parses : Tokenized → Result (Tokenized × RawBundle) InputFault → Type 0
parses tokens (Ok (same, raw)) = (same ≡ tokens) × IsWhole bundle_words bundle tokens raw
parses tokens (Err refusal) = (fault : PartFault) × ReadsWhole bundle_words bundle tokens (Err fault) × (refusal ≡ no_part fault)

-- the kernel of a raw tree, or the first rule that it breaks
abbrev pub judges : Tokenized × RawBundle → Result Tree InputFault → Type 0
judges (tokens, raw) (Ok tree) = IsVerdict tokens raw.kernel (Ok tree)
judges (tokens, raw) (Err refusal) = (fault : Unkept) × IsVerdict tokens raw.kernel (Err fault) × (refusal ≡ unkept fault)

-- what `read_kernel` answers
abbrev pub IsAnswer : List ℕ → Result Tree InputFault → Type 0
IsAnswer = lexes then (parses then judges)

-- the first rule of the input that is broken, and where; out of memory is free
abbrev pub IsInputFault : Tree → List Given → InputFault → Type 0
IsInputFault tree given (Input name place rule) = first_fault_of tree given ≡ Some (rule, spot name place)
IsInputFault tree given Memory = ⊤
IsInputFault tree given (Text place kind) = ⊥
IsInputFault tree given (Kernel place rule) = ⊥

-- no rule of the input is broken, and the parts are those of the bundle
pub record IsBundleOf (tokens : Tokenized) (raw : RawBundle) (tree : Tree) (bundle : Bundle) : Type 0 where
  pub unbroken : first_fault_of tree (given_in tokens raw.input) ≡ None
  pub kernel : bundle.kernel ≡ tree
  pub script : bundle.script ≡ raw.script
  pub env : bundle.env ≡ env_of tree (given_in tokens raw.input)
  pub cells : bundle.store.cells ≡ cells_of tree (given_in tokens raw.input)
  pub arrays : bundle.store.arrays ≡ data_of (env_of tree (given_in tokens raw.input)) tree
  pub steps : bundle.steps ≡ size (env_of tree (given_in tokens raw.input)) tree.steps

-- the bundle of a raw tree and its kernel, or the first rule of the input that is broken
abbrev pub inputs : (Tokenized × RawBundle) × Tree → Result Bundle InputFault → Type 0
inputs ((tokens, raw), tree) (Ok bundle) = IsBundleOf tokens raw tree bundle
inputs ((tokens, raw), tree) (Err refusal) = IsInputFault tree (given_in tokens raw.input) refusal

-- what `read_bundle` answers
abbrev pub IsBundleAnswer : List ℕ → Result Bundle InputFault → Type 0
IsBundleAnswer = lexes then (parses then (with_given judges then inputs))
