-- Which tokens are a kernel, and where one stands among the tokens of a text.
use Rattle.std.specs.Prelude.{ℕ, List}
use Rattle.spf_kernel.specs.Types.{Kind, Place, TextKind, RawKernel}
use Rattle.spf_lex.specs.BundleWords.{bundle_words}
use Rattle.spf_lex.specs.Language.{Lexed}
use Rattle.spf_lex.specs.Standing as standing
use Rattle.spf_lex.specs.Tokens.{Tokenized}
use Rattle.spf_kernel.specs.Productions.{kernel}

-- the tokens are a kernel with this tree: the tree of a derivation that they spell
abbrev pub IsKernel : List (Lexed Kind) → RawKernel → Type 0
IsKernel tokens tree = standing.Yields kernel tokens tree

-- a kernel with this raw tree stands from token `from` up to token `next`
abbrev pub StandsAt : Tokenized → ℕ → ℕ → RawKernel → Type 0
StandsAt tokens from next raw = standing.StandsAt bundle_words kernel tokens from next raw

-- the token at this place, or the end, is the first behind the longest prefix that some kernel begins with, and that prefix is no kernel
abbrev pub IsSyntaxFault : Tokenized → ℕ → Place → TextKind → Type 0
IsSyntaxFault tokens from place kind = standing.IsSyntaxFault bundle_words kernel tokens from place kind
