-- The kernels that a text holds, and what reading one answers.
use Rattle.std.specs.Prelude.{ℕ, ◌≡◌, List, length, Result, Ok, Err, ⊤}
use Rattle.spf_kernel.specs.Types.{Place, Span, RawKernel, Tree}
use Rattle.spf_kernel.specs.declared.fault.KernelFault.{KernelFault}
use Rattle.spf_kernel.specs.declared.fault.Unkept.{Unkept}
use Rattle.spf_lex.specs.Standing.{place_from}
use Rattle.spf_lex.specs.Tokens.{Tokenized, IsTokenized, HasTokens, texts}
use Rattle.spf_kernel.specs.Facts.{facts_of}
use Rattle.spf_kernel.specs.Names.{names_of}
use Rattle.spf_kernel.specs.Notes.{kernel_notes}
use Rattle.spf_kernel.specs.Resolved.{tree_of}
use Rattle.spf_kernel.specs.Rules.{IsUnbroken, IsFirstBreach}
use Rattle.spf_kernel.specs.read.Stands.{StandsAt, IsSyntaxFault}

-- what a raw tree means
abbrev pub meaning : List (List ℕ) → RawKernel → Tree
meaning texts raw = tree_of texts (names_of (facts_of texts (kernel_notes raw))) raw

-- a kernel that breaks no rule stands there, and means this tree
pub record ParsesTo (tokens : Tokenized) (from next : ℕ) (tree : Tree) : Type 0 where
  pub raw : RawKernel
  pub stands : StandsAt tokens from next raw
  pub unbroken : IsUnbroken (texts tokens) (kernel_notes raw)
  pub means : tree ≡ meaning (texts tokens) raw

-- a kernel stands there; token `at` is the least place at which it breaks a rule, and this is the least rule broken there
pub record IsRuleFault (tokens : Tokenized) (from : ℕ) (place : Place) (rule next : ℕ) : Type 0 where
  pub raw : RawKernel
  pub stands : StandsAt tokens from next raw
  pub at : ℕ
  pub breach : IsFirstBreach (texts tokens) (kernel_notes raw) at rule
  pub place_is : place ≡ place_from tokens at

-- the tree is what some text is parsed to
pub record IsParsed (tree : Tree) : Type 0 where
  pub tokens : Tokenized
  pub lexed : IsTokenized tokens.text tokens.spans
  pub from : ℕ
  pub next : ℕ
  pub parses : ParsesTo tokens from next tree

-- the tokens of the text, from the first to the last, are a kernel that breaks no rule, and means this tree
pub record IsTextOf (text : List ℕ) (tree : Tree) : Type 0 where
  pub spans : List Span
  pub tokens : HasTokens text spans
  pub parses : ParsesTo (record { text = text; spans = spans }) 0 (length spans) tree

-- what `judge` says of a raw tree: what it means, or the first rule that it breaks; out of memory is free
abbrev pub IsVerdict : Tokenized → RawKernel → Result Tree Unkept → Type 0
IsVerdict tokens raw (Ok tree) = IsUnbroken (texts tokens) (kernel_notes raw) × (tree ≡ meaning (texts tokens) raw)
IsVerdict tokens raw (Err (Unkept.Rule place rule)) = (at : ℕ) × IsFirstBreach (texts tokens) (kernel_notes raw) at rule × (place ≡ place_from tokens at)
IsVerdict tokens raw (Err Unkept.Memory) = ⊤

-- what `parse` answers; want of memory is free
abbrev pub IsAnswer : Tokenized → ℕ → Result (Tree × ℕ) KernelFault → Type 0
IsAnswer tokens from (Ok (tree, next)) = ParsesTo tokens from next tree
IsAnswer tokens from (Err (KernelFault.Syntax place kind)) = IsSyntaxFault tokens from place kind
IsAnswer tokens from (Err (KernelFault.Rule place rule next)) = IsRuleFault tokens from place rule next
IsAnswer tokens from (Err KernelFault.Memory) = ⊤
