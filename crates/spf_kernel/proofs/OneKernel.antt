-- A look at the next token tells how to read on in a kernel, and no kernel begins with another one. So from a token on at most one
-- kernel stands, with one raw tree, and where one stands no fault of syntax does: its tree is the only answer besides want of memory.
use Rattle.spf_kernel.proofs.Common.{TextKind, ◌≡◌, true, [], refl, same_kind, IsExact, ℕ, List, Result, Place, bundle_words, Lexed, Tokenized, Kind, RawKernel, IsKernel, StandsAt, Ok, Err, sym, ap, ◌∙◌, subst, inl, inr, ◌⊎◌, texts, Tree, ParsesTo, meaning, IsUnbroken, kernel, IsSyntaxFault, kernel_notes, IsAnswer}
use denote.Enum.Bare.{same_true, true_same}
use Rattle.spf_lex.specs.LookAhead.{is_clear, nullable, first, extension}
use Rattle.spf_lex.specs.contracts.kind.Kind.{the_type}
use Rattle.spf_kernel.specs.Productions.{number, sign, numbered, mono, first_step, next_step, sum, subscripted, atom, ix, in_brackets, first_summand, next_summand, value_of, plain, nested, fact, value, becomes, assign, compare, cond, guard, range, part, inner, item, one_loop, params, sized, trend, index, values, decl, kernel}
use Rattle.spf_lex.specs.Standing.{FindsAt, FindsBy}
use Rattle.spf_lex.specs.declared.parts.PartFault.{PartFault}
use Rattle.spf_lex.proofs.Finding as finding
use Rattle.spf_kernel.specs.declared.fault.KernelFault.{KernelFault}

pub kinds_exact : IsExact same_kind
kinds_exact = λ a b. (same_true the_type tt a b, true_same the_type a b)

pub kernel_clear : is_clear same_kind kernel.shape.grammar ≡ true
unfolding is_clear nullable first extension number sign numbered mono first_step next_step sum subscripted atom ix in_brackets first_summand next_summand value_of plain nested fact value becomes assign compare cond guard range part inner item one_loop params sized trend index values decl kernel
kernel_clear = refl

pub kernel_closed : extension kernel.shape.grammar ≡ []
unfolding nullable first extension number sign numbered mono first_step next_step sum subscripted atom ix in_brackets first_summand next_summand value_of plain nested fact value becomes assign compare cond guard range part inner item one_loop params sized trend index values decl kernel
kernel_closed = refl

pub one_tree : (tokens : List (Lexed Kind)) (a b : RawKernel) → IsKernel tokens a → IsKernel tokens b → a ≡ b
one_tree = finding.one_yield kinds_exact kernel kernel_clear

module _ (tokens : Tokenized) (from : ℕ) where
  pub finds_kernel : (result : Result (RawKernel × ℕ) PartFault) → FindsBy bundle_words tokens kernel.read from result → FindsAt bundle_words kernel tokens from result
  finds_kernel = finding.finds kinds_exact kernel kernel_clear bundle_words tokens from

  pub one_kernel : (n m : ℕ) (a b : RawKernel) → StandsAt tokens from n a → StandsAt tokens from m b → (n ≡ m) × (a ≡ b)
  one_kernel = finding.one_stands kinds_exact kernel kernel_clear bundle_words tokens kernel_closed from

  pub no_syntax_fault : (n : ℕ) (raw : RawKernel) (place : Place) (kind : TextKind) → StandsAt tokens from n raw → ¬ IsSyntaxFault tokens from place kind
  no_syntax_fault = finding.no_syntax_fault kinds_exact kernel kernel_clear bundle_words tokens kernel_closed from

module _ (tokens : Tokenized) (from next : ℕ) (tree : Tree) (parses : ParsesTo tokens from next tree) where
  pub one_answer : (answer : Result (Tree × ℕ) KernelFault) → IsAnswer tokens from answer → (answer ≡ Ok (tree, next)) ⊎ (answer ≡ Err KernelFault.Memory)
  one_answer (Ok (other, end)) answer =
      let same = one_kernel tokens from end next answer.raw parses.raw answer.stands parses.stands in
      let means : other ≡ tree = answer.means ∙ ap (meaning (texts tokens)) same.1 ∙ sym parses.means in
      inl (λ i. Ok (means i, same.0 i))
  one_answer (Err (KernelFault.Syntax place kind)) answer = absurd (no_syntax_fault tokens from next parses.raw place kind parses.stands answer)
  one_answer (Err (KernelFault.Rule place rule end)) answer =
      let same = one_kernel tokens from next end parses.raw answer.raw parses.stands answer.stands in
      let unbroken = subst (λ (raw : RawKernel). IsUnbroken (texts tokens) (kernel_notes raw)) same.1 parses.unbroken in
      absurd (unbroken answer.at rule answer.breach.breaks)
  one_answer (Err KernelFault.Memory) answer = inr refl
