-- What `parse` answers, put together of what its steps answer.
use Rattle.spf_kernel.proofs.Common.{Unkept, ◌≡◌, ℕ, Ok, Err, ap, ◌∙◌, Place, Tokenized, texts, each_text, RawKernel, Tree, Checked, Names, ParsesTo, IsParsed, tree_of, AreNames, StandsAt, IsTokenized, kernel_notes, IsRuleFault, IsVerdict}
use Rattle.spf_kernel.proofs.NamesAreWords.{names_are_words}

pub kept : (tokens : Tokenized) (raw : RawKernel) (names : Names) (tree : Tree) → Checked (texts tokens) (kernel_notes raw) (Ok names) → tree ≡ tree_of (texts tokens) names raw → IsVerdict tokens raw (Ok tree)
kept tokens raw names tree checked means = (checked.0, means ∙ ap (λ (ns : Names). tree_of (texts tokens) ns raw) checked.1)

module _ (tokens : Tokenized) (from next : ℕ) (raw : RawKernel) (stands : StandsAt tokens from next raw) where
  pub are_names : IsTokenized tokens.text tokens.spans → AreNames (texts tokens) (kernel_notes raw)
  are_names lexed = names_are_words (texts tokens) from next stands.front raw (each_text tokens.text tokens.spans lexed.tokens) stands.splits stands.yields

  pub parses : (tree : Tree) → IsVerdict tokens raw (Ok tree) → ParsesTo tokens from next tree
  parses tree verdict = record { raw = raw; stands = stands; unbroken = verdict.0; means = verdict.1 }

  pub is_parsed : (names : Names) (tree : Tree) → IsTokenized tokens.text tokens.spans → Checked (texts tokens) (kernel_notes raw) (Ok names) → tree ≡ tree_of (texts tokens) names raw → IsParsed tree
  is_parsed names tree lexed checked means = record { tokens = tokens; lexed = lexed; from = from; next = next; parses = parses tree (kept tokens raw names tree checked means) }

  pub rule_fault : (place : Place) (rule : ℕ) → IsVerdict tokens raw (Err (Unkept.Rule place rule)) → IsRuleFault tokens from place rule next
  rule_fault place rule verdict = record { raw = raw; stands = stands; at = verdict.0; breach = verdict.1; place_is = verdict.2 }
