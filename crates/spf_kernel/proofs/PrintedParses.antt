-- The words of a tree that some text is parsed to are parsed to it.
use Rattle.spf_kernel.proofs.Common.{Span, ◌≡◌, ℕ, List, [], length, refl, sym, ap, ◌∙◌, subst, All-from_recursion, bundle_words, Derivation, joined, Lexed, Tokenized, IsTokenText, texts, Kind, in_words, each_text, standing_leaves, Note, RawKernel, Tree, IsKernel, Names, names_of, IsParsed, IsTextOf, ParsesTo, meaning, words_of, tree_of, IsUnbroken, Leaves, holds_all, kernel_notes, kernel}
use Rattle.spf_lex.proofs.Joining.{joined_tokens}
use Rattle.spf_lex.proofs.PrintedTexts.{stands_printed}
use Rattle.spf_kernel.proofs.NamedUses.{all_fit}
use Rattle.spf_kernel.proofs.TokenLeaves.{token_is_leaf}
use Rattle.spf_kernel.proofs.Unbroken.{AreSound, unbroken_by, sound}
use Rattle.spf_kernel.proofs.Written.{IsLeaf, IsWritten}
use Rattle.spf_kernel.proofs.WrittenKernel.{source_of, whole, kernel_written_again}

module _ (before : List (List ℕ)) (raw : RawKernel) where
  abbrev notes : List Note
  notes = kernel_notes raw

  -- the words are written again as this kernel
  abbrev IsAgain : List (List ℕ) → Type 0
  IsAgain words = IsWritten (source_of before words raw) kernel.shape.grammar kernel.make (whole before words raw) raw 0

  parses_again : (words : List (List ℕ)) → words ≡ words_of (meaning before raw) → (spans : List Span) (text : List ℕ) → texts (record { text = text; spans = spans }) ≡ words → IsUnbroken before notes → IsAgain words
      → ParsesTo (record { text = text; spans = spans }) 0 (length spans) (meaning before raw)
  parses_again words same spans text are unbroken written =
      let tokens : Tokenized = record { text = text; spans = spans } in
      let again = kernel.make written.text.derivation in
      record {
        raw = again;
        stands = stands_printed bundle_words kernel tokens words again are (record { text = in_words (sym same) written.text; means = refl });
        unbroken = rw are (unbroken_by words (kernel_notes again) (subst (AreSound []) (sym written.same) (sound before notes unbroken)));
        means =
            sym written.means ∙ ap (λ (names : Names). tree_of words names again) (sym (ap names_of written.same))
            ∙ ap (λ (words : List (List ℕ)). meaning words again) (sym are);
      }

printed_from : (before : List (List ℕ)) (d : Derivation (Lexed Kind) kernel.shape.grammar) → Leaves (IsLeaf before) kernel.shape.grammar d → IsUnbroken before (kernel_notes (kernel.make d))
    → IsTextOf (joined (words_of (meaning before (kernel.make d)))) (meaning before (kernel.make d))
printed_from before d leaves unbroken =
    let words = words_of (meaning before (kernel.make d)) in
    by words refl (kernel_written_again before words d leaves (all_fit before (kernel_notes (kernel.make d)) unbroken) 0 (holds_all [] words))
  where
    by : (words : List (List ℕ)) → words ≡ words_of (meaning before (kernel.make d)) → IsAgain before (kernel.make d) words → IsTextOf (joined words) (meaning before (kernel.make d))
    by words same written =
        let (spans, read, are) = joined_tokens words (All-from_recursion IsTokenText words (rw same written.text.legible)) in
        record { spans = spans; tokens = read; parses = parses_again before (kernel.make d) words same spans (joined words) are unbroken written }

pub printed_parses : (tree : Tree) → IsParsed tree → IsTextOf (joined (words_of tree)) tree
printed_parses tree parsed = by parsed.parses.stands.yields where
  by : IsKernel parsed.parses.stands.front parsed.parses.raw → IsTextOf (joined (words_of tree)) tree
  by (d, spells, is) =
      let tokens = parsed.tokens in
      let parses = parsed.parses in
      let leaves =
      standing_leaves bundle_words (texts tokens) (IsLeaf (texts tokens)) (token_is_leaf (texts tokens)) kernel.shape.grammar parsed.from parsed.next parses.stands.front
      (each_text tokens.text tokens.spans parsed.lexed.tokens) parses.stands.splits d spells
      in
      let same : tree ≡ meaning (texts tokens) (kernel.make d) = parses.means ∙ ap (meaning (texts tokens)) is in
      subst (λ (tree : Tree). IsTextOf (joined (words_of tree)) tree) (sym same) (printed_from (texts tokens) d leaves (rw is at parses.unbroken))
