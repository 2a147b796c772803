-- The text of printed words stands as what they were printed of.
use Rattle.std.proofs.Common.{◌≡◌, ℕ, Bool, List, [], ◌++◌, length, drop, sym, ap, ◌∙◌, arith, append-nil}
use Rattle.std.proofs.lemmas.List.{length-map, drop_all}
use Rattle.std.proofs.lemmas.List.Elements.{All-from_recursion}
use Rattle.spf_lex.specs.Joined.{joined}
use Rattle.spf_lex.specs.Language.{Language, Lexed, tokens_of}
use Rattle.spf_lex.specs.Production.{Production}
use Rattle.spf_lex.specs.Standing.{StandsAt}
use Rattle.spf_lex.specs.Tokens.{Tokenized, HasTokens, IsTokenText, texts}
use Rattle.spf_lex.specs.declared.token_list.Span.{Span}
use Rattle.spf_lex.proofs.Joining.{joined_tokens}
use Rattle.spf_lex.proofs.Numbered.{numbered_length}
use Rattle.spf_lex.proofs.PrintedWords.{IsPrinted}

module _ {K A : Type 0} {same : K → K → Bool} {empty : Bool} (language : Language K) (p : Production same empty A) where
  -- all tokens of such words
  all_tokens : (words : List (List ℕ)) → tokens_of language words ≡ tokens_of language words ++ drop (length words) (tokens_of language words)
  all_tokens words =
      sym (ap (λ (rest : List (Lexed K)). tokens_of language words ++ rest) (none (length words) (tokens_of language words) (numbered_length language 0 words)) ∙ append-nil (tokens_of language words))
    where
      none : (n : ℕ) (tokens : List (Lexed K)) → length tokens ≡ n → drop n tokens ≡ []
      none n tokens e = drop_all n tokens (omega (arith, e))

  -- where these words are all tokens of a text, the part stands there from the first to the last
  pub stands_printed : (tokens : Tokenized) (words : List (List ℕ)) (part : A) → texts tokens ≡ words → IsPrinted language p.shape.grammar p.make part words 0 → StandsAt language p tokens 0 (length tokens.spans) part
  stands_printed tokens words part are printed =
      let count : length tokens.spans ≡ length words = sym (length-map tokens.spans _) ∙ ap length are in
      record {
        front = tokens_of language words;
        splits = rw (are, count) (all_tokens words);
        within = omega (arith, ap length are, count);
        yields = (printed.text.derivation, printed.text.spells, sym printed.means);
      }

  pub record IsStanding (text : List ℕ) (part : A) : Type 0 where
    pub spans : List Span
    pub tokens : HasTokens text spans
    pub stands : StandsAt language p (record { text = text; spans = spans }) 0 (length spans) part

  pub printed_stands : (words : List (List ℕ)) (part : A) → IsPrinted language p.shape.grammar p.make part words 0 → IsStanding (joined words) part
  printed_stands words part printed =
      let (spans, read, are) = joined_tokens words (All-from_recursion IsTokenText words printed.text.legible) in
      record { spans = spans; tokens = read; stands = stands_printed (record { text = joined words; spans = spans }) words part are printed }
