-- Spaced words are read as those words.
use Rattle.std.proofs.Common.{◌≡◌, ℕ, ◌+◌, ◌-◌, ◌≤◌, ◌^◌, List, [], ◌∷◌, ◌++◌, length, take, drop, All, Contains, subst, sym, ap, refl, ◌∙◌, inl, inr, arith, length-append, length-drop}
use Rattle.std.proofs.lemmas.List.{take-append-le, take_all, drop-drop}
use Rattle.std.proofs.lemmas.List.Elements.{All-push}
use Rattle.spf_base.specs.Word.{IsDigit, IsWordByte, IsWord}
use Rattle.spf_lex.specs.declared.token_list.Span.{Span}
use Rattle.spf_lex.specs.Front.{BeginsWith, IsRun}
use Rattle.spf_lex.specs.Lexeme.{symbols, IsNumber, IsLexeme, IsToken, value_of}
use Rattle.spf_lex.specs.Spaced.{RunsOn, IsSpaced, nothing, one_blank, one_word}
use Rattle.spf_lex.specs.Tokens.{IsTokenText, Reads, done, gap, token, HasTokens, texts}
use Rattle.spf_lex.proofs.Fronts.{BeginsWith-weaker}
use Rattle.spf_lex.proofs.Lexemes.{word_bytes, number_begins, word_token, number_token, pair_token, mark_token}
use Rattle.spf_lex.proofs.Symbols.{symbol_begins, length-symbol}

take_word : (word rest : List ℕ) → take (length word) (word ++ rest) ≡ word
take_word word rest = grind (arith, take-append-le, take_all)

pub drop_word : (word rest : List ℕ) → drop (length word) (word ++ rest) ≡ rest
drop_word [] rest = refl
drop_word (b ∷ bs) rest = drop_word bs rest

-- ---- a word that does not run on is the token there

module _ (word behind : List ℕ) (ends : ¬ RunsOn word behind) where
  -- each byte of the word is P, and with one more such byte it were a lexeme
  run_of_word : (P : ℕ → Type 0) → All P word → ((b : ℕ) → P b → IsLexeme (word ++ b ∷ [])) → IsRun P (word ++ behind) (length word)
  run_of_word P each longer = record {
    within = omega (arith, length-append word behind);
    each = subst (All P) (sym (take_word word behind)) each;
    ends = subst (λ (t : List ℕ). ¬ BeginsWith P t) (sym (drop_word word behind)) (λ begins. ends (BeginsWith-weaker P (λ b. IsLexeme (word ++ b ∷ [])) longer behind begins));
  }

whole_word : (word behind : List ℕ) → ¬ RunsOn word behind → IsWord word → length word ≤ 32 → IsToken (word ++ behind) (length word)
whole_word [] behind ends word short = absurd word
whole_word (a ∷ bytes) behind ends word short =
    word_token ((a ∷ bytes) ++ behind) (length (a ∷ bytes)) word.0
    (run_of_word (a ∷ bytes) behind ends IsWordByte (word_bytes (a ∷ bytes) word) (λ b byte. inl (word.0, All-push IsWordByte bytes b word.1 byte))) short

longer_number : (word : List ℕ) (b : ℕ) → IsNumber word → IsDigit b → IsNumber (word ++ b ∷ [])
longer_number word b number digit = record {
  some = omega (arith, length-append word (b ∷ []));
  digits = All-push IsDigit word b number.digits digit;
}

whole_number : (word behind : List ℕ) → ¬ RunsOn word behind → IsNumber word → value_of word ≤ 2 ^ 63 → IsToken (word ++ behind) (length word)
whole_number [] behind ends number small = absurd (omega (arith, number.some))
whole_number (a ∷ bytes) behind ends number small =
    number_token ((a ∷ bytes) ++ behind) (length (a ∷ bytes)) (number_begins (a ∷ bytes) number)
    (run_of_word (a ∷ bytes) behind ends IsDigit number.digits (λ b digit. inr (inl (longer_number (a ∷ bytes) b number digit))))
    (subst (λ (t : List ℕ). value_of t ≤ 2 ^ 63) (sym (take_word (a ∷ bytes) behind)) small)

no_pair : (a : ℕ) (behind : List ℕ) → ¬ RunsOn (a ∷ []) behind → ¬ ((2 ≤ length (a ∷ behind)) × Contains symbols (take 2 (a ∷ behind)))
no_pair a [] ends pair = omega (arith, pair.0)
no_pair a (b ∷ bs) ends pair = ends (inr (inr pair.1))

whole_symbol : (word behind : List ℕ) → ¬ RunsOn word behind → Contains symbols word → IsToken (word ++ behind) (length word)
whole_symbol [] behind ends symbol = absurd (symbol_begins [] symbol)
whole_symbol (a ∷ []) behind ends symbol =
    let begins = symbol_begins (a ∷ []) symbol in
    mark_token (a ∷ behind) begins.no_letter begins.no_digit (omega arith) symbol (no_pair a behind ends)
whole_symbol (a ∷ b ∷ []) behind ends symbol =
    let begins = symbol_begins (a ∷ b ∷ []) symbol in
    pair_token (a ∷ b ∷ behind) begins.no_letter begins.no_digit (omega arith) symbol
whole_symbol (a ∷ b ∷ c ∷ bytes) behind ends symbol = absurd (omega (arith, length-symbol (a ∷ b ∷ c ∷ bytes) symbol))

whole_token : (word behind : List ℕ) → IsTokenText word → ¬ RunsOn word behind → IsToken (word ++ behind) (length word)
whole_token word behind is_token ends = by is_token.lexeme where
  by : IsLexeme word → IsToken (word ++ behind) (length word)
  by (inl is) = whole_word word behind ends is (is_token.limits.word is)
  by (inr (inl is)) = whole_number word behind ends is (is_token.limits.number is)
  by (inr (inr is)) = whole_symbol word behind ends is

-- ---- from `at` on, the text reads as these words

record ReadsWords (text : List ℕ) (at : ℕ) (words : List (List ℕ)) : Type 0 where
  spans : List Span
  reads : Reads text (length text) at spans
  are : texts (record { text = text; spans = spans }) ≡ words

module _ (text : List ℕ) where
  nothing_behind : (at : ℕ) → at ≤ length text → drop at text ≡ [] → ReadsWords text at []
  nothing_behind at inside e = record {
    spans = [];
    reads = subst (λ n. Reads text (length text) n []) (omega (arith, length-drop at text, ap length e)) done;
    are = refl;
  }

  behind_blank : (at : ℕ) (behind : List ℕ) (words : List (List ℕ)) → drop at text ≡ 32 ∷ behind → ReadsWords text (at + 1) words → ReadsWords text at words
  behind_blank at behind words e others = record {
    spans = others.spans;
    reads = gap (rw e (inl (inl refl, refl))) others.reads;
    are = others.are;
  }

  behind_word : (at : ℕ) (word behind : List ℕ) (words : List (List ℕ)) → drop at text ≡ word ++ behind → IsToken (word ++ behind) (length word) → ReadsWords text (at + length word) words → ReadsWords text at (word ∷ words)
  behind_word at word behind words e is_token others =
      let len : at + length word - at ≡ length word = omega arith in
      record {
        spans = record { start = at; end = at + length word } ∷ others.spans;
        reads = token (rw e is_token) others.reads;
        are = rw (len, e, take_word) (ap (λ (ws : List (List ℕ)). word ∷ ws) others.are);
      }

  drop_more : (at : ℕ) (word behind : List ℕ) → drop at text ≡ word ++ behind → drop (at + length word) text ≡ behind
  drop_more at word behind e = sym (drop-drop (length word) at text) ∙ ap (drop (length word)) e ∙ drop_word word behind

  fits : (at : ℕ) (word behind : List ℕ) → at ≤ length text → drop at text ≡ word ++ behind → at + length word ≤ length text
  fits at word behind inside e = omega (arith, length-drop at text, ap length e, length-append word behind)

  reads_from : (at : ℕ) (rest : List ℕ) (words : List (List ℕ)) → at ≤ length text → drop at text ≡ rest → IsSpaced rest words → ReadsWords text at words
  reads_from at rest words inside e nothing = nothing_behind at inside e
  reads_from at rest words inside e (one_blank {text = behind} spaced) =
      behind_blank at behind words e (reads_from (at + 1) behind words (fits at (32 ∷ []) behind inside e) (drop_more at (32 ∷ []) behind e) spaced)
  reads_from at rest words inside e (one_word {word = word} {text = behind} {words = others} is_token ends spaced) =
      behind_word at word behind others e (whole_token word behind is_token ends)
      (reads_from (at + length word) behind others (fits at word behind inside e) (drop_more at word behind e) spaced)

pub spaced_tokens : (text : List ℕ) (words : List (List ℕ)) → IsSpaced text words → (spans : List Span) × HasTokens text spans × (texts (record { text = text; spans = spans }) ≡ words)
spaced_tokens text words spaced = let r = reads_from text 0 text words (omega arith) refl spaced in (r.spans, r.reads, r.are)
