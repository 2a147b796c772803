-- The spans of a text's tokens.
use Rattle.std.proofs.Common.{◌≡◌, ℕ, zero, suc, ◌+◌, ◌-◌, ◌<◌, ◌≤◌, List, [], ◌∷◌, ◌++◌, length, take, drop, map, get_or, All, Some, option_map, refl, subst, sym, ap, ◌∙◌, arith, length-drop}
use Rattle.std.specs.Prelude.{slice_get, slice_range}
use Rattle.std.proofs.lemmas.List.{take_rest, map-append}
use Rattle.std.proofs.lemmas.List.Elements.{All-nil, All-cons, All-map}
use Rattle.spf_lex.specs.declared.token_list.Span.{Span}
use Rattle.spf_lex.specs.Found.{IsFound}
use Rattle.spf_lex.specs.Lexeme.{IsToken, lexeme_of}
use Rattle.spf_lex.specs.declared.lexeme.Found.{Found}
use Rattle.spf_lex.specs.declared.lexeme.Lexeme.{Lexeme}
use Rattle.spf_lex.specs.Tokens.{IsGap, IsTokenText, Reads, done, gap, token, HasTokens, LacksToken}
use Rattle.spf_lex.proofs.TokenReadings.{gap_step, token_step}

-- a reading goes on by a gap or a token

pub push_gap : {text : List ℕ} {to at : ℕ} {spans : List Span} (n : ℕ) → Reads text to at spans → IsGap (drop to text) n → Reads text (to + n) at spans
push_gap n done g = gap g done
push_gap n (gap h r) g = gap h (push_gap n r g)
push_gap n (token t r) g = token t (push_gap n r g)

pub push_token : {text : List ℕ} {to at : ℕ} {spans : List Span} (n : ℕ) → Reads text to at spans → IsToken (drop to text) n → Reads text (to + n) at (spans ++ record { start = to; end = to + n } ∷ [])
push_token n done t = token t done
push_token n (gap g r) t = gap g (push_token n r t)
push_token n (token u r) t = token u (push_token n r t)

-- each span is a token in the text

pub record IsTokenSpan (text : List ℕ) (span : Span) : Type 0 where
  pub ordered : span.start < span.end
  pub within : span.end ≤ length text
  pub lexeme : IsTokenText (slice_range text span.start span.end)

token_span : (text : List ℕ) (at n : ℕ) → IsToken (drop at text) n → IsTokenSpan text (record { start = at; end = at + n })
token_span text at n t =
    let step = token_step _ n t in
    let len : at + n - at ≡ n = omega arith in
    record {
      ordered = omega (arith, step.positive);
      within = omega (arith, step.positive, step.within, length-drop at text);
      lexeme = rw len (record { lexeme = t.lexeme.stands; limits = t.limits });
    }

pub each_span : {text : List ℕ} {to at : ℕ} {spans : List Span} → Reads text to at spans → All (IsTokenSpan text) spans
each_span {text} done = All-nil (IsTokenSpan text)
each_span (gap g r) = each_span r
each_span {text} {to} {at} (token {n} {spans} t r) =
    All-cons (IsTokenSpan text) (record { start = at; end = at + n }) spans (token_span text at n t) (each_span r)

-- each token has a byte
pub length-spans : {text : List ℕ} {to at : ℕ} {spans : List Span} → Reads text to at spans → at + length spans ≤ to
length-spans done = omega arith
length-spans (gap g r) = omega (arith, length-spans r)
length-spans (token {n} t r) = omega (arith, length-spans r, (token_step _ n t).positive)

pub each_text : (text : List ℕ) (spans : List Span) → HasTokens text spans → All IsTokenText (map (λ span. slice_range text span.start span.end) spans)
each_text text spans reads = All-map IsTokenText _ spans (λ k d inside. (each_span reads k d inside).lexeme)

-- a span that was read from the list

pub slice_get_read : (spans : List Span) (n : ℕ) (span : Span) → n < length spans → span ≡ get_or spans n span → slice_get spans n ≡ Some span
slice_get_read [] n span inside at = absurd (omega arith)
slice_get_read (x ∷ xs) zero span inside at = ap (λ y. Some y) (sym at)
slice_get_read (x ∷ xs) (suc n) span inside at = slice_get_read xs n span (omega arith) at

pub slice_get-map : {A : Type 0} (f : Span → A) (spans : List Span) (n : ℕ) (span : Span) → slice_get spans n ≡ Some span → slice_get (map f spans) n ≡ Some (f span)
slice_get-map f [] n span at = cc
slice_get-map f (x ∷ xs) zero span at = ap (option_map f) at
slice_get-map f (x ∷ xs) (suc n) span at = slice_get-map f xs n span at

pub span_at : {text : List ℕ} (spans : List Span) (n : ℕ) (span : Span) → HasTokens text spans → n < length spans → span ≡ get_or spans n span → IsTokenSpan text span
span_at {text} spans n span reads inside at = subst (IsTokenSpan text) (sym at) (each_span reads n span inside)

-- what the scanner has read, and what it reads next, where the rest is as a slice from `at` on shows it

pub record ReadsUpTo (text : List ℕ) (at : ℕ) (spans : List Span) : Type 0 where
  pub inside : at ≤ length text
  pub reads : Reads text at 0 spans

-- the scanner's lists: the spans of the tokens up to `at`, and what each of them is
pub record IsScanned (text : List ℕ) (at : ℕ) (spans : List Span) (lexemes : List Lexeme) : Type 0 where
  pub reads : ReadsUpTo text at spans
  pub each : lexemes ≡ map lexeme_of (map (λ span. slice_range text span.start span.end) spans)

abbrev rest : List ℕ → ℕ → List ℕ
rest text at = take (length text - at) (drop at text)

module _ (text : List ℕ) (at : ℕ) (spans : List Span) (before : ReadsUpTo text at spans) where
  pub after_gap : (n : ℕ) → IsGap (rest text at) n → ReadsUpTo text (at + n) spans
  after_gap n g =
      let here : IsGap (drop at text) n = rw take_rest at g in
      record {
        inside = omega (arith, (gap_step _ n here).within, length-drop at text, before.inside);
        reads = push_gap n before.reads here;
      }

  pub after_token : (n : ℕ) → IsToken (rest text at) n → ReadsUpTo text (at + n) (spans ++ record { start = at; end = at + n } ∷ [])
  after_token n t =
      let here : IsToken (drop at text) n = rw take_rest at t in
      record {
        inside = omega (arith, (token_step _ n here).within, length-drop at text, before.inside);
        reads = push_token n before.reads here;
      }

  pub scanned_token : (lexemes more : List Lexeme) (spans_more : List Span) (found : Found) → lexemes ≡ map lexeme_of (map (λ span. slice_range text span.start span.end) spans) → IsFound (rest text at) found
      → spans_more ≡ spans ++ record { start = at; end = at + found.len } ∷ [] → more ≡ lexemes ++ found.lexeme ∷ [] → IsScanned text (at + found.len) spans_more more
  scanned_token lexemes more spans_more found each here spans_are more_are = record {
    reads = rw spans_are (after_token found.len here.token);
    each =
        let len : at + found.len - at ≡ found.len = omega arith in
        let is : found.lexeme ≡ lexeme_of (take found.len (drop at text)) = rw take_rest at here.lexeme in
        more_are ∙ rw (spans_are, each, is, map-append, map-append, len) refl;
  }

  pub lacks_token : at < length text → ((n : ℕ) → ¬ IsGap (rest text at) n) → ((n : ℕ) → ¬ IsToken (rest text at) n) → LacksToken text at
  lacks_token inside no_gap no_token = record {
    before = (spans, before.reads);
    inside = inside;
    no_gap = λ n g. no_gap n (rw take_rest g);
    no_token = λ n t. no_token n (rw take_rest t);
  }

  pub all_read : length text ≤ at → HasTokens text spans
  all_read end = subst (λ to. Reads text to 0 spans) (omega (arith, before.inside)) before.reads
