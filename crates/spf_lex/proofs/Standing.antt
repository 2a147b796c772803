-- What is left of the tokens of a text, told by the number of its first.
use Rattle.std.proofs.Common.{◌≡◌, ℕ, ◌+◌, ◌-◌, ◌≤◌, List, ◌++◌, length, drop, Ok, Err, refl, sym, ap, ◌∙◌, arith}
use Rattle.std.proofs.Math.Seq.{drop-append_seam}
use Rattle.std.proofs.lemmas.List.{drop-drop, length-drop, length-append}
use Rattle.spf_lex.specs.Language.{Language, Lexed, tokens_of}
use Rattle.spf_lex.specs.Reader.{Reader}
use Rattle.spf_lex.specs.Standing.{tokens_from, place_from, kind_from, FindsBy}
use Rattle.spf_lex.specs.Suffix.{LeavesSuffix, rest_in}
use Rattle.spf_lex.specs.Tokens.{Tokenized, texts}
use Rattle.spf_lex.specs.declared.parts.PartFault.TheVariants.{Syntax}
use Rattle.spf_lex.proofs.Numbered.{numbered_length}

module _ {A : Type 0} (all front rest : List A) (from : ℕ) (within : from ≤ length all) (splits : drop from all ≡ front ++ rest) where
  counts : length all ≡ from + length front + length rest
  counts =
      let whole : length (drop from all) ≡ length front + length rest = ap length splits ∙ length-append front rest in
      omega (arith, whole, length-drop from all)

  pub rest_fits : length rest ≤ length all
  rest_fits = omega (arith, counts)

  -- what is left begins at its number
  pub rest_is : drop (length all - length rest) all ≡ rest
  rest_is =
      let number : length all - length rest ≡ from + length front = omega (arith, counts) in
      rw number (sym (drop-drop (length front) from all) ∙ ap (drop (length front)) splits ∙ drop-append_seam front rest)

module _ {K A : Type 0} (language : Language K) (tokens : Tokenized) (read : Reader K A) (suffix : LeavesSuffix read) (from : ℕ) (within : from ≤ length (texts tokens)) (rest : List (Lexed K))
    (is : rest_in (read (tokens_from language tokens from)) ≡ rest) where
  abbrev all : List (Lexed K)
  all = tokens_of language (texts tokens)

  same_length : length all ≡ length (texts tokens)
  same_length = numbered_length language 0 (texts tokens)

  from_fits : from ≤ length all
  from_fits = omega (arith, within, same_length)

  splits : drop from all ≡ (suffix (drop from all)).0 ++ rest
  splits = rw is at (suffix (drop from all)).1

  pub left_fits : length rest ≤ length (texts tokens)
  left_fits = omega (arith, rest_fits all (suffix (drop from all)).0 rest from from_fits splits, same_length)

  -- what the reader left begins at this token
  pub left_is : tokens_from language tokens (length (texts tokens) - length rest) ≡ rest
  left_is = rw (← same_length) (rest_is all (suffix (drop from all)).0 rest from from_fits splits)

module _ {K A : Type 0} (language : Language K) (tokens : Tokenized) (read : Reader K A) (suffix : LeavesSuffix read) (from : ℕ) (within : from ≤ length (texts tokens)) (rest : List (Lexed K)) where
  pub found : (a : A) → read (tokens_from language tokens from) ≡ Ok (a, rest) → FindsBy language tokens read from (Ok (a, length (texts tokens) - length rest))
  found a e =
      let is = left_is language tokens read suffix from within rest (ap rest_in e) in
      (omega arith, e ∙ ap (λ (ts : List (Lexed K)). Ok (a, ts)) (sym is))

  pub failed : read (tokens_from language tokens from) ≡ Err rest → FindsBy language tokens read from (Err (Syntax (place_from tokens (length (texts tokens) - length rest)) (kind_from tokens (length (texts tokens) - length rest))))
  failed e =
      let is = left_is language tokens read suffix from within rest (ap rest_in e) in
      (length (texts tokens) - length rest, omega arith, e ∙ ap (λ (ts : List (Lexed K)). Err ts) (sym is), refl, refl)
