-- What a part in the middle of a text's tokens yields stands there.
use Rattle.std.proofs.Common.{◌≡◌, ℕ, ◌+◌, Bool, List, ◌++◌, length, drop, sym, ap, ◌∙◌, arith}
use Rattle.std.proofs.Math.Seq.{drop-append_seam}
use Rattle.std.proofs.lemmas.List.{drop-drop, length-append}
use Rattle.spf_lex.specs.Language.{Language, Lexed, tokens_of}
use Rattle.spf_lex.specs.Production.{Production}
use Rattle.spf_lex.specs.Standing.{StandsAt, Yields, tokens_from}
use Rattle.spf_lex.specs.Tokens.{Tokenized, texts}
use Rattle.spf_lex.proofs.Numbered.{numbered_length}

module _ {K A : Type 0} {same : K → K → Bool} {empty : Bool} (language : Language K) (p : Production same empty A) (tokens : Tokenized) (a : A) (front part back : List (Lexed K))
    (splits : tokens_of language (texts tokens) ≡ front ++ (part ++ back)) (yields : Yields p part a) where
  behind_front : tokens_from language tokens (length front) ≡ part ++ back
  behind_front = ap (drop (length front)) splits ∙ drop-append_seam front (part ++ back)

  behind_part : tokens_from language tokens (length front + length part) ≡ back
  behind_part = sym (drop-drop (length part) (length front) (tokens_of language (texts tokens))) ∙ ap (drop (length part)) behind_front ∙ drop-append_seam part back

  counts : length (texts tokens) ≡ length front + (length part + length back)
  counts =
      let whole : length (tokens_of language (texts tokens)) ≡ length front + (length part + length back) = ap length splits ∙ length-append front (part ++ back) ∙ ap (λ (n : ℕ). length front + n) (length-append part back) in
      omega (arith, whole, numbered_length language 0 (texts tokens))

  pub stands_between : StandsAt language p tokens (length front) (length front + length part) a
  stands_between = record {
    front = part;
    splits = behind_front ∙ ap (λ (ts : List (Lexed K)). part ++ ts) (sym behind_part);
    within = omega (arith, counts);
    yields = yields;
  }
