-- What holds of the token that each text makes holds of each token of a derivation that stands among them.
use Rattle.std.proofs.Common.{◌≡◌, ℕ, ◌+◌, List, [], ◌∷◌, ◌++◌, length, drop, get_or, All, refl, sym, ◌∙◌, arith, append_assoc, length-append}
use Rattle.std.specs.List.{AllByRecursion}
use Rattle.std.proofs.Math.Seq.{get_or-append_seam}
use Rattle.std.proofs.lemmas.List.Elements.{All-head, All-tail, All-drop, All-from_recursion, recursion_from_All}
use Rattle.spf_lex.specs.Derivation.{Derivation, Spells}
use Rattle.spf_lex.specs.Grammar.{Grammar}
use Rattle.spf_lex.specs.Language.{Language, Lexed, kind_of, lexed, numbered, tokens_of}
use Rattle.spf_lex.specs.Tokens.{IsTokenText}
use Rattle.spf_lex.proofs.Leaves.{split_each, Leaves, spelled_leaves}

module _ {K : Type 0} (language : Language K) (texts : List (List ℕ)) (P : K → Lexed K → Type 0)
    (one : (at : ℕ) (text : List ℕ) → get_or texts at [] ≡ text → IsTokenText text → P (kind_of (lexed language at text)) (lexed language at text)) where
  abbrev IsFine : Lexed K → Type 0
  IsFine token = P (kind_of token) token

  rest_each : (at : ℕ) (front rest : List (List ℕ)) → at ≡ length front → texts ≡ front ++ rest → All IsTokenText rest → AllByRecursion IsFine (numbered language at rest)
  rest_each at front [] e is each = tt
  rest_each at front (text ∷ rest) e is each =
      let there : get_or texts at [] ≡ text = rw (is, e) (get_or-append_seam front text rest []) in (
        one at text there (All-head IsTokenText text rest each),
        rest_each (at + 1) (front ++ text ∷ []) rest (omega (arith, length-append front (text ∷ []))) (is ∙ sym (append_assoc front (text ∷ []) rest)) (All-tail IsTokenText text rest each),
      )

  pub standing_leaves : (g : Grammar K) (n m : ℕ) (front : List (Lexed K)) → All IsTokenText texts → drop n (tokens_of language texts) ≡ front ++ drop m (tokens_of language texts)
      → (d : Derivation (Lexed K) g) → Spells kind_of g front d → Leaves P g d
  standing_leaves g n m front each splits d spells =
      let tokens = tokens_of language texts in
      let behind : AllByRecursion IsFine (drop n tokens) = recursion_from_All IsFine (drop n tokens) (All-drop IsFine n tokens (All-from_recursion IsFine tokens (rest_each 0 [] texts refl refl each))) in
      let here = split_each IsFine front (drop m tokens) (rw splits at behind) in
      spelled_leaves kind_of P g front d spells here.0
