-- Taking the token that comes next.
use Rattle.std.proofs.Common.{◌≡◌, ℕ, ◌<◌, length, arith, inl, inr, Bool, true, false, List, [], ◌∷◌, drop, Option, Some, None, Ok, Err, refl, sym, ap, ◌∙◌}
use Rattle.std.proofs.lemmas.Bool.{cases_lt, false≢true}
use Rattle.std.proofs.lemmas.List.{drop_all}
use Rattle.std.specs.List.{list_any}
use Rattle.std.specs.Prelude.{slice_get}
use Rattle.spf_lex.specs.Cursor.{next_in}
use Rattle.spf_lex.specs.Derivation.{made}
use Rattle.spf_lex.specs.Language.{Language, Lexed, kinds, lexed, tokens_of}
use Rattle.spf_lex.specs.Reader.{sees, after, expect}
use Rattle.spf_lex.specs.Production.{token}
use Rattle.spf_lex.specs.Reading.{is_next_of}
use Rattle.spf_lex.specs.declared.cursor.Next.{Next}
use Rattle.spf_lex.proofs.Numbered.{number_is, numbered_length, token_there}

module _ {K : Type 0} (same : K → K → Bool) (ks : List K) where
  -- whether the kind that comes next is one of these
  abbrev pub is_next_any : Option (Next K) → Bool
  is_next_any None = false
  is_next_any (Some next) = list_any (same next.kind) ks

  pub sees_any_next : (tokens : List (Lexed K)) → is_next_any (next_in tokens) ≡ is_next_of same ks (kinds tokens)
  sees_any_next [] = refl
  sees_any_next (t ∷ tokens) = refl

module _ {K : Type 0} (same : K → K → Bool) (kind : K) where
  -- whether the kind that comes next is this one
  abbrev pub is_next : Option (Next K) → Bool
  is_next None = false
  is_next (Some next) = same next.kind kind

  pub sees_next : (tokens : List (Lexed K)) → sees same kind tokens ≡ is_next (next_in tokens)
  unfolding sees
  sees_next [] = refl
  sees_next (t ∷ tokens) = refl

  pub after_seen : (tokens : List (Lexed K)) → sees same kind tokens ≡ true → after same kind tokens ≡ drop 1 tokens
  unfolding sees after
  after_seen [] e = refl
  after_seen (t ∷ tokens) e = rw e refl

  pub after_unseen : (tokens : List (Lexed K)) → sees same kind tokens ≡ false → after same kind tokens ≡ tokens
  unfolding sees after
  after_unseen [] e = refl
  after_unseen (t ∷ tokens) e = rw e refl

  pub none_expected : (tokens : List (Lexed K)) → is_next (next_in tokens) ≡ false → (token {same = same} kind).read tokens ≡ Err tokens
  unfolding expect
  none_expected [] e = refl
  none_expected (t ∷ tokens) e = rw e refl

  pub one_expected : (language : Language K) (texts : List (List ℕ)) (at : ℕ) (next : Next K) → Some next ≡ next_in (drop at (tokens_of language texts)) → same next.kind kind ≡ true
      → (token {same = same} kind).read (drop at (tokens_of language texts)) ≡ Ok (record { at = at; value = next.value }, drop 1 (drop at (tokens_of language texts)))
  unfolding expect
  one_expected language texts at next is e = by (drop at (tokens_of language texts)) refl is where
    by : (tokens : List (Lexed K)) → drop at (tokens_of language texts) ≡ tokens → Some next ≡ next_in tokens → (token {same = same} kind).read tokens ≡ Ok (record { at = at; value = next.value }, drop 1 tokens)
    by [] there is = absurd cc
    by (t ∷ tokens) there is =
        let next_is : next ≡ record { kind = t.kind; value = t.token.value } = cc in
        let number : t.token.at ≡ at = number_is language at texts t tokens there in
        let seen : same t.kind kind ≡ true = ap (λ (n : Next K). same n.kind kind) (sym next_is) ∙ e in
        rw seen (rw (next_is, ← number) refl)

  pub none_taken : (tokens : List (Lexed K)) → sees same kind tokens ≡ false → expect same kind tokens ≡ Err tokens
  unfolding sees expect
  none_taken [] e = refl
  none_taken (t ∷ tokens) e = rw e refl

  -- the token that is seen is that of a text
  module _ (language : Language K) (texts : List (List ℕ)) (at : ℕ) (seen : sees same kind (drop at (tokens_of language texts)) ≡ true) where
    pub seen_inside : at < length texts
    unfolding sees
    seen_inside = elim (cases_lt at (length texts)) [
      | inl inside ↦ inside
      | inr past ↦ absurd (false≢true (rw (drop_all at (tokens_of language texts) (omega (arith, numbered_length language 0 texts))) at seen))
    ]

    module _ (text : List ℕ) (there : slice_get texts at ≡ Some text) where
      pub seen_kind : same (lexed language at text).kind kind ≡ true
      unfolding sees
      seen_kind = rw (token_there language texts at text there) at seen

      pub one_taken : expect same kind (drop at (tokens_of language texts)) ≡ Ok (lexed language at text, drop 1 (drop at (tokens_of language texts)))
      unfolding expect
      one_taken = rw (token_there language texts at text there, seen_kind) refl

      pub text_taken : (name : List ℕ) → name ≡ text → made (λ (l : Lexed K). l.text) (expect same kind (drop at (tokens_of language texts))) ≡ Ok (name, drop 1 (drop at (tokens_of language texts)))
      unfolding lexed
      text_taken name is = rw one_taken (rw is refl)
