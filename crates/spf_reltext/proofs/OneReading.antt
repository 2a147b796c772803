-- What stands at a token is read in one way.
use Rattle.std.proofs.Common.{◌≡◌, ◌⊎◌, ℕ, ◌-◌, List, [], ◌∷◌, ◌++◌, length, drop, Result, Ok, Err, refl, sym, ap, ◌∙◌, subst, append_assoc, append-nil, inl, inr, arith}
use Rattle.std.proofs.lemmas.List.{append_cancel_right, length-append, length-drop, length-map}
use Rattle.spf_base.specs.declared.place.Place.{Place}
use Rattle.spf_lex.proofs.Finding.{one_yield}
use Rattle.spf_lex.proofs.Numbered.{numbered_length}
use Rattle.spf_lex.specs.Grammar.{Grammar, In, IsReading, rest_of}
use Rattle.spf_lex.specs.Language.{Lexed, kind_of, kinds, tokens_of}
use Rattle.spf_lex.specs.Standing.{IsSyntaxFault, Yields}
use Rattle.spf_lex.specs.Tokens.{Tokenized, texts}
use Rattle.spf_lex.specs.declared.text_kind.TextKind.{TextKind}
use Rattle.spf_reltext.proofs.LiteralTexts.{kinds_exact, literals_clear}
use Rattle.spf_reltext.specs.CalcWords.{calc_words}
use Rattle.spf_reltext.specs.Parsed.{AreRead}
use Rattle.spf_reltext.specs.Productions.{literals}
use Rattle.spf_reltext.specs.declared.kind.CalcKind.{CalcKind}
use Rattle.spf_reltext.specs.declared.literal.Literals.{Literals}

-- of two fronts of one list, the first goes past the second, or the second goes on from the first
by_fronts : {K : Type 0} (a rest b left : List K) → a ++ rest ≡ b ++ left
    → ((k : K) × (back : List K) × (a ≡ b ++ k ∷ back) × (left ≡ k ∷ (back ++ rest))) ⊎ ((more : List K) × (b ≡ a ++ more))
by_fronts [] rest b left e = inr (b, refl)
by_fronts (k ∷ a) rest [] left e = inl (k, a, refl, sym e)
by_fronts (k ∷ a) rest (j ∷ b) left e =
    let same : k ≡ j = cc in
    let tails : a ++ rest ≡ b ++ left = cc in
    elim (by_fronts a rest b left tails) [
      | inl past ↦ inl (past.0, past.1, rw same (ap (λ (ks : List _). j ∷ ks) past.2), past.3)
      | inr on ↦ inr (on.0, rw same (ap (λ (ks : List _). j ∷ ks) on.1))
    ]

nothing : {K : Type 0} (a b m n : List K) → b ≡ a ++ m → a ≡ b ++ n → n ≡ []
nothing a b m [] e f = refl
nothing {K} a b m (k ∷ n) e f = absurd (omega (arith, ap length e, ap length f, length-append a m, length-append b (k ∷ n)))

module _ {K : Type 0} (g : Grammar K) (all : List K) where
  -- a reading doesn't stop behind where another one does
  not_past : (o p : Result (List K) (List K)) (x : IsReading g all o) (y : IsReading g all p) (k : K) (back : List K) → x.front ≡ y.front ++ k ∷ back → rest_of p ≡ k ∷ (back ++ rest_of o) → ⊥
  not_past o p x y k back e f = y.longest k (back ++ rest_of o) f (back ++ x.begins.0, rw append_assoc (rw (e, append_assoc) at x.begins.1))

  pub same_front : (o p : Result (List K) (List K)) (x : IsReading g all o) (y : IsReading g all p) → x.front ≡ y.front
  same_front o p x y =
      elim (by_fronts x.front (rest_of o) y.front (rest_of p) (sym x.splits ∙ y.splits)) [
        | inl past ↦ absurd (not_past o p x y past.0 past.1 past.2 past.3)
        | inr on ↦ elim (by_fronts y.front (rest_of p) x.front (rest_of o) (sym y.splits ∙ x.splits)) [
          | inl past ↦ absurd (not_past p o y x past.0 past.1 past.2 past.3)
          | inr back ↦ rw (nothing x.front y.front on.0 back.0 on.1 back.1, append-nil) at back.1
        ]
      ]

  pub same_left : (o p : Result (List K) (List K)) (x : IsReading g all o) (y : IsReading g all p) → length (rest_of o) ≡ length (rest_of p)
  same_left o p x y =
      omega (arith, ap length (same_front o p x y), ap length (sym x.splits ∙ y.splits), length-append x.front (rest_of o), length-append y.front (rest_of p))

module _ (tokens : Tokenized) (from : ℕ) where
  abbrev all : List (Lexed CalcKind)
  all = tokens_of calc_words (texts tokens)

  pub one_reading : (n m : ℕ) (a b : Literals) → AreRead tokens from n a → AreRead tokens from m b → (n ≡ m) × (a ≡ b)
  one_reading n m a b x y =
      let lefts = same_left literals.shape.grammar (kinds (drop from all)) (Ok (kinds (drop n all))) (Ok (kinds (drop m all))) x.longest y.longest in
      let many : length all ≡ length (texts tokens) = numbered_length calc_words 0 (texts tokens) in
      let counts : length all - n ≡ length all - m = sym (length-drop n all) ∙ sym (length-map (drop n all) kind_of) ∙ lefts ∙ length-map (drop m all) kind_of ∙ length-drop m all in
      let next : n ≡ m = omega (arith, counts, many, x.stands.within, y.stands.within) in
      let rests : x.stands.front ++ drop m all ≡ y.stands.front ++ drop m all = subst (λ (k : ℕ). x.stands.front ++ drop k all ≡ y.stands.front ++ drop m all) next (sym x.stands.splits ∙ y.stands.splits) in
      let fronts : x.stands.front ≡ y.stands.front = append_cancel_right x.stands.front y.stands.front (drop m all) rests in
      (next, one_yield kinds_exact literals literals_clear y.stands.front a b (subst (λ (ts : List (Lexed CalcKind)). Yields literals ts a) fronts x.stands.yields) y.stands.yields)

  pub no_fault : (n : ℕ) (a : Literals) (place : Place) (kind : TextKind) → AreRead tokens from n a → ¬ IsSyntaxFault calc_words literals tokens from place kind
  no_fault n a place kind x fault =
      fault.reading.verdict
      (subst (In literals.shape.grammar) (same_front literals.shape.grammar (kinds (drop from all)) (Ok (kinds (drop n all))) (Err (kinds (drop fault.at all))) x.longest fault.reading) x.longest.verdict)
