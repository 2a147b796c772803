-- The text of a term is its words and blanks, and no word runs on.
use Rattle.std.proofs.Common.{◌≡◌, ℕ, ℤ, ◌+◌, ◌<◌, ◌==◌, Bool, true, false, not, ◌&&◌, if◌then◌else◌, List, [], ◌∷◌, ◌++◌, length, codes, decimal, unsigned_abs, refl, ap, ◌∙◌, append_assoc, arith}
use Rattle.std.proofs.lemmas.Bool.Decides.{nat_tests}
use Rattle.std.specs.Int.{is_negative}
use Rattle.spf_base.specs.Word.{IsName, IsWordByte}
use Rattle.spf_lex.specs.Front.{BeginsWith}
use Rattle.spf_lex.specs.Spaced.{IsSpaced, one_blank}
use Rattle.spf_lex.proofs.Spacing.{ends_word, name_spaced, number_spaced, mark_spaced, symbol_spaced, before_blank, name_begins, number_begins}
use Rattle.spf_rel.specs.Renumbering.{AtomVariables, SumVariables, Variables}
use Rattle.spf_reltext.proofs.PrintedRaws.{atom_words, constant_words, factor_words, is_left_out, row_words, sign_words, term_words}
use Rattle.spf_reltext.proofs.TermsRead.{minus_word, plus_word, star_word}
use Rattle.spf_reltext.specs.Printed.{Naming, atom_text, constant_text, factor_text, monos_text, name_at, sign_text, term_text}
use Rattle.spf_reltext.specs.RoundTrip.{AreNamed, AtomIsNamed, IsNamed, IsShort}
use Rattle.spf_reltext.specs.declared.names.RelNames.{RelNames}
use Rattle.spf_term.specs.declared.term.Atom.{Atom}
use Rattle.spf_term.specs.declared.term.Term.{Term, Term', Row_of-Mono, end_of-Mono, more_of-Mono}

-- put together otherwise
pub respaced : {text other : List ℕ} {words others : List (List ℕ)} → text ≡ other → words ≡ others → IsSpaced other others → IsSpaced text words
respaced e f spaced = rw (e, f) spaced

pub regrouped : {A : Type 0} (a b c d : List A) → (a ++ b ++ c) ++ d ≡ a ++ (b ++ (c ++ d))
regrouped a b c d = append_assoc (a ++ b) c d ∙ append_assoc a b (c ++ d)

-- spaced, and a word in front doesn't run on into the text
pub record IsBehind (text : List ℕ) (words : List (List ℕ)) : Type 0 where
  pub ends : ends_word text ≡ true
  pub spaced : IsSpaced text words

-- spaced, and the text begins with a name or a number
record IsOpening (text : List ℕ) (words : List (List ℕ)) : Type 0 where
  begins : BeginsWith IsWordByte text
  spaced : IsSpaced text words

pub later : (n : ℕ) → (n + 1 == 0) ≡ false
later n = grind (arith, nat_tests)

module _ {text : List ℕ} {words : List (List ℕ)} where
  first_sign : (minus : Bool) → IsOpening text words → IsSpaced (sign_text 0 minus ++ text) (sign_words true minus ++ words)
  first_sign true is = symbol_spaced (codes "-") refl is.begins is.spaced
  first_sign false is = is.spaced

  next_sign : (n : ℕ) (minus : Bool) → IsSpaced text words → IsBehind (sign_text (n + 1) minus ++ text) (sign_words false minus ++ words)
  next_sign n true spaced = rw later (record { ends = refl; spaced = one_blank (before_blank (codes "-") minus_word.token spaced) })
  next_sign n false spaced = rw later (record { ends = refl; spaced = one_blank (before_blank (codes "+") plus_word.token spaced) })

  factor_spaced : (c : ℤ) → IsShort c → IsOpening text words → IsOpening (factor_text c ++ text) (factor_words c ++ words)
  factor_spaced c short is = by (unsigned_abs c == 1) where
    by : (b : Bool) → IsOpening ((if b then [] else decimal (unsigned_abs c) ++ codes " * ") ++ text) ((if b then [] else decimal (unsigned_abs c) ∷ codes "*" ∷ []) ++ words)
    by true = is
    by false = rw append_assoc (record {
      begins = number_begins (unsigned_abs c) (codes " * " ++ text) (omega (arith, short));
      spaced = number_spaced (unsigned_abs c) (omega (arith, short)) refl (one_blank (before_blank (codes "*") star_word.token is.spaced));
    })

  number_opening : (c : ℤ) → IsShort c → IsBehind text words → IsOpening (decimal (unsigned_abs c) ++ text) (decimal (unsigned_abs c) ∷ words)
  number_opening c short behind = record {
    begins = number_begins (unsigned_abs c) text (omega (arith, short));
    spaced = number_spaced (unsigned_abs c) (omega (arith, short)) behind.ends behind.spaced;
  }

constant_later : (n : ℕ) (c : ℤ) → constant_text (n + 1) c ≡ (if is_left_out false c then [] else sign_text (n + 1) (is_negative c) ++ decimal (unsigned_abs c))
constant_later n c = ap (λ (zero' : Bool). if not zero' && (unsigned_abs c == 0) then [] else sign_text (n + 1) (is_negative c) ++ decimal (unsigned_abs c)) (later n)

module _ {text : List ℕ} {words : List (List ℕ)} where
  first_constant : (c : ℤ) → IsShort c → IsBehind text words → IsSpaced (constant_text 0 c ++ text) (constant_words true c ++ words)
  first_constant c short behind =
      respaced (append_assoc (sign_text 0 (is_negative c)) (decimal (unsigned_abs c)) text) (append_assoc (sign_words true (is_negative c)) (decimal (unsigned_abs c) ∷ []) words)
      (first_sign (is_negative c) (number_opening c short behind))

  next_constant : (n : ℕ) (c : ℤ) → IsShort c → IsBehind text words → IsBehind (constant_text (n + 1) c ++ text) (constant_words false c ++ words)
  next_constant n c short behind = rw (constant_later n c) (by (is_left_out false c)) where
    by : (b : Bool) → IsBehind ((if b then [] else sign_text (n + 1) (is_negative c) ++ decimal (unsigned_abs c)) ++ text) ((if b then [] else sign_words false (is_negative c) ++ decimal (unsigned_abs c) ∷ []) ++ words)
    by true = behind
    by false =
        rw (append_assoc (sign_text (n + 1) (is_negative c)) (decimal (unsigned_abs c)) text, append_assoc (sign_words false (is_negative c)) (decimal (unsigned_abs c) ∷ []) words)
        (next_sign n (is_negative c) (number_opening c short behind).spaced)

-- ---- terms

module _ (names : RelNames) (variable : ℕ → List ℕ) (Known : ℕ → Type 0) where
  -- the names that are printed are words
  pub record AreWords : Type 0 where
    pub variables : (n : ℕ) → Known n → IsName (variable n)
    pub params : (n : ℕ) → n < length names.params → IsName (name_at names.params n)
    pub funs : (n : ℕ) → n < length names.funs → IsName (name_at names.funs n)

  abbrev naming : Naming
  naming = record { variable = variable; param = name_at names.params; fun = name_at names.funs }

  module _ (are_words : AreWords) where
    name_opening : (name text : List ℕ) (words : List (List ℕ)) → IsName name → IsBehind text words → IsOpening (name ++ text) (name ∷ words)
    name_opening name text words is behind = record { begins = name_begins name text is; spaced = name_spaced name is behind.ends behind.spaced }

    app_spaced : (name inside text : List ℕ) (words others : List (List ℕ)) → IsName name → IsSpaced (inside ++ (codes "]" ++ text)) (words ++ (codes "]" ∷ others))
        → IsOpening ((name ++ codes "[" ++ inside ++ codes "]") ++ text) ((name ∷ codes "[" ∷ (words ++ codes "]" ∷ [])) ++ others)
    app_spaced name inside text words others is spaced =
        let same : (name ++ codes "[" ++ inside ++ codes "]") ++ text ≡ name ++ (codes "[" ++ (inside ++ (codes "]" ++ text))) = simp append_assoc in
        let same_words : (name ∷ codes "[" ∷ (words ++ codes "]" ∷ [])) ++ others ≡ name ∷ codes "[" ∷ (words ++ (codes "]" ∷ others)) = ap (λ (words : List (List ℕ)). name ∷ codes "[" ∷ words) (append_assoc words (codes "]" ∷ []) others) in
        rw (same, same_words) (name_opening name (codes "[" ++ (inside ++ (codes "]" ++ text))) (codes "[" ∷ (words ++ (codes "]" ∷ others))) is (record { ends = refl; spaced = mark_spaced 91 refl spaced }))

    -- a sign, a monomial, and what is behind it
    abbrev Spaced : List ℕ → List (List ℕ) → Type 0
    Spaced text words = (behind : List ℕ) (others : List (List ℕ)) → IsBehind behind others → IsSpaced (text ++ behind) (words ++ others)

    mono_opening : (coef : ℤ) (atom_text rest behind : List ℕ) (atom_words back others : List (List ℕ)) → IsShort coef → IsOpening (atom_text ++ (rest ++ behind)) (atom_words ++ (back ++ others))
        → IsOpening ((factor_text coef ++ atom_text) ++ (rest ++ behind)) ((factor_words coef ++ atom_words) ++ (back ++ others))
    mono_opening coef atom_text rest behind atom_words back others short is =
        rw (append_assoc (factor_text coef) atom_text (rest ++ behind), append_assoc (factor_words coef) atom_words (back ++ others)) (factor_spaced coef short is)

    mutual
      pub term_spaced : (term : Term) → Variables Known term → IsNamed names term → Spaced (term_text naming term) (term_words naming term)
      term_spaced (Term' shape monos constant) known named behind others is = first_spaced monos constant known named.0 named.1 behind others is

      first_spaced : {n : _} (row : Row_of-Mono n) (constant : ℤ) → SumVariables Known row → AreNamed names row → IsShort constant → Spaced (monos_text naming 0 row constant) (row_words naming true row constant)
      first_spaced end_of-Mono constant known named short behind others is = first_constant constant short is
      first_spaced (more_of-Mono coef atom more) constant known named short behind others is =
          let rest = monos_text naming (0 + 1) more constant in
          let back = row_words naming false more constant in
          let next = next_spaced 0 more constant known.1 named.2 short behind others is in
          let here = atom_spaced atom known.0 named.1 (rest ++ behind) (back ++ others) next in
          respaced (regrouped (sign_text 0 (is_negative coef)) (factor_text coef ++ atom_text naming atom) rest behind) (regrouped (sign_words true (is_negative coef)) (factor_words coef ++ atom_words naming atom) back others)
          (first_sign (is_negative coef) (mono_opening coef (atom_text naming atom) rest behind (atom_words naming atom) back others named.0 here))

      next_spaced : {n : _} (at : ℕ) (row : Row_of-Mono n) (constant : ℤ) → SumVariables Known row → AreNamed names row → IsShort constant → (behind : List ℕ) (others : List (List ℕ)) → IsBehind behind others
          → IsBehind (monos_text naming (at + 1) row constant ++ behind) (row_words naming false row constant ++ others)
      next_spaced at end_of-Mono constant known named short behind others is = next_constant at constant short is
      next_spaced at (more_of-Mono coef atom more) constant known named short behind others is =
          let rest = monos_text naming (at + 1 + 1) more constant in
          let back = row_words naming false more constant in
          let next = next_spaced (at + 1) more constant known.1 named.2 short behind others is in
          let here = atom_spaced atom known.0 named.1 (rest ++ behind) (back ++ others) next in
          rw (regrouped (sign_text (at + 1) (is_negative coef)) (factor_text coef ++ atom_text naming atom) rest behind, regrouped (sign_words false (is_negative coef)) (factor_words coef ++ atom_words naming atom) back others)
          (next_sign at (is_negative coef) (mono_opening coef (atom_text naming atom) rest behind (atom_words naming atom) back others named.0 here).spaced)

      atom_spaced : (atom : Atom) → AtomVariables Known atom → AtomIsNamed names atom → (behind : List ℕ) (others : List (List ℕ)) → IsBehind behind others → IsOpening (atom_text naming atom ++ behind) (atom_words naming atom ++ others)
      atom_spaced (Atom.Var n) known named behind others is = name_opening (variable n) behind others (are_words.variables n known) is
      atom_spaced (Atom.Param n) known named behind others is = name_opening (name_at names.params n) behind others (are_words.params n named) is
      atom_spaced (Atom.App fun arg) known named behind others is =
          app_spaced (name_at names.funs fun) (term_text naming arg) behind (term_words naming arg) others (are_words.funs fun named.0)
          (term_spaced arg known named.1 (codes "]" ++ behind) (codes "]" ∷ others) (record { ends = refl; spaced = mark_spaced 93 refl is.spaced }))
