-- The words of a printed term, where their brackets stand deep enough, are read as its raw term.
use Rattle.std.proofs.Common.{◌≡◌, ℕ, zero, suc, ℤ, ◌+◌, ◌<◌, ◌≤◌, ◌^◌, ◌==◌, Bool, true, false, if◌then◌else◌, List, [], ◌∷◌, ◌++◌, length, map, Some, None, codes, decimal, unsigned_abs, refl, ap, sym, ◌∙◌, append_assoc, append-nil, subst, arith}
use Rattle.std.proofs.lemmas.Bool.Decides.{nat_tests}
use Rattle.std.specs.Int.{is_negative}
use Rattle.spf_lex.specs.Language.{kind_by, lexed}
use Rattle.spf_lex.specs.Lexeme.{lexeme_of}
use Rattle.spf_lex.proofs.FixedWords.{IsFixed, symbol_fixed, number_fixed, number_value}
use Rattle.spf_lex.proofs.PrintedWords.{IsPrinted, word_alone, behind_word, behind_part, on_left, on_right, absent, enclosed, none_more, one_more, in_words}
use Rattle.spf_rel.specs.Renumbering.{AtomVariables, SumVariables, Variables}
use Rattle.spf_reltext.proofs.Nesting.{climb, climb_at}
use Rattle.spf_reltext.proofs.PrintedRaws.{atom_words, constant_words, factor_words, is_left_out, raw_atom, raw_row, raw_term, row_words, sign_words, term_words}
use Rattle.spf_lex.specs.Production.{Production, many, and_more}
use Rattle.spf_reltext.specs.CalcWords.{calc_words, same_kind}
use Rattle.spf_reltext.specs.Printed.{Naming, name_at}
use Rattle.spf_reltext.specs.Productions as p
use Rattle.spf_reltext.specs.RoundTrip.{AreNamed, AtomIsNamed, IsNamed, IsShort}
use Rattle.spf_reltext.specs.declared.kind.CalcKind.{CalcKind}
use Rattle.spf_reltext.specs.declared.kind.CalcKind.TheVariants as kind
use Rattle.spf_reltext.specs.declared.names.RelNames.{RelNames}
use Rattle.spf_reltext.specs.declared.raw.Product.{Product}
use Rattle.spf_reltext.specs.declared.raw.RawAtom.{RawAtom}
use Rattle.spf_reltext.specs.declared.raw.RawAtom.TheVariants.{Plain, Entry}
use Rattle.spf_reltext.specs.declared.raw.RawIx.{RawIx, roll-RawIx}
use Rattle.spf_reltext.specs.declared.raw.RawMono.{RawMono}
use Rattle.spf_term.specs.declared.term.Atom.{Atom}
use Rattle.spf_term.specs.declared.term.Term.{Term, Term', Row_of-Mono, end_of-Mono, more_of-Mono}

abbrev pub IsFixedWord : CalcKind → List ℕ → Type 0
IsFixedWord = IsFixed calc_words

-- the brackets of the words stand no deeper than this
abbrev pub descend : List (List ℕ) → ℕ → Bool
descend words depth = climb (map (λ word. kind_by calc_words word (lexeme_of word)) words) depth

-- a word that is no bracket
pub flat_word : {k : CalcKind} {word : List ℕ} (rest : List (List ℕ)) (depth : ℕ) → IsFixedWord k word → ((rest : ℕ → Bool) (d : ℕ) → climb_at k rest d ≡ rest d) → descend (word ∷ rest) depth ≡ descend rest depth
flat_word {k} {word} rest depth fixed flat =
    let others = climb (map (λ word. kind_by calc_words word (lexeme_of word)) rest) in
    ap (λ (k : CalcKind). climb_at k others depth) fixed.is ∙ flat others depth

pub flat_number : (n : ℕ) → n ≤ 2 ^ 63 → (rest : List (List ℕ)) (depth : ℕ) → descend (decimal n ∷ rest) depth ≡ descend rest depth
flat_number n small rest depth = by (n == 1) (number_fixed calc_words n small) where
  by : (b : Bool) → IsFixedWord (if b then kind.One else kind.Number) (decimal n) → descend (decimal n ∷ rest) depth ≡ descend rest depth
  by true fixed = flat_word rest depth fixed (λ rest d. refl)
  by false fixed = flat_word rest depth fixed (λ rest d. refl)

-- the words are read as this part, wherever they stand
abbrev pub AreReadAs : {A : Type 0} {empty : Bool} → Production same_kind empty A → A → List (List ℕ) → Type 0
AreReadAs q part words = (at : ℕ) → IsPrinted calc_words q.shape.grammar q.make part words at

-- the words are read as this part, and brackets stand as deep behind them as before them
pub record IsPart {A : Type 0} {empty : Bool} (q : Production same_kind empty A) (part : A) (words rest : List (List ℕ)) (depth : ℕ) : Type 0 where
  pub read : AreReadAs q part words
  pub climbs : descend rest depth ≡ true

-- ---- words that are the same in each text

pub plus_word : IsFixedWord kind.Plus (codes "+")
plus_word = symbol_fixed calc_words kind.Plus (codes "+") refl refl

pub minus_word : IsFixedWord kind.Minus (codes "-")
minus_word = symbol_fixed calc_words kind.Minus (codes "-") refl refl

pub star_word : IsFixedWord kind.Star (codes "*")
star_word = symbol_fixed calc_words kind.Star (codes "*") refl refl

pub open_bracket : IsFixedWord kind.OpenBracket (codes "[")
open_bracket = symbol_fixed calc_words kind.OpenBracket (codes "[") refl refl

pub close_bracket : IsFixedWord kind.CloseBracket (codes "]")
close_bracket = symbol_fixed calc_words kind.CloseBracket (codes "]") refl refl

flat_sign : (first minus : Bool) (rest : List (List ℕ)) (depth : ℕ) → descend (sign_words first minus ++ rest) depth ≡ descend rest depth
flat_sign true true rest depth = flat_word rest depth minus_word (λ rest d. refl)
flat_sign false true rest depth = flat_word rest depth minus_word (λ rest d. refl)
flat_sign true false rest depth = refl
flat_sign false false rest depth = flat_word rest depth plus_word (λ rest d. refl)

flat_factor : (c : ℤ) → unsigned_abs c ≤ 2 ^ 63 → (rest : List (List ℕ)) (depth : ℕ) → descend (factor_words c ++ rest) depth ≡ descend rest depth
flat_factor c small rest depth = by (unsigned_abs c == 1) where
  by : (b : Bool) → descend ((if b then [] else decimal (unsigned_abs c) ∷ codes "*" ∷ []) ++ rest) depth ≡ descend rest depth
  by true = refl
  by false = flat_number (unsigned_abs c) small (codes "*" ∷ rest) depth ∙ flat_word rest depth star_word (λ rest d. refl)

flat_constant : (first : Bool) (c : ℤ) → unsigned_abs c ≤ 2 ^ 63 → (rest : List (List ℕ)) (depth : ℕ) → descend (constant_words first c ++ rest) depth ≡ descend rest depth
flat_constant first c small rest depth = by (is_left_out first c) where
  by : (b : Bool) → descend ((if b then [] else sign_words first (is_negative c) ++ decimal (unsigned_abs c) ∷ []) ++ rest) depth ≡ descend rest depth
  by true = refl
  by false =
      ap (λ (words : List (List ℕ)). descend words depth) (append_assoc (sign_words first (is_negative c)) (decimal (unsigned_abs c) ∷ []) rest)
      ∙ flat_sign first (is_negative c) (decimal (unsigned_abs c) ∷ rest) depth ∙ flat_number (unsigned_abs c) small rest depth

-- a bracket opens where one more may stand, and behind it one less may
abbrev pub opened_at : List (List ℕ) → ℕ → Bool
opened_at rest zero = false
opened_at rest (suc depth) = descend rest depth

pub opened : (rest : List (List ℕ)) (depth : ℕ) → descend (codes "[" ∷ rest) depth ≡ opened_at rest depth
opened rest zero = let others = climb (map (λ word. kind_by calc_words word (lexeme_of word)) rest) in ap (λ (k : CalcKind). climb_at k others zero) open_bracket.is
opened rest (suc depth) = let others = climb (map (λ word. kind_by calc_words word (lexeme_of word)) rest) in ap (λ (k : CalcKind). climb_at k others (suc depth)) open_bracket.is

pub closed : (rest : List (List ℕ)) (depth : ℕ) → descend (codes "]" ∷ rest) depth ≡ descend rest (suc depth)
closed rest depth = let others = climb (map (λ word. kind_by calc_words word (lexeme_of word)) rest) in ap (λ (k : CalcKind). climb_at k others depth) close_bracket.is

no_climb : false ≡ true → ⊥
no_climb e = absurd cc

-- behind the sign and the coefficient of a monomial
mono_climbs : (first : Bool) (c : ℤ) (words back rest : List (List ℕ)) (depth : ℕ) → IsShort c → descend ((sign_words first (is_negative c) ++ (factor_words c ++ words) ++ back) ++ rest) depth ≡ true
    → descend (words ++ (back ++ rest)) depth ≡ true
mono_climbs first c words back rest depth short climbs =
    let lead = sign_words first (is_negative c) in
    let same : (lead ++ (factor_words c ++ words) ++ back) ++ rest ≡ lead ++ (factor_words c ++ (words ++ (back ++ rest))) = simp append_assoc in
    sym (flat_factor c (omega (arith, short)) (words ++ (back ++ rest)) depth) ∙ sym (flat_sign first (is_negative c) (factor_words c ++ (words ++ (back ++ rest))) depth)
    ∙ ap (λ (words : List (List ℕ)). descend words depth) (sym same) ∙ climbs

-- ---- numbers and monomials

pub number_read : (n : ℕ) → n ≤ 2 ^ 63 → AreReadAs p.number n (decimal n ∷ [])
unfolding p.number
number_read n small at = by (n == 1) (number_fixed calc_words n small) where
  by : (b : Bool) → IsFixedWord (if b then kind.One else kind.Number) (decimal n) → IsPrinted calc_words p.number.shape.grammar p.number.make n (decimal n ∷ []) at
  by true fixed = record { text = on_left (word_alone at fixed); means = number_value calc_words at n small }
  by false fixed = record { text = on_right (word_alone at fixed); means = number_value calc_words at n small }

module _ (a : p.Syntax RawAtom) where
  mono_read : (c : ℤ) → unsigned_abs c ≤ 2 ^ 63 → (atom : RawAtom) (words : List (List ℕ)) → AreReadAs a atom words → AreReadAs (p.mono a) (p.product (unsigned_abs c) (Some atom)) (factor_words c ++ words)
  unfolding p.mono p.numbered
  mono_read c small atom words read at = by (unsigned_abs c == 1) refl where
    one : (k : ℕ) → (k == 1) ≡ true → 1 ≡ k
    one k e = grind (arith, nat_tests)

    by : (b : Bool) → (unsigned_abs c == 1) ≡ b
        → IsPrinted calc_words (p.mono a).shape.grammar (p.mono a).make (p.product (unsigned_abs c) (Some atom)) ((if b then [] else decimal (unsigned_abs c) ∷ codes "*" ∷ []) ++ words) at
    by true e = let found = read at in record { text = on_right found.text; means = λ i. p.product (one (unsigned_abs c) e i) (Some (found.means i)) }
    by false e =
        let number = number_read (unsigned_abs c) small at in
        let found = read (at + 1 + 1) in
        record {
          text = on_left (behind_part number.text (on_left (behind_word (at + 1) star_word found.text)));
          means = λ i. p.product (number.means i) (Some (found.means i));
        }

  constant_read : (n : ℕ) → n ≤ 2 ^ 63 → AreReadAs (p.mono a) (p.product n None) (decimal n ∷ [])
  unfolding p.mono p.numbered
  constant_read n small at =
      let number = number_read n small at in
      record { text = on_left (behind_part number.text (absent (at + 1))); means = λ i. p.product (number.means i) None }

  first_read : (minus : Bool) (product : Product) (words : List (List ℕ)) → AreReadAs (p.mono a) product words → AreReadAs (p.first_mono a) (p.signed minus product) (sign_words true minus ++ words)
  unfolding p.first_mono
  first_read true product words read at = let found = read (at + 1) in record { text = behind_part (on_left (word_alone at minus_word)) found.text; means = ap (p.signed true) found.means }
  first_read false product words read at = let found = read (at + 0) in record { text = behind_part (absent at) found.text; means = ap (p.signed false) found.means }

  next_read : (minus : Bool) (product : Product) (words : List (List ℕ)) → AreReadAs (p.mono a) product words → AreReadAs (p.next_mono a) (p.signed minus product) (sign_words false minus ++ words)
  unfolding p.next_mono
  next_read true product words read at = let found = read (at + 1) in record { text = behind_part (on_right (word_alone at minus_word)) found.text; means = ap (p.signed true) found.means }
  next_read false product words read at = let found = read (at + 1) in record { text = behind_part (on_left (word_alone at plus_word)) found.text; means = ap (p.signed false) found.means }

sum_read : (depth : ℕ) (monos : List RawMono) (words : List (List ℕ)) → AreReadAs (and_more (p.first_mono (p.atom depth)) (p.next_mono (p.atom depth))) monos words → AreReadAs (p.ix depth) (roll-RawIx (record { monos = monos })) words
unfolding p.ix p.sum
sum_read depth monos words read at = let found = read at in record { text = found.text; means = ap (λ (monos : List RawMono). roll-RawIx (record { monos = monos })) found.means }

-- ---- terms

module _ (names : RelNames) (variable : ℕ → List ℕ) (Known : ℕ → Type 0) where
  -- the names that are printed are names for a reader
  pub record AreNames : Type 0 where
    pub variables : (n : ℕ) → Known n → IsFixedWord kind.Name (variable n)
    pub params : (n : ℕ) → n < length names.params → IsFixedWord kind.Name (name_at names.params n)
    pub funs : (n : ℕ) → n < length names.funs → IsFixedWord kind.Name (name_at names.funs n)

  abbrev naming : Naming
  naming = record { variable = variable; param = name_at names.params; fun = name_at names.funs }

  module _ (are_names : AreNames) where
    name_read : (name : List ℕ) → IsFixedWord kind.Name name → (depth : ℕ) (rest : List (List ℕ)) → descend (name ∷ rest) depth ≡ true → IsPart (p.atom depth) (Plain name) (name ∷ []) rest depth
    unfolding p.atom p.name p.subscripted lexed
    name_read name fixed zero rest climbs = record { read = λ at. record { text = word_alone at fixed; means = refl }; climbs = sym (flat_word rest zero fixed (λ rest d. refl)) ∙ climbs }
    name_read name fixed (suc depth) rest climbs =
        record { read = λ at. record { text = behind_word at fixed (absent (at + 1)); means = refl }; climbs = sym (flat_word rest (suc depth) fixed (λ rest d. refl)) ∙ climbs }

    -- a name with an index expression in brackets behind it
    entry_read : (name : List ℕ) → IsFixedWord kind.Name name → (at : RawIx) (words : List (List ℕ)) (depth : ℕ) → AreReadAs (p.ix depth) at words → AreReadAs (p.atom (suc depth)) (Entry name at) (name ∷ codes "[" ∷ (words ++ codes "]" ∷ []))
    unfolding p.atom p.name p.subscripted p.ix lexed
    entry_read name fixed at words depth read n =
        let found = read (n + 1 + 1) in
        record { text = behind_word n fixed (on_left (enclosed (n + 1) open_bracket close_bracket found.text)); means = ap (Entry name) found.means }

    -- what is in the brackets stands one less deep
    app_read : (fun : ℕ) (arg : Term) → IsFixedWord kind.Name (name_at names.funs fun)
        → ((depth : ℕ) (rest : List (List ℕ)) → descend (term_words naming arg ++ rest) depth ≡ true → IsPart (p.ix depth) (raw_term naming arg) (term_words naming arg) rest depth)
        → (depth : ℕ) (rest : List (List ℕ)) → descend (atom_words naming (Atom.App fun arg) ++ rest) depth ≡ true → IsPart (p.atom depth) (raw_atom naming (Atom.App fun arg)) (atom_words naming (Atom.App fun arg)) rest depth
    app_read fun arg fixed read depth rest climbs = by depth (subst (λ (words : List (List ℕ)). descend words depth ≡ true) same climbs) where
      name : List ℕ
      name = name_at names.funs fun

      inside : List (List ℕ)
      inside = term_words naming arg

      same : ((name ∷ codes "[" ∷ (inside ++ codes "]" ∷ [])) ++ rest) ≡ name ∷ codes "[" ∷ (inside ++ codes "]" ∷ rest)
      same = ap (λ (words : List (List ℕ)). name ∷ codes "[" ∷ words) (append_assoc inside (codes "]" ∷ []) rest)

      behind_name : (depth : ℕ) → descend (name ∷ codes "[" ∷ (inside ++ codes "]" ∷ rest)) depth ≡ opened_at (inside ++ codes "]" ∷ rest) depth
      behind_name depth = flat_word (codes "[" ∷ (inside ++ codes "]" ∷ rest)) depth fixed (λ rest d. refl) ∙ opened (inside ++ codes "]" ∷ rest) depth

      by : (depth : ℕ) → descend (name ∷ codes "[" ∷ (inside ++ codes "]" ∷ rest)) depth ≡ true → IsPart (p.atom depth) (raw_atom naming (Atom.App fun arg)) (atom_words naming (Atom.App fun arg)) rest depth
      by zero climbs = absurd (no_climb (sym (behind_name zero) ∙ climbs))
      by (suc depth) climbs =
          let index = read depth (codes "]" ∷ rest) (sym (behind_name (suc depth)) ∙ climbs) in
          record { read = entry_read name fixed (raw_term naming arg) inside depth index.read; climbs = sym (closed rest depth) ∙ index.climbs }

    mutual
      pub term_read : (term : Term) → Variables Known term → IsNamed names term → (depth : ℕ) (rest : List (List ℕ)) → descend (term_words naming term ++ rest) depth ≡ true
          → IsPart (p.ix depth) (raw_term naming term) (term_words naming term) rest depth
      term_read (Term' shape monos constant) known named depth rest climbs =
          let row = row_read monos constant known named.0 named.1 depth rest climbs in
          record { read = sum_read depth (raw_row naming true monos constant) (row_words naming true monos constant) row.read; climbs = row.climbs }

      row_read : {n : _} (row : Row_of-Mono n) (constant : ℤ) → SumVariables Known row → AreNamed names row → IsShort constant → (depth : ℕ) (rest : List (List ℕ)) → descend (row_words naming true row constant ++ rest) depth ≡ true
          → IsPart (and_more (p.first_mono (p.atom depth)) (p.next_mono (p.atom depth))) (raw_row naming true row constant) (row_words naming true row constant) rest depth
      row_read end_of-Mono constant known named short depth rest climbs =
          let number = first_read (p.atom depth) (is_negative constant) (p.product (unsigned_abs constant) None) (decimal (unsigned_abs constant) ∷ []) (constant_read (p.atom depth) (unsigned_abs constant) (omega (arith, short))) in
          record {
            read = λ at.
                let found = number at in
                let words = constant_words true constant in
                record { text = in_words (append-nil words) (behind_part found.text (none_more (at + length words))); means = λ i. found.means i ∷ [] };
            climbs = sym (flat_constant true constant (omega (arith, short)) rest depth) ∙ climbs;
          }
      row_read (more_of-Mono coef atom others) constant known named short depth rest climbs =
          let lead = sign_words true (is_negative coef) in
          let body = factor_words coef ++ atom_words naming atom in
          let back = row_words naming false others constant in
          let here = atom_read atom known.0 named.1 depth (back ++ rest) (mono_climbs true coef (atom_words naming atom) back rest depth named.0 climbs) in
          let behind = further_read others constant known.1 named.2 short depth rest here.climbs in
          let mono = first_read (p.atom depth) (is_negative coef) (p.product (unsigned_abs coef) (Some (raw_atom naming atom))) body (mono_read (p.atom depth) coef (omega (arith, named.0)) (raw_atom naming atom) (atom_words naming atom) here.read) in
          record {
            read = λ at.
                let found = mono at in
                let more = behind.read (at + length (lead ++ body)) in
                record { text = behind_part found.text more.text; means = λ i. found.means i ∷ more.means i };
            climbs = behind.climbs;
          }

      further_read : {n : _} (row : Row_of-Mono n) (constant : ℤ) → SumVariables Known row → AreNamed names row → IsShort constant → (depth : ℕ) (rest : List (List ℕ)) → descend (row_words naming false row constant ++ rest) depth ≡ true
          → IsPart (many (p.next_mono (p.atom depth))) (raw_row naming false row constant) (row_words naming false row constant) rest depth
      further_read end_of-Mono constant known named short depth rest climbs =
          record { read = by (is_left_out false constant); climbs = sym (flat_constant false constant (omega (arith, short)) rest depth) ∙ climbs }
        where
          by : (b : Bool) → AreReadAs (many (p.next_mono (p.atom depth))) (if b then [] else p.signed (is_negative constant) (p.product (unsigned_abs constant) None) ∷ [])
              (if b then [] else sign_words false (is_negative constant) ++ decimal (unsigned_abs constant) ∷ [])
          by true at = record { text = none_more at; means = refl }
          by false at =
              let words = sign_words false (is_negative constant) ++ decimal (unsigned_abs constant) ∷ [] in
              let found = next_read (p.atom depth) (is_negative constant) (p.product (unsigned_abs constant) None) (decimal (unsigned_abs constant) ∷ []) (constant_read (p.atom depth) (unsigned_abs constant) (omega (arith, short))) at in
              record { text = in_words (append-nil words) (one_more found.text (none_more (at + length words))); means = λ i. found.means i ∷ [] }
      further_read (more_of-Mono coef atom others) constant known named short depth rest climbs =
          let lead = sign_words false (is_negative coef) in
          let body = factor_words coef ++ atom_words naming atom in
          let back = row_words naming false others constant in
          let here = atom_read atom known.0 named.1 depth (back ++ rest) (mono_climbs false coef (atom_words naming atom) back rest depth named.0 climbs) in
          let behind = further_read others constant known.1 named.2 short depth rest here.climbs in
          let mono = next_read (p.atom depth) (is_negative coef) (p.product (unsigned_abs coef) (Some (raw_atom naming atom))) body (mono_read (p.atom depth) coef (omega (arith, named.0)) (raw_atom naming atom) (atom_words naming atom) here.read) in
          record {
            read = λ at.
                let found = mono at in
                let more = behind.read (at + length (lead ++ body)) in
                record { text = one_more found.text more.text; means = λ i. found.means i ∷ more.means i };
            climbs = behind.climbs;
          }

      atom_read : (atom : Atom) → AtomVariables Known atom → AtomIsNamed names atom → (depth : ℕ) (rest : List (List ℕ)) → descend (atom_words naming atom ++ rest) depth ≡ true
          → IsPart (p.atom depth) (raw_atom naming atom) (atom_words naming atom) rest depth
      atom_read (Atom.Var number) known named depth rest climbs = name_read (variable number) (are_names.variables number known) depth rest climbs
      atom_read (Atom.Param number) known named depth rest climbs = name_read (name_at names.params number) (are_names.params number named) depth rest climbs
      atom_read (Atom.App fun arg) known named depth rest climbs = app_read fun arg (are_names.funs fun named.0) (term_read arg known named.1) depth rest climbs
