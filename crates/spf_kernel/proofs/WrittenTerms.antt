-- A name that is used is printed as its own text, and that text means the same name again. So the printed words of an index
-- expression, as tokens of the printed text, mean it again.
use Rattle.spf_kernel.proofs.Common.{◌≡◌, ℕ, true, false, List, [], ◌∷◌, Option, None, Some, refl, ap, ◌∙◌, Token, Spot, text_of, variables_in, Names, number_of, atom_words, variable_of, table_of, bare_atom, takes_data, fits, name_at, zero, suc, ◌+◌, ◌++◌, is_some, sym, subst, arith, inl, inr, codes, length, bundle_words, Lexed, Grammar, Kind, symbol_fixed, split_each, Holds, stands_inside, word_alone, behind_word, on_left, absent, Term, Used, Note, Scope, RawIx, RawAtom, out-roll-RawAtom, facts_of, fact_with, note, ix_notes, atom_notes, expression_notes, atom_monomials, excess_notes, ix_monomials, monomial_limit, term_words, named, atom_of, term_of, One, Then, Leaves, enclosed, Atom, Syntax}
use Rattle.spf_kernel.proofs.FittingNames.{IsBare, bare_fits, table_fits, variable_named}
use Rattle.spf_kernel.proofs.Written.{Context, names_in, shown_in, vars_in, in_scope, AreText, IsFixedWord, IsLeaf, token_of, Meaning, source, AreFit, AreWritten, text_here, name_written}
use Rattle.spf_kernel.specs.Productions as syntax
use Rattle.spf_kernel.proofs.NamedUses.{IsFitting}
use Rattle.spf_kernel.proofs.NoteEquations.{at_notes, atom_notes_are, at_monomials, atom_monomials_are, few_monomials, none_in_excess}
use Rattle.spf_kernel.proofs.TermEquations.{atom_at, atom_is_at}
use Rattle.spf_kernel.proofs.WrittenInside.{IsAgainInside, AreWrittenInside, told_as, sum_as}
use Rattle.spf_kernel.proofs.WrittenMonos.{atom_as, sum_read}

module _ (c : Context) where
  abbrev names : Names
  names = names_in c

  abbrev pub IsShown : List ℕ → ℕ → Type 0
  IsShown name variable = name_at (vars_in c) variable ≡ name

  pub bare_is : (spot : Spot) (name : List ℕ) → fits c.facts (vars_in c) name false spot ≡ true → IsBare c.facts (IsShown name) name (variable_of (vars_in c) name)
  bare_is spot name fit = bare_fits c.facts (IsShown name) spot (vars_in c) name fit (λ variable found. (variable_named (vars_in c) name variable found).named)

  -- a written name with that text is the same variable
  pub variable_again : (name other : Token) → text_of c.written other ≡ text_of c.texts name → variable_of (variables_in c.written c.again) (text_of c.written other) ≡ variable_of (vars_in c) (text_of c.texts name)
  variable_again name other same = λ i. variable_of (c.scoped i) (same i)

  -- ---- a name without brackets

  pub bare_shown : (spot : Spot) (name : Token) → fits c.facts (vars_in c) (text_of c.texts name) false spot ≡ true
      → atom_words (shown_in c) (vars_in c) (bare_atom c.texts names (variable_of (vars_in c) (text_of c.texts name)) name) ≡ text_of c.texts name ∷ []
  bare_shown spot name fit = by (variable_of (vars_in c) (text_of c.texts name)) (bare_is spot (text_of c.texts name) fit) where
    by : (found : Option ℕ) → IsBare c.facts (IsShown (text_of c.texts name)) (text_of c.texts name) found → atom_words (shown_in c) (vars_in c) (bare_atom c.texts names found name) ≡ text_of c.texts name ∷ []
    by (Some variable) named = ap (λ (word : List ℕ). word ∷ []) named
    by None number = ap (λ (word : List ℕ). word ∷ []) number.named

  -- a written name with that text means the same
  pub bare_means : (name other : Token) → text_of c.written other ≡ text_of c.texts name
      → bare_atom c.written names (variable_of (variables_in c.written c.again) (text_of c.written other)) other ≡ bare_atom c.texts names (variable_of (vars_in c) (text_of c.texts name)) name
  bare_means name other same = ap (λ (found : Option ℕ). bare_atom c.written names found other) (variable_again name other same) ∙ by (variable_of (vars_in c) (text_of c.texts name)) where
    by : (found : Option ℕ) → bare_atom c.written names found other ≡ bare_atom c.texts names found name
    by (Some variable) = refl
    by None = ap Atom.Param (ap (number_of names.params) same)

  -- ---- a name with brackets

  pub table_shown : (spot : Spot) → takes_data spot ≡ false → (name : Token) → fits c.facts (vars_in c) (text_of c.texts name) true spot ≡ true → name_at names.tables (table_of c.texts names name) ≡ text_of c.texts name
  table_shown spot no_data name fit = (table_fits c.facts spot no_data (vars_in c) (text_of c.texts name) fit).named

  pub table_means : (name other : Token) → text_of c.written other ≡ text_of c.texts name → table_of c.written names other ≡ table_of c.texts names name
  table_means name other same = ap (number_of names.tables) same

-- ---- brackets

pub open_bracket : IsFixedWord Kind.OpenBracket (codes "[")
open_bracket = symbol_fixed bundle_words Kind.OpenBracket (codes "[") refl refl

pub close_bracket : IsFixedWord Kind.CloseBracket (codes "]")
close_bracket = symbol_fixed bundle_words Kind.CloseBracket (codes "]") refl refl

-- words between brackets
abbrev pub in_brackets : {g : Grammar Kind} {words : List (List ℕ)} (at : ℕ) → AreText g words (at + 1) → AreText (Then (One Kind.OpenBracket) (Then g (One Kind.CloseBracket))) (codes "[" ∷ (words ++ codes "]" ∷ [])) at
in_brackets at is = enclosed at open_bracket close_bracket is

-- ---- a name, with what stands in the brackets behind it

named_means : (texts : List (List ℕ)) (names : Names) (scope : Scope) (name : Token) (at : Option RawIx) → atom_of texts names scope (named name at) ≡ atom_at texts names scope name at
named_means texts names scope name at =
    let shows = out-roll-RawAtom (record { name = name; at = at }) in
    atom_is_at texts names scope (named name at) ∙ (λ i. atom_at texts names scope (shows i).name (shows i).at)

named_notes : (spot : Spot) (scope : Scope) (name : Token) (at : Option RawIx) → atom_notes spot scope (named name at) ≡ note name (Used (is_some at) spot) scope ∷ at_notes spot scope at
named_notes spot scope name at =
    let shows = out-roll-RawAtom (record { name = name; at = at }) in
    atom_notes_are spot scope (named name at) ∙ (λ i. note (shows i).name (Used (is_some (shows i).at) spot) scope ∷ at_notes spot scope (shows i).at)

named_monomials : (name : Token) (at : Option RawIx) → atom_monomials (named name at) ≡ at_monomials at
named_monomials name at = atom_monomials_are (named name at) ∙ (λ i. at_monomials (out-roll-RawAtom (record { name = name; at = at }) i).at)

module _ (c : Context) (spot : Spot) (no_data : takes_data spot ≡ false) where
  abbrev words_of_atom : Atom → List (List ℕ)
  words_of_atom x = atom_words (shown_in c) (vars_in c) x

  abbrev given : RawAtom → Atom
  given x = atom_of c.texts (names_in c) c.scope x

  -- a name without brackets
  bare_again : (p : Syntax RawAtom) (name : Token) → AreFit (source c) (atom_notes spot c.scope (named name None)) → (at : ℕ) → (text : AreText p.shape.grammar (text_of c.texts name ∷ []) at)
      → p.make text.derivation ≡ named (token_of at (text_of c.texts name)) None → Holds c.written at (words_of_atom (given (named name None))) → IsAgainInside c p (atom_as c spot) (named name None) at
  bare_again p name fit at text is holds =
      let word = text_of c.texts name in
      let other = token_of at word in
      let meant = named_means c.texts (names_in c) c.scope name None in
      let noted = named_notes spot c.scope name None in
      let noted_again : atom_notes spot c.again (p.make text.derivation) ≡ note other (Used false spot) c.again ∷ [] = ap (atom_notes spot c.again) is ∙ named_notes spot c.again other None in
      let uses = subst (AreFit (source c)) noted fit in
      let words : words_of_atom (given (named name None)) ≡ word ∷ [] = ap words_of_atom meant ∙ bare_shown c spot name uses.0 in
      let here = subst (Holds c.written at) words holds in
      let same = text_here c.written at word here.0 in
      told_as {count = 0} (sym meant) (sym words) (ap (facts_of c.texts) (sym noted)) (omega arith) (record {
        text = text;
        means = ap (atom_of c.written (names_in c) c.again) is ∙ (named_means c.written (names_in c) c.again other None ∙ bare_means c name other same);
        same = ap (facts_of c.written) noted_again ∙ (λ i. fact_with (Used false spot) (same i) (c.scoped i) ∷ []);
        few = omega (arith, ap (λ (x : RawAtom). length (atom_monomials x)) is, ap length (named_monomials other None));
      })

  -- a name with brackets, and the sum inside them
  entry_again : (p : Syntax RawIx) (name : Lexed Kind) → IsLeaf c.texts Kind.Name name → (index : RawIx) → AreFit (source c) (atom_notes spot c.scope (named name.token (Some index))) → (at : ℕ)
      → (Holds c.written (at + 1 + 1) (term_words (shown_in c) (vars_in c) (term_of c.texts (names_in c) c.scope index)) → IsAgainInside c p (sum_as c spot) index (at + 1 + 1))
      → Holds c.written at (words_of_atom (given (named name.token (Some index)))) → IsAgainInside c (syntax.subscripted p) (atom_as c spot) (named name.token (Some index)) at
  unfolding syntax.subscripted
  entry_again p name leaf index fit at read holds =
      let word = text_of c.texts name.token in
      let inside = term_words (shown_in c) (vars_in c) (term_of c.texts (names_in c) c.scope index) in
      let other = token_of at word in
      let meant = named_means c.texts (names_in c) c.scope name.token (Some index) in
      let noted = named_notes spot c.scope name.token (Some index) in
      let uses = subst (AreFit (source c)) noted fit in
      let words : words_of_atom (given (named name.token (Some index))) ≡ word ∷ codes "[" ∷ inside ++ codes "]" ∷ [] =
      ap words_of_atom meant ∙ ap (λ (first : List ℕ). first ∷ codes "[" ∷ inside ++ codes "]" ∷ []) (table_shown c spot no_data name.token uses.0) in
      let here = subst (Holds c.written at) words holds in
      let is = name_written c.texts c.written name word at leaf refl here.0 in
      let found = read (stands_inside c.written (at + 1) (codes "[") inside (codes "]") here.1) in
      let raw = p.make found.text.derivation in
      told_as {count = length (ix_monomials index)} (sym meant) (sym words) (ap (facts_of c.texts) (sym noted)) (omega (arith, ap length (named_monomials name.token (Some index)))) (record {
        text = behind_word at is.fixed (on_left (in_brackets (at + 1) found.text));
        means = named_means c.written (names_in c) c.again other (Some raw) ∙ (λ i. Atom.App (table_means c name.token other is.same i) (found.means i));
        same = ap (facts_of c.written) (named_notes spot c.again other (Some raw)) ∙ (λ i. fact_with (Used true spot) (is.same i) (c.scoped i) ∷ found.same i);
        few = omega (arith, ap length (named_monomials other (Some raw)), found.few);
      })

  -- by induction on how deep brackets may still stand
  atom_written : (depth : ℕ) → AreWrittenInside c (syntax.atom depth) (atom_as c spot)
  unfolding Leaves syntax.atom syntax.subscripted
  atom_written zero name leaves fit at holds = bare_again (syntax.atom zero) name.token fit at (word_alone at (leaves.name refl)) refl holds
  atom_written (suc depth) (name, inr none) leaves fit at holds =
      bare_again (syntax.atom (suc depth)) name.token fit at (behind_word at (leaves.0.name refl) (absent (at + 1))) refl holds
  atom_written (suc depth) (name, inl (opened, (x, closed))) leaves fit at holds =
      let p = syntax.sum (syntax.atom depth) in
      let inside = (subst (AreFit (source c)) (named_notes spot c.scope name.token (Some (p.make x))) fit).1 in
      entry_again p name leaves.0 (p.make x) fit at (sum_read c spot (syntax.atom depth) (atom_written depth) x leaves.1.1.0 inside (at + 1 + 1)) holds

-- an index expression that stands in no other one
abbrev pub ix_as : Context → Spot → Meaning RawIx Term
ix_as c spot = in_scope c term_of (expression_notes spot) term_words

-- it is written again: none of its numbers and monomials is noted, and so none of those that are written
pub ix_written : (c : Context) (spot : Spot) → takes_data spot ≡ false → (depth : ℕ) → AreWritten (source c) (syntax.ix depth) (ix_as c spot)
unfolding syntax.ix
ix_written c spot no_data depth d leaves fit at holds =
    let p = syntax.sum (syntax.atom depth) in
    let raw = p.make d in
    let room = monomial_limit spot in
    let parts = split_each (IsFitting c.texts c.facts) (excess_notes room (ix_monomials raw)) (ix_notes spot c.scope raw) fit in
    let found = sum_read c spot (syntax.atom depth) (atom_written c spot no_data depth) d leaves parts.1 at holds in
    let few = few_monomials c.texts c.facts room (ix_monomials raw) parts.0 in
    let new = p.make found.text.derivation in
    record {
      text = found.text;
      means = found.means;
      same = ap (λ (notes : List Note). facts_of c.written (notes ++ ix_notes spot c.again new)) (none_in_excess room (ix_monomials new) (omega (arith, few, found.few)))
          ∙ found.same ∙ sym (ap (λ (notes : List Note). facts_of c.texts (notes ++ ix_notes spot c.scope raw)) (none_in_excess room (ix_monomials raw) few));
    }
