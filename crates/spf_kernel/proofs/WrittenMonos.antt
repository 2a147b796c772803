-- Where the atoms are written again, so are the monomials and the sums of them.
use Rattle.spf_kernel.proofs.Common.{roll-Mono, suc, ◌≡◌, ℕ, ℤ, pos, ◌+◌, ◌≤◌, ◌==◌, Bool, true, false, if◌then◌else◌, List, [], ◌∷◌, ◌++◌, map, flat_map, is_some, refl, ap, ◌∙◌, subst, arith, inl, inr, codes, decimal, unsigned_abs, length, sym, is_negative, AllByRecursion, nat_tests, bundle_words, Derivation, Lexed, Kind, symbol_fixed, split_each, Holds, behind_word, behind_part, on_left, on_right, Mono, Note, Spot, RawAtom, Fact, facts_of, mono_notes, atom_notes, atom_monomials, number_notes, mono_words, atom_words, atom_of, wrap, Leaves, Atom, Syntax, signed}
use Rattle.spf_kernel.specs.Productions as syntax
use Rattle.spf_kernel.proofs.NamedUses.{IsFitting}
use Rattle.spf_kernel.proofs.NoteEquations.{step_notes, number_fits, number_within}
use Rattle.spf_kernel.proofs.PrintedConstants.{wrap_small, wrap_twice, signed_back, signed_size}
use Rattle.spf_kernel.proofs.Written.{in_scope, IsLeaf, IsFixedWord, Context, names_in, shown_in, source, AreFit, vars_in}
use Rattle.spf_kernel.proofs.WrittenInside.{IsAgainInside, AreWrittenInside, Item, IsRead, sum_as, made_notes, Inside}
use Rattle.spf_kernel.proofs.WrittenSigns.{number_written}
use Rattle.spf_kernel.proofs.WrittenSums.{IsSource, AreSources, sum_again}

-- the meaning of an atom
abbrev pub atom_as : Context → Spot → Inside RawAtom Atom
atom_as c spot = record { of = in_scope c atom_of (atom_notes spot) atom_words; monomials = atom_monomials }

module _ (c : Context) (spot : Spot) (a : Syntax RawAtom) where
  abbrev given_of : RawAtom → Atom
  given_of x = atom_of c.texts (names_in c) c.scope x

  abbrev words_of_atom : RawAtom → List (List ℕ)
  words_of_atom x = atom_words (shown_in c) (vars_in c) (given_of x)

  -- the words of the atom, where they stand, mean it again
  abbrev pub IsAtomAgain : RawAtom → Type 0
  IsAtomAgain x = (at : ℕ) → Holds c.written at (words_of_atom x) → IsAgainInside c a (atom_as c spot) x at

  module _ (minus : Bool) (n : ℕ) (small : n ≤ 1048576) (x : RawAtom) (read : IsAtomAgain x) (facts : List Fact) (same_facts : facts_of c.texts (atom_notes spot c.scope x) ≡ facts) where
    abbrev coef : ℤ
    coef = wrap (signed minus n)

    -- the monomial in the source
    abbrev given : Mono
    given = roll-Mono (record { coef = coef; atom = given_of x })

    abbrev item_with : List (List ℕ) → Item
    item_with words = record { minus = is_negative coef; words = words; given = given ∷ []; number = pos 0; facts = facts; count = suc (length (atom_monomials x)) }

    abbrev IsAgainWith : List (List ℕ) → ℕ → Type 0
    IsAgainWith words at = IsRead c spot a (item_with words) at

    size : unsigned_abs coef ≡ n
    size = ap unsigned_abs (wrap_small (signed minus n) (omega (arith, signed_size minus n))) ∙ signed_size minus n

    same_coef : (m : ℕ) → m ≡ unsigned_abs coef → wrap (signed (is_negative coef) m) ≡ coef
    same_coef m e = ap wrap (ap (signed (is_negative coef)) e ∙ signed_back coef) ∙ wrap_twice (signed minus n)

    -- a coefficient 1, which isn't printed
    bare_again : 1 ≡ unsigned_abs coef → (at : ℕ) → Holds c.written at (words_of_atom x) → IsAgainWith (words_of_atom x) at
    unfolding syntax.mono
    bare_again one at holds =
        let found = read at holds in
        record {
          text = on_right found.text;
          gives = λ i. roll-Mono (record { coef = same_coef 1 one i; atom = found.means i }) ∷ [];
          total = refl;
          same = found.same ∙ same_facts;
          few = omega (arith, found.few);
        }

    -- another one, in front of a `*`
    times_again : (at : ℕ) → Holds c.written at (decimal (unsigned_abs coef) ∷ codes "*" ∷ words_of_atom x) → IsAgainWith (decimal (unsigned_abs coef) ∷ codes "*" ∷ words_of_atom x) at
    unfolding syntax.mono syntax.numbered
    times_again at holds =
        let found = read (at + 1 + 1) holds.1.1 in
        let number = number_written (unsigned_abs coef) at (omega (arith, size)) in
        let token = syntax.number.make number.text.derivation in
        let star : IsFixedWord Kind.Star (codes "*") = symbol_fixed bundle_words Kind.Star (codes "*") refl refl in
        record {
          text = on_left (behind_part number.text (on_left (behind_word (at + 1) star found.text)));
          gives = λ i. roll-Mono (record { coef = same_coef token.value number.same i; atom = found.means i }) ∷ [];
          total = refl;
          same = ap (λ (notes : List Note). facts_of c.written (notes ++ atom_notes spot c.again (a.make found.text.derivation))) (number_fits true token (omega (arith, number.same, size))) ∙ found.same ∙ same_facts;
          few = omega (arith, found.few);
        }

    pub mono_again : (at : ℕ) → Holds c.written at (mono_words (shown_in c) (vars_in c) given) → IsAgainWith (mono_words (shown_in c) (vars_in c) given) at
    mono_again = by (unsigned_abs coef == 1) refl where
      one : (k : ℕ) → (k == 1) ≡ true → 1 ≡ k
      one k e = grind (arith, nat_tests)

      by : (b : Bool) → (unsigned_abs coef == 1) ≡ b → (at : ℕ) → Holds c.written at ((if b then [] else decimal (unsigned_abs coef) ∷ codes "*" ∷ []) ++ words_of_atom x)
          → IsAgainWith ((if b then [] else decimal (unsigned_abs coef) ∷ codes "*" ∷ []) ++ words_of_atom x) at
      by true e = bare_again (one (unsigned_abs coef) e)
      by false e = times_again

  -- ---- the parts of a sum in the source

  module _ (atoms : AreWrittenInside c a (atom_as c spot)) where
    mono_source : (minus : Bool) (d : Derivation (Lexed Kind) (syntax.mono a).shape.grammar) → Leaves (IsLeaf c.texts) (syntax.mono a).shape.grammar d
        → AreFit (source c) (mono_notes spot c.scope ((syntax.mono a).make d)) → IsSource c spot a minus ((syntax.mono a).make d)
    unfolding Leaves syntax.mono syntax.numbered
    mono_source minus (inl (number, inl (star, x))) leaves each =
        let token = syntax.number.make number in
        let raw = a.make x in
        let parts = split_each (IsFitting c.texts c.facts) (number_notes true token) (atom_notes spot c.scope raw) each in
        let small = number_within c.texts c.facts true token parts.0 in
        inr (record {
          given = roll-Mono (record { coef = wrap (signed minus token.value); atom = given_of raw });
          gives = refl;
          no_number = refl;
          reads = mono_again minus token.value small raw (atoms x leaves.1.1 parts.1) (facts_of c.texts (number_notes true token ++ atom_notes spot c.scope raw))
              (sym (ap (λ (notes : List Note). facts_of c.texts (notes ++ atom_notes spot c.scope raw)) (number_fits true token small)));
        })
    mono_source minus (inl (number, inr none)) leaves each =
        let token = syntax.number.make number in
        let small = number_within c.texts c.facts false token each in
        inl (record {
          none = refl;
          small = omega (arith, signed_size minus token.value, small);
          untold = ap (facts_of c.texts) (number_fits false token small);
          counts = omega arith;
        })
    mono_source minus (inr x) leaves each =
        let raw = a.make x in
        inr (record {
          given = roll-Mono (record { coef = wrap (signed minus 1); atom = given_of raw });
          gives = refl;
          no_number = refl;
          reads = mono_again minus 1 (omega arith) raw (atoms x leaves each) (facts_of c.texts (atom_notes spot c.scope raw)) refl;
        })

    further_sources : (ds : List (Derivation (Lexed Kind) (syntax.next_step a).shape.grammar)) → AllByRecursion (Leaves (IsLeaf c.texts) (syntax.next_step a).shape.grammar) ds
        → AreFit (source c) (flat_map (step_notes spot c.scope) (map (syntax.next_step a).make ds)) → AreSources c spot a (map (syntax.next_step a).make ds)
    unfolding Leaves syntax.next_step
    further_sources [] leaves each = tt
    further_sources (d ∷ ds) leaves each =
        let parts = split_each (IsFitting c.texts c.facts) (mono_notes spot c.scope ((syntax.mono a).make d.1)) (flat_map (step_notes spot c.scope) (map (syntax.next_step a).make ds)) each in
        (mono_source (is_some (syntax.sign.make d.0)) d.1 leaves.0.1 parts.0, further_sources ds leaves.1 parts.1)

    -- where the atoms are written again, so is the sum
    pub sum_read : AreWrittenInside c (syntax.sum a) (sum_as c spot)
    unfolding Leaves syntax.sum syntax.first_step
    sum_read (first, others) leaves each =
        let step = (syntax.first_step a).make first in
        let steps = map (syntax.next_step a).make others in
        let parts = split_each (IsFitting c.texts c.facts) (step_notes spot c.scope step) (flat_map (step_notes spot c.scope) steps) (subst (AreFit (source c)) (made_notes spot c.scope (step ∷ steps)) each) in
        sum_again c spot a (step ∷ steps) (mono_source (is_some step.minus) first.1 leaves.0.1 parts.0, further_sources others leaves.1 parts.1) (omega arith)
