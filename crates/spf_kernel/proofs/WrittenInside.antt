-- The printed words of a part of an index expression, as tokens of the printed text, and the sums that they make.
use Rattle.spf_kernel.proofs.Common.{◌≡◌, ℕ, ℤ, pos, ◌+ℤ◌, ◌+◌, ◌≤◌, Bool, List, [], ◌∷◌, ◌++◌, length, length-append, map, flat_map, fold, is_some, refl, ap, sym, ◌∙◌, arith, append_assoc, AllByRecursion, ints, Derivation, Lexed, Kind, Holds, holds_both, behind_part, none_more, one_more, in_words, Term, roll-Term, Mono, Token, Spot, Scope, RawIx, RawStep, RawAtom, RawMono, Fact, facts_of, Names, ix_notes, mono_notes, ix_monomials, mono_monomials, sign_word, lead_words, term_words, alone_of, constant_of, monos_of, term_of, wrap, Many, Leaves, roll-RawIx, out-roll-RawIx, Syntax}
use Rattle.spf_kernel.specs.Productions as syntax
use Rattle.spf_kernel.proofs.NoteEquations.{step_notes, ix_notes_are, ix_monomials_are, step_monomials}
use Rattle.spf_kernel.proofs.TermEquations.{step_monos, term_is}
use Rattle.spf_kernel.proofs.Written.{in_scope, AreText, IsLeaf, Context, names_in, Meaning, source, AreFit, facts_append}
use Rattle.spf_kernel.proofs.WrittenSigns.{sign_written, lead_written}

-- what a part of an index expression means, and the monomials in it
pub record Inside (R A : Type 0) : Type 0 where
  pub of : Meaning R A
  pub monomials : R → List Token

-- the words, as tokens from number `at` on, mean the part again, with these facts and no more monomials
pub record IsWrittenInside (c : Context) {R A : Type 0} (p : Syntax R) (x : Inside R A) (part : A) (words : List (List ℕ)) (facts : List Fact) (count : ℕ) (at : ℕ) : Type 0 where
  pub text : AreText p.shape.grammar words at
  pub means : x.of.means_again (p.make text.derivation) ≡ part
  pub same : facts_of c.written (x.of.notes_again (p.make text.derivation)) ≡ facts
  pub few : length (x.monomials (p.make text.derivation)) ≤ count

-- told by an equal part, equal words, equal facts and no more monomials
pub told_as : {c : Context} {R A : Type 0} {p : Syntax R} {x : Inside R A} {part whole : A} {words all : List (List ℕ)} {facts others : List Fact} {count n : ℕ} {at : ℕ} → part ≡ whole → words ≡ all → facts ≡ others → count ≤ n
    → IsWrittenInside c p x part words facts count at → IsWrittenInside c p x whole all others n at
told_as same_part same_words same_facts fewer is = record { text = in_words same_words is.text; means = is.means ∙ same_part; same = is.same ∙ same_facts; few = omega (arith, is.few, fewer) }

-- this raw tree is so written again, as the words that it is printed as
abbrev pub IsAgainInside : (c : Context) {R A : Type 0} → Syntax R → Inside R A → R → ℕ → Type 0
IsAgainInside c p x raw at = IsWrittenInside c p x (x.of.means raw) (x.of.words (x.of.means raw)) (facts_of c.texts (x.of.notes raw)) (length (x.monomials raw)) at

-- each text of the production whose notes are fit is, where its words stand
abbrev pub AreWrittenInside : (c : Context) {R A : Type 0} → Syntax R → Inside R A → Type 0
AreWrittenInside c p x =
    (d : Derivation (Lexed Kind) p.shape.grammar) → Leaves (IsLeaf c.texts) p.shape.grammar d → AreFit (source c) (x.of.notes (p.make d)) → (at : ℕ)
    → Holds c.written at (x.of.words (x.of.means (p.make d))) → IsAgainInside c p x (p.make d) at

-- the meaning of an index expression
abbrev pub sum_as : Context → Spot → Inside RawIx Term
sum_as c spot = record { of = in_scope c term_of (ix_notes spot) term_words; monomials = ix_monomials }

-- ---- monomials one behind another

abbrev pub total_of : ℤ → List RawStep → ℤ
total_of start steps = fold (λ total (step : RawStep). total +ℤ alone_of (is_some step.minus) step.mono) start steps

abbrev pub made_of : List RawStep → RawIx
made_of steps = roll-RawIx (record { steps = steps })

pub made_notes : (spot : Spot) (scope : Scope) (steps : List RawStep) → ix_notes spot scope (made_of steps) ≡ flat_map (step_notes spot scope) steps
made_notes spot scope steps = ix_notes_are spot scope (made_of steps) ∙ (λ i. flat_map (step_notes spot scope) (out-roll-RawIx (record { steps = steps }) i).steps)

pub made_monomials : (steps : List RawStep) → ix_monomials (made_of steps) ≡ flat_map step_monomials steps
made_monomials steps = ix_monomials_are (made_of steps) ∙ (λ i. flat_map step_monomials (out-roll-RawIx (record { steps = steps }) i).steps)

-- the constant before it is wrapped
made_constant : (steps : List RawStep) → constant_of (made_of steps) ≡ total_of (pos 0) steps
made_constant steps = λ i. total_of (pos 0) (out-roll-RawIx (record { steps = steps }) i).steps

pub made_term : (texts : List (List ℕ)) (names : Names) (scope : Scope) (steps : List RawStep)
    → term_of texts names scope (made_of steps) ≡ roll-Term (record { monos = flat_map (step_monos texts names scope) steps; constant = wrap (total_of (pos 0) steps) })
made_term texts names scope steps =
    term_is texts names scope (made_of steps)
    ∙ (λ i. roll-Term (record { monos = flat_map (step_monos texts names scope) (out-roll-RawIx (record { steps = steps }) i).steps; constant = wrap (made_constant steps i) }))

-- ---- items, which monomials are printed as

-- a sign and the words behind it, what they give as monomials and as a number, and their facts
pub record Item : Type 0 where
  pub minus : Bool
  pub words : List (List ℕ)
  pub given : List Mono
  pub number : ℤ
  pub facts : List Fact
  pub count : ℕ  -- at most so many monomials

-- what items give one behind another
pub record Total : Type 0 where
  pub words : List (List ℕ)
  pub given : List Mono
  pub number : ℤ
  pub facts : List Fact

abbrev pub first_added : Item → Total → Total
first_added x rest = record { words = (sign_word x.minus ∷ x.words) ++ rest.words; given = x.given ++ rest.given; number = x.number +ℤ rest.number; facts = x.facts ++ rest.facts }

abbrev pub total : List Item → Total
total [] = record { words = []; given = []; number = pos 0; facts = [] }
total (x ∷ xs) = first_added x (total xs)

abbrev pub count_of : List Item → ℕ
count_of [] = 0
count_of (x ∷ xs) = x.count + count_of xs

abbrev pub both_totals : Total → Total → Total
both_totals t u = record { words = t.words ++ u.words; given = t.given ++ u.given; number = t.number +ℤ u.number; facts = t.facts ++ u.facts }

pub total_append : (xs ys : List Item) → total (xs ++ ys) ≡ both_totals (total xs) (total ys)
total_append [] ys = λ i. record { words = (total ys).words; given = (total ys).given; number = nothing_added i; facts = (total ys).facts } where
  nothing_added : (total ys).number ≡ pos 0 +ℤ (total ys).number
  nothing_added = omega (arith, ints)
total_append (x ∷ xs) ys =
    let t = total xs in
    let u = total ys in
    let sum : x.number +ℤ (t.number +ℤ u.number) ≡ (x.number +ℤ t.number) +ℤ u.number = omega (arith, ints) in
    ap (first_added x) (total_append xs ys)
    ∙ (λ i. record {
      words = sym (append_assoc (sign_word x.minus ∷ x.words) t.words u.words) i;
      given = sym (append_assoc x.given t.given u.given) i;
      number = sum i;
      facts = sym (append_assoc x.facts t.facts u.facts) i;
    })

pub count_append : (xs ys : List Item) → count_of (xs ++ ys) ≡ count_of xs + count_of ys
count_append [] ys = omega arith
count_append (x ∷ xs) ys = omega (arith, count_append xs ys)

module _ (c : Context) (spot : Spot) (a : Syntax RawAtom) where
  abbrev monos : Bool → RawMono → List Mono
  monos minus mono = monos_of c.written (names_in c) c.again minus mono

  -- the words of the item are a monomial that gives this
  pub record IsRead (x : Item) (at : ℕ) : Type 0 where
    pub text : AreText (syntax.mono a).shape.grammar x.words at
    pub gives : monos x.minus ((syntax.mono a).make text.derivation) ≡ x.given
    pub total : alone_of x.minus ((syntax.mono a).make text.derivation) ≡ x.number
    pub same : facts_of c.written (mono_notes spot c.again ((syntax.mono a).make text.derivation)) ≡ x.facts
    pub few : length (mono_monomials ((syntax.mono a).make text.derivation)) ≤ x.count

  abbrev pub IsReadable : Item → Type 0
  IsReadable x = (at : ℕ) → Holds c.written at x.words → IsRead x at

  -- the words are further monomials, which give this
  record AreSteps (t : Total) (count at : ℕ) : Type 0 where
    text : AreText (Many (syntax.next_step a).shape.grammar) t.words at
    gives : flat_map (step_monos c.written (names_in c) c.again) (map (syntax.next_step a).make text.derivation) ≡ t.given
    total : (start : ℤ) → total_of start (map (syntax.next_step a).make text.derivation) ≡ start +ℤ t.number
    same : facts_of c.written (flat_map (step_notes spot c.again) (map (syntax.next_step a).make text.derivation)) ≡ t.facts
    few : length (flat_map step_monomials (map (syntax.next_step a).make text.derivation)) ≤ count

  steps_read : (xs : List Item) → AllByRecursion IsReadable xs → (at : ℕ) → Holds c.written at (total xs).words → AreSteps (total xs) (count_of xs) at
  unfolding syntax.next_step
  steps_read [] each at holds = record { text = none_more at; gives = refl; total = λ start. omega (arith, ints); same = refl; few = omega arith }
  steps_read (x ∷ xs) each at holds =
      let stands = holds_both c.written at (sign_word x.minus ∷ x.words) (total xs).words holds in
      let front = sign_written x.minus at in
      let one = each.0 (at + 1) stands.0.1 in
      let behind = steps_read xs each.1 (at + length (sign_word x.minus ∷ x.words)) stands.1 in
      let mono = (syntax.mono a).make one.text.derivation in
      let others = map (syntax.next_step a).make behind.text.derivation in
      record {
        text = one_more (behind_part front.text one.text) behind.text;
        gives = λ i. (ap (λ b. monos b mono) front.same ∙ one.gives) i ++ behind.gives i;
        total = λ start. behind.total (start +ℤ alone_of (is_some (syntax.sign.make front.text.derivation)) mono) ∙ omega (arith, ints, ap (λ b. alone_of b mono) front.same ∙ one.total);
        same = facts_append c.written (mono_notes spot c.again mono) (flat_map (step_notes spot c.again) others) ∙ (λ i. one.same i ++ behind.same i);
        few = omega (arith, length-append (mono_monomials mono) (flat_map step_monomials others), one.few, behind.few);
      }

  -- the words of a sum
  abbrev pub row_words : Item → Total → List (List ℕ)
  row_words x rest = (lead_words x.minus ++ x.words) ++ rest.words

  -- a sum of a first item and further ones means the term of what they give
  pub row_read : (x : Item) (xs : List Item) → IsReadable x → AllByRecursion IsReadable xs → (at : ℕ) → Holds c.written at (row_words x (total xs))
      → IsWrittenInside c (syntax.sum a) (sum_as c spot) (roll-Term (record { monos = x.given ++ (total xs).given; constant = wrap (x.number +ℤ (total xs).number) })) (row_words x (total xs)) (x.facts ++ (total xs).facts) (x.count + count_of xs) at
  unfolding syntax.sum syntax.first_step
  row_read x xs readable each at holds =
      let stands = holds_both c.written at (lead_words x.minus ++ x.words) (total xs).words holds in
      let front = lead_written x.minus at in
      let one = readable (at + length (lead_words x.minus)) (holds_both c.written at (lead_words x.minus) x.words stands.0).1 in
      let behind = steps_read xs each (at + length (lead_words x.minus ++ x.words)) stands.1 in
      let mono = (syntax.mono a).make one.text.derivation in
      let first = behind_part front.text one.text in
      let others = map (syntax.next_step a).make behind.text.derivation in
      let steps = (syntax.first_step a).make first.derivation ∷ others in
      let one_total = ap (λ b. alone_of b mono) front.same ∙ one.total in
      let sum : total_of (pos 0) steps ≡ x.number +ℤ (total xs).number = behind.total _ ∙ omega (arith, ints, one_total) in
      record {
        text = behind_part first behind.text;
        means = made_term c.written (names_in c) c.again steps
            ∙ (λ i. roll-Term (record { monos = (ap (λ b. monos b mono) front.same ∙ one.gives) i ++ behind.gives i; constant = wrap (sum i) }));
        same = ap (facts_of c.written) (made_notes spot c.again steps) ∙ facts_append c.written (mono_notes spot c.again mono) (flat_map (step_notes spot c.again) others) ∙ (λ i. one.same i ++ behind.same i);
        few = omega (arith, ap length (made_monomials steps), length-append (mono_monomials mono) (flat_map step_monomials others), one.few, behind.few);
      }
