-- What is written again where its parts are: words in front and behind, two parts, choices, lists, and what is made of a part.
use Rattle.spf_kernel.proofs.Common.{◌≡◌, ℕ, ◌+◌, Bool, true, false, ◌&&◌, List, [], ◌∷◌, ◌++◌, length, map, flat_map, refl, sym, subst, inl, inr, same_kind, Production, ◌<$>◌, ◌or◌, token, many, and_more, Token, Kind, split_each, Holds, holds_both, word_alone, behind_word, behind_part, on_left, on_right, none_more, one_more, in_words, Note, facts_of, text_of, ◌>>=◌, production, last, behind, separated, Leaves, Syntax}
use Rattle.spf_kernel.specs.printing.Printed as printed
use Rattle.spf_kernel.proofs.Adding.{more}
use Rattle.spf_kernel.proofs.NamedUses.{IsFitting}
use Rattle.spf_kernel.proofs.Written.{Source, Meaning, AreWritten, AreFit, IsFixedWord, name_written, same_append}
use Rattle.spf_kernel.proofs.WrittenSigns.{IsRead}

-- with other words
abbrev pub worded : {R A : Type 0} → Meaning R A → (A → List (List ℕ)) → Meaning R A
worded of words = record { means = of.means; means_again = of.means_again; notes = of.notes; notes_again = of.notes_again; words = words }

-- of a part behind another, of which its variables may be
pub record Behind (R S A B : Type 0) : Type 0 where
  pub means : R → S → B
  pub means_again : R → S → B
  pub notes : R → S → List Note
  pub notes_again : R → S → List Note
  pub words : A → B → List (List ℕ)

-- behind this part, and on the other side that one
abbrev pub behind_these : {R S A B : Type 0} → Behind R S A B → R → R → A → Meaning S B
behind_these more r again a = record { means = more.means r; means_again = more.means_again again; notes = more.notes r; notes_again = more.notes_again again; words = more.words a }

abbrev pub pair_with : {R S A B : Type 0} → Meaning R A → Behind R S A B → Meaning (R × S) (A × B)
pair_with of more = record {
  means = λ x. (of.means x.0, more.means x.0 x.1);
  means_again = λ x. (of.means_again x.0, more.means_again x.0 x.1);
  notes = λ x. of.notes x.0 ++ more.notes x.0 x.1;
  notes_again = λ x. of.notes_again x.0 ++ more.notes_again x.0 x.1;
  words = λ x. of.words x.0 ++ more.words x.0 x.1;
}

-- of a part behind whichever other
abbrev pub anywhere : {R S A B : Type 0} → Meaning S B → Behind R S A B
anywhere more = record { means = λ r. more.means; means_again = λ r. more.means_again; notes = λ r. more.notes; notes_again = λ r. more.notes_again; words = λ a. more.words }

abbrev pub pair_of : {R S A B : Type 0} → Meaning R A → Meaning S B → Meaning (R × S) (A × B)
pair_of of more = pair_with of (anywhere more)

-- of each part of a list
abbrev pub each_of : {R A : Type 0} → Meaning R A → (List A → List (List ℕ)) → Meaning (List R) (List A)
each_of of words = record { means = map of.means; means_again = map of.means_again; notes = flat_map of.notes; notes_again = flat_map of.notes_again; words = words }

-- of a sign, which has no notes
abbrev pub sign_as : {A : Type 0} → (A → List (List ℕ)) → Meaning A A
sign_as words = record { means = λ x. x; means_again = λ x. x; notes = λ r. []; notes_again = λ r. []; words = words }

-- of a name, by its text
abbrev pub name_as : Source → Meaning Token (List ℕ)
name_as s = record { means = text_of s.texts; means_again = text_of s.written; notes = λ r. []; notes_again = λ r. []; words = λ word. word ∷ [] }

-- the first part, and the further ones
abbrev pub in_a_row : {A : Type 0} → (A → List (List ℕ)) → (A → List (List ℕ)) → List A → List (List ℕ)
in_a_row first further [] = []
in_a_row first further (x ∷ xs) = first x ++ flat_map further xs

-- a text of one production and then of the other
abbrev pub both : {A B : Type 0} {one two : Bool} → Production same_kind one A → Production same_kind two B → Production same_kind (one && two) (A × B)
both p q = production (p >>= (λ a. last q (λ b. (a, b))))

-- a text of the production in front of a token of the kind
abbrev pub ended : {A : Type 0} {empty : Bool} → Production same_kind empty A → Kind → Production same_kind (empty && false) A
ended p k = production (p >>= (λ a. last (token k) (λ _. a)))

-- where the parts of `f r` are written again as those of r are, `f r` is
pub record Follows (s : Source) {R S A B : Type 0} (of : Meaning R A) (all : Meaning S B) (f : R → S) : Type 0 where
  pub fit : (r : R) → AreFit s (all.notes (f r)) → AreFit s (of.notes r)
  pub words : (r : R) → AreFit s (all.notes (f r)) → all.words (all.means (f r)) ≡ of.words (of.means r)
  pub means : (r again : R) → of.means_again again ≡ of.means r → all.means_again (f again) ≡ all.means (f r)
  pub same : (r again : R) → of.means_again again ≡ of.means r → facts_of s.written (of.notes_again again) ≡ facts_of s.texts (of.notes r)
      → facts_of s.written (all.notes_again (f again)) ≡ facts_of s.texts (all.notes (f r))

module _ {s : Source} where
  pub made_written : {R S A B : Type 0} {empty : Bool} (p : Production same_kind empty R) (of : Meaning R A) (all : Meaning S B) (f : R → S) → Follows s of all f
      → AreWritten s p of → AreWritten s (f <$> p) all
  made_written p of all f follows one d leaves fit at holds =
      let raw = p.make d in
      let words = follows.words raw fit in
      let is = one d leaves (follows.fit raw fit) at (subst (Holds s.written at) words holds) in
      record {
        text = in_words (sym words) is.text;
        means = follows.means raw (p.make is.text.derivation) is.means;
        same = follows.same raw (p.make is.text.derivation) is.means is.same;
      }

  pub then_written : {R S A B : Type 0} {one two : Bool} (p : Production same_kind one R) (q : Production same_kind two S) (of : Meaning R A) (more : Behind R S A B)
      → AreWritten s p of → ((r again : R) → of.means_again again ≡ of.means r → AreWritten s q (behind_these more r again (of.means r))) → AreWritten s (both p q) (pair_with of more)
  unfolding Leaves
  then_written p q of more first second (d, e) leaves fit at holds =
      let r = p.make d in
      let begun = of.words (of.means r) in
      let parts = split_each (IsFitting s.texts s.facts) (of.notes r) (more.notes r (q.make e)) fit in
      let stands = holds_both s.written at begun (more.words (of.means r) (more.means r (q.make e))) holds in
      let front = first d leaves.0 parts.0 at stands.0 in
      let again = p.make front.text.derivation in
      let back = second r again front.means e leaves.1 parts.1 (at + length begun) stands.1 in
      record { text = behind_part front.text back.text; means = λ i. (front.means i, back.means i); same = same_append s.texts s.written (of.notes_again again) (more.notes_again again (q.make back.text.derivation)) (of.notes r) (more.notes r (q.make e)) front.same back.same }

  pub both_written : {R S A B : Type 0} {one two : Bool} (p : Production same_kind one R) (q : Production same_kind two S) (of : Meaning R A) (more : Meaning S B)
      → AreWritten s p of → AreWritten s q more → AreWritten s (both p q) (pair_of of more)
  both_written p q of more first second = then_written p q of (anywhere more) first (λ r again same. second)

  -- with a word of the grammar in front
  pub led_written : {R A : Type 0} {empty : Bool} {k : Kind} {word : List ℕ} (p : Production same_kind empty R) (of : Meaning R A) → IsFixedWord k word → AreWritten s p of
      → AreWritten s (behind k p) (worded of (λ x. word ∷ of.words x))
  unfolding Leaves
  led_written p of fixed one (led, d) leaves fit at holds =
      let behind = one d leaves.1 fit (at + 1) holds.1 in
      record { text = behind_word at fixed behind.text; means = behind.means; same = behind.same }

  -- with a word of the grammar behind
  pub ended_written : {R A : Type 0} {empty : Bool} {k : Kind} {word : List ℕ} (p : Production same_kind empty R) (of : Meaning R A) → IsFixedWord k word → AreWritten s p of
      → AreWritten s (ended p k) (worded of (λ x. of.words x ++ word ∷ []))
  unfolding Leaves
  ended_written {word = word} p of fixed one (d, end) leaves fit at holds =
      let words = of.words (of.means (p.make d)) in
      let front = one d leaves.0 fit at (holds_both s.written at words (word ∷ []) holds).0 in
      record { text = behind_part front.text (word_alone (at + length words) fixed); means = front.means; same = front.same }

  -- one production or the other
  pub either_written : {R A : Type 0} {empty : Bool} (p : Syntax R) (q : Production same_kind empty R) (of : Meaning R A) → AreWritten s p of → AreWritten s q of → AreWritten s (p or q) of
  unfolding Leaves
  either_written p q of left right (inl d) leaves fit at holds =
      let is = left d leaves fit at holds in
      record { text = on_left is.text; means = is.means; same = is.same }
  either_written p q of left right (inr d) leaves fit at holds =
      let is = right d leaves fit at holds in
      record { text = on_right is.text; means = is.means; same = is.same }

  -- ---- lists

  pub many_written : {R A : Type 0} (p : Syntax R) (of : Meaning R A) → AreWritten s p of → AreWritten s (many p) (each_of of (flat_map of.words))
  unfolding Leaves
  many_written p of one [] leaves fit at holds = record { text = none_more at; means = refl; same = refl }
  many_written p of one (d ∷ ds) leaves fit at holds =
      let raw = p.make d in
      let begun = of.words (of.means raw) in
      let parts = split_each (IsFitting s.texts s.facts) (of.notes raw) (flat_map of.notes (map p.make ds)) fit in
      let stands = holds_both s.written at begun (flat_map of.words (map of.means (map p.make ds))) holds in
      let first = one d leaves.0 parts.0 at stands.0 in
      let others = many_written p of one ds leaves.1 parts.1 (at + length begun) stands.1 in
      record {
        text = one_more first.text others.text;
        means = λ i. first.means i ∷ others.means i;
        same = same_append s.texts s.written (of.notes_again (p.make first.text.derivation)) (flat_map of.notes_again (map p.make others.text.derivation)) (of.notes raw) (flat_map of.notes (map p.make ds)) first.same others.same;
      }

  -- a text of one production, and then texts of another
  pub row_written : {R A : Type 0} (p q : Syntax R) (of : Meaning R A) (further : A → List (List ℕ)) → AreWritten s p of → AreWritten s q (worded of further)
      → AreWritten s (and_more p q) (each_of of (in_a_row of.words further))
  unfolding Leaves
  row_written p q of further one others d leaves fit at holds =
      let is = both_written p (many q) of (each_of of (flat_map further)) one (many_written q (worded of further) others) d leaves fit at holds in
      record { text = is.text; means = λ i. (is.means i).0 ∷ (is.means i).1; same = is.same }

  -- with a word of the grammar between two
  pub separated_written : {R A : Type 0} {k : Kind} {word : List ℕ} (p : Syntax R) (of : Meaning R A) → IsFixedWord k word → AreWritten s p of
      → AreWritten s (separated k p) (each_of of (printed.separated word of.words))
  separated_written {k = k} {word} p of fixed one d leaves fit at holds =
      let is = row_written p (behind k p) of (λ x. word ∷ of.words x) one (led_written p of fixed one) d leaves fit at holds in
      record { text = is.text; means = is.means; same = is.same }

  -- ---- tokens

  pub sign_written : {A : Type 0} {empty : Bool} (p : Production same_kind empty A) (words : A → List (List ℕ)) → ((a : A) (at : ℕ) → IsRead p (λ x. x) a (words a) at) → AreWritten s p (sign_as words)
  sign_written p words reads d leaves fit at holds =
      let is = reads (p.make d) at in
      record { text = is.text; means = is.same; same = refl }

  pub any_name_written : AreWritten s (token Kind.Name) (name_as s)
  unfolding Leaves
  any_name_written name leaf fit at holds =
      let is = name_written s.texts s.written name (text_of s.texts name.token) at leaf refl holds.0 in
      record { text = word_alone at is.fixed; means = is.same; same = refl }

-- ---- parts that are written again, put together

pub record Written (s : Source) (empty : Bool) (R A : Type 0) : Type 0 where
  pub form : Production same_kind empty R
  pub of : Meaning R A
  pub again : AreWritten s form of

module _ {s : Source} where
  infixr 10 ◌&◌
  abbrev pub ◌&◌ : {R S A B : Type 0} {one two : Bool} → Written s one R A → Written s two S B → Written s (one && two) (R × S) (A × B)
  x & y = record { form = both x.form y.form; of = pair_of x.of y.of; again = both_written x.form y.form x.of y.of x.again y.again }

  -- a part, and one behind it of which its variables may be
  abbrev pub then_by : {R S A B : Type 0} {one two : Bool} (x : Written s one R A) (q : Production same_kind two S) (more : Behind R S A B)
      → ((r again : R) → x.of.means_again again ≡ x.of.means r → AreWritten s q (behind_these more r again (x.of.means r))) → Written s (one && two) (R × S) (A × B)
  then_by x q more each = record { form = both x.form q; of = pair_with x.of more; again = then_written x.form q x.of more x.again each }

  abbrev pub led_by : {R A : Type 0} {empty : Bool} {k : Kind} {word : List ℕ} → IsFixedWord k word → Written s empty R A → Written s false R A
  led_by {k = k} {word} fixed x = record { form = behind k x.form; of = worded x.of (λ a. word ∷ x.of.words a); again = led_written x.form x.of fixed x.again }

  abbrev pub ended_by : {R A : Type 0} {empty : Bool} {k : Kind} {word : List ℕ} → IsFixedWord k word → Written s empty R A → Written s (empty && false) R A
  ended_by {k = k} {word} fixed x = record { form = ended x.form k; of = worded x.of (λ a. x.of.words a ++ word ∷ []); again = ended_written x.form x.of fixed x.again }

  abbrev pub enclosed_by : {R A : Type 0} {empty : Bool} {k l : Kind} {first last : List ℕ} → IsFixedWord k first → IsFixedWord l last → Written s empty R A → Written s false R A
  enclosed_by opening closing x = led_by opening (ended_by closing x)

  abbrev pub repeated : {R A : Type 0} → Written s false R A → Written s true (List R) (List A)
  repeated x = record { form = many x.form; of = each_of x.of (flat_map x.of.words); again = many_written x.form x.of x.again }

  abbrev pub parted_by : {R A : Type 0} {k : Kind} {word : List ℕ} → IsFixedWord k word → Written s false R A → Written s false (List R) (List A)
  parted_by {k = k} {word} fixed x = record { form = separated k x.form; of = each_of x.of (printed.separated word x.of.words); again = separated_written x.form x.of fixed x.again }

  abbrev pub a_sign : {A : Type 0} {empty : Bool} (p : Production same_kind empty A) (words : A → List (List ℕ)) → ((a : A) (at : ℕ) → IsRead p (λ x. x) a (words a) at) → Written s empty A A
  a_sign p words reads = record { form = p; of = sign_as words; again = sign_written p words reads }

  abbrev pub a_name : Written s false Token (List ℕ)
  a_name = record { form = token Kind.Name; of = name_as s; again = any_name_written }

  -- what is made of a part
  pub made_of : {R S A B : Type 0} {empty : Bool} (x : Written s empty R A) (all : Meaning S B) (f : R → S) → Follows s x.of all f → AreWritten s (f <$> x.form) all
  made_of x all f follows = made_written x.form x.of all f follows x.again
