-- The printed words of a part of a tree, as tokens of the printed text: they spell the part again, with the same facts.
use Rattle.spf_kernel.proofs.Common.{◌≡◌, ℕ, Bool, ◌≤◌, ◌^◌, List, [], ◌++◌, get_or, refl, ap, sym, ◌∙◌, map-append, Derivation, Grammar, bundle_words, same_kind, Lexed, Production, Token, Kind, Holds, in_words, Note, Scope, TreeNames, Fact, fact_of, facts_of, text_of, variables_in, Names, names_of, lexed, IsFixed, Leaves, IsText}
use Rattle.spf_kernel.proofs.Adding.{more}
use Rattle.spf_kernel.proofs.NamedUses.{AreFitting}

-- a token with this number and text
abbrev pub token_of : ℕ → List ℕ → Token
token_of at text = (lexed bundle_words at text).token

-- a word that is a token of this kind
abbrev pub IsFixedWord : Kind → List ℕ → Type 0
IsFixedWord = IsFixed bundle_words

-- words that are a text of the grammar
abbrev pub AreText : Grammar Kind → List (List ℕ) → ℕ → Type 0
AreText = IsText bundle_words

-- a token of a text, where the grammar wants one of this kind: a name has the text of a name, and the value isn't too large
pub record IsLeaf (texts : List (List ℕ)) (wanted : Kind) (leaf : Lexed Kind) : Type 0 where
  pub name : wanted ≡ Kind.Name → IsFixedWord Kind.Name (text_of texts leaf.token)
  pub value : leaf.token.value ≤ 2 ^ 63

-- the names by which numbers are printed
abbrev pub shown : Names → TreeNames
shown names = record { params = names.params; tables = names.tables; arrays = names.data_arrays }

-- a text, its printed words, and all facts of the text
pub record Source : Type 0 where
  pub texts : List (List ℕ)
  pub written : List (List ℕ)
  pub facts : List Fact

-- with the variables that are in scope, which have the same names again
pub record Context : Type 0 where
  pub texts : List (List ℕ)
  pub written : List (List ℕ)
  pub facts : List Fact
  pub scope : Scope
  pub again : Scope
  pub scoped : variables_in written again ≡ variables_in texts scope

abbrev pub source : Context → Source
source c = record { texts = c.texts; written = c.written; facts = c.facts }

abbrev pub names_in : Context → Names
names_in c = names_of c.facts

abbrev pub vars_in : Context → List (List ℕ)
vars_in c = variables_in c.texts c.scope

abbrev pub shown_in : Context → TreeNames
shown_in c = shown (names_in c)

-- what a raw tree of a text means and tells, and what one of the written words does
pub record Meaning (R A : Type 0) : Type 0 where
  pub means : R → A
  pub means_again : R → A
  pub notes : R → List Note
  pub notes_again : R → List Note
  pub words : A → List (List ℕ)

-- of what is resolved with variables in scope, and of what is not
abbrev pub in_scope : {R A : Type 0} (c : Context) → (List (List ℕ) → Names → Scope → R → A) → (Scope → R → List Note) → (TreeNames → List (List ℕ) → A → List (List ℕ)) → Meaning R A
in_scope c of notes words = record {
  means = of c.texts (names_in c) c.scope;
  means_again = of c.written (names_in c) c.again;
  notes = notes c.scope;
  notes_again = notes c.again;
  words = words (shown_in c) (vars_in c);
}

abbrev pub in_source : {R A : Type 0} (s : Source) → (List (List ℕ) → Names → R → A) → (R → List Note) → (TreeNames → A → List (List ℕ)) → Meaning R A
in_source s of notes words = record {
  means = of s.texts (names_of s.facts);
  means_again = of s.written (names_of s.facts);
  notes = notes;
  notes_again = notes;
  words = words (shown (names_of s.facts));
}

-- the notes are fit to be written again
abbrev pub AreFit : Source → List Note → Type 0
AreFit s notes = AreFitting s.texts s.facts notes

module _ (s : Source) {R A : Type 0} where
  -- the words of what this raw tree means are a text that means it again, and whose facts are its facts
  pub record IsWritten (g : Grammar Kind) (make : Derivation (Lexed Kind) g → R) (of : Meaning R A) (raw : R) (at : ℕ) : Type 0 where
    pub text : AreText g (of.words (of.means raw)) at
    pub means : of.means_again (make text.derivation) ≡ of.means raw
    pub same : facts_of s.written (of.notes_again (make text.derivation)) ≡ facts_of s.texts (of.notes raw)

  -- each text of the production whose notes are fit is written again, where the words that it is printed as stand
  abbrev pub AreWritten : {empty : Bool} → Production same_kind empty R → Meaning R A → Type 0
  AreWritten p of =
      (d : Derivation (Lexed Kind) p.shape.grammar) → Leaves (IsLeaf s.texts) p.shape.grammar d → AreFit s (of.notes (p.make d)) → (at : ℕ)
      → Holds s.written at (of.words (of.means (p.make d))) → IsWritten p.shape.grammar p.make of (p.make d) at

-- words that, put together otherwise, are a text that means it again
pub written_by : {s : Source} {R A : Type 0} {g : Grammar Kind} {make : Derivation (Lexed Kind) g → R} {of : Meaning R A} {raw : R} {line : List (List ℕ)} {at : ℕ} → of.words (of.means raw) ≡ line
    → (text : AreText g line at) → of.means_again (make text.derivation) ≡ of.means raw → facts_of s.written (of.notes_again (make text.derivation)) ≡ facts_of s.texts (of.notes raw) → IsWritten s g make of raw at
written_by same_words text means same = record { text = in_words (sym same_words) text; means = means; same = same }

-- ---- names

-- the token made of a word that stands there has that word as its text
pub text_here : (texts : List (List ℕ)) (at : ℕ) (word : List ℕ) → get_or texts at [] ≡ word → text_of texts (token_of at word) ≡ word
unfolding lexed
text_here texts at word there = there

-- the word is a name, and as a token it has the text that this name has in the source
pub record IsSameName (texts written : List (List ℕ)) (name : Token) (word : List ℕ) (at : ℕ) : Type 0 where
  pub fixed : IsFixedWord Kind.Name word
  pub same : text_of written (token_of at word) ≡ text_of texts name

pub name_written : (texts written : List (List ℕ)) (name : Lexed Kind) (word : List ℕ) (at : ℕ) → IsLeaf texts Kind.Name name → word ≡ text_of texts name.token → get_or written at [] ≡ word
    → IsSameName texts written name.token word at
name_written texts written name word at leaf is there = record {
  fixed = rw is (leaf.name refl);
  same = text_here written at word there ∙ is;
}

-- ---- facts

pub facts_append : (texts : List (List ℕ)) (xs ys : List Note) → facts_of texts (xs ++ ys) ≡ facts_of texts xs ++ facts_of texts ys
facts_append texts xs ys = map-append (fact_of texts) xs ys

-- of parts one behind another
pub same_append : (texts written : List (List ℕ)) (xs ys others more : List Note) → facts_of written xs ≡ facts_of texts others → facts_of written ys ≡ facts_of texts more
    → facts_of written (xs ++ ys) ≡ facts_of texts (others ++ more)
same_append texts written xs ys others more first second = facts_append written xs ys ∙ ((λ i. first i ++ second i) ∙ sym (facts_append texts others more))

-- told by equal notes
pub same_by : (texts written : List (List ℕ)) {xs ys others more : List Note} → xs ≡ ys → others ≡ more → facts_of written ys ≡ facts_of texts more → facts_of written xs ≡ facts_of texts others
same_by texts written e f rest = ap (facts_of written) e ∙ rest ∙ sym (ap (facts_of texts) f)
