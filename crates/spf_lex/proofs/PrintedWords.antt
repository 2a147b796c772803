-- Printed words as tokens: where they stand, and how the words of the parts of a text are a text again.
use Rattle.std.proofs.Common.{◌≡◌, ℕ, ◌+◌, List, [], ◌∷◌, ◌++◌, length, map, flat_map, get_or, refl, ap, subst, inl, inr, arith, append_assoc, length-append, ◌∙◌}
use Rattle.std.specs.Prelude.{⊤}
use Rattle.std.specs.List.{AllByRecursion}
use Rattle.std.proofs.Math.Seq.{get_or-append_seam}
use Rattle.spf_lex.specs.Derivation.{Derivation, Spells}
use Rattle.spf_lex.specs.Grammar.{Grammar, Nothing, One, Then, Or, Many}
use Rattle.spf_lex.specs.Language.{Language, Lexed, kind_of, lexed, numbered}
use Rattle.spf_lex.specs.Tokens.{IsTokenText}
use Rattle.spf_lex.proofs.FixedWords.{IsFixed}
use Rattle.spf_lex.proofs.Leaves.{join_each}

-- ---- where words stand

-- these words stand among the texts, from number `at` on
abbrev pub Holds : List (List ℕ) → ℕ → List (List ℕ) → Type 0
Holds texts at [] = ⊤
Holds texts at (word ∷ words) = (get_or texts at [] ≡ word) × Holds texts (at + 1) words

-- words that stand one behind another stand each
pub holds_both : (texts : List (List ℕ)) (at : ℕ) (front back : List (List ℕ)) → Holds texts at (front ++ back) → Holds texts at front × Holds texts (at + length front) back
holds_both texts at [] back holds = (tt, subst (λ n. Holds texts n back) (omega arith) holds)
holds_both texts at (word ∷ front) back holds =
    let parts = holds_both texts (at + 1) front back holds.1 in
    ((holds.0, parts.0), subst (λ n. Holds texts n back) (omega arith) parts.1)

-- all words stand among themselves
pub holds_all : (front words : List (List ℕ)) → Holds (front ++ words) (length front) words
holds_all front [] = tt
holds_all front (word ∷ words) =
    let behind = holds_all (front ++ word ∷ []) words in
    let one : length (front ++ word ∷ []) ≡ length front + 1 = omega (arith, length-append front (word ∷ [])) in
    (get_or-append_seam front word words [], subst (λ (texts : List (List ℕ)). Holds texts (length front + 1) words) (append_assoc front (word ∷ []) words) (subst (λ n. Holds ((front ++ word ∷ []) ++ words) n words) one behind))

-- the words between two others stand where they do
pub stands_inside : (texts : List (List ℕ)) (at : ℕ) (word : List ℕ) (words : List (List ℕ)) (last : List ℕ) → Holds texts at (word ∷ (words ++ last ∷ [])) → Holds texts (at + 1) words
stands_inside texts at word words last holds = (holds_both texts (at + 1) words (last ∷ []) holds.1).0

-- ---- what they spell

-- the words, as tokens from number `at` on, are a text of the grammar, and each is a token's text
pub record IsText {K : Type 0} (language : Language K) (g : Grammar K) (words : List (List ℕ)) (at : ℕ) : Type 0 where
  pub derivation : Derivation (Lexed K) g
  pub spells : Spells kind_of g (numbered language at words) derivation
  pub legible : AllByRecursion IsTokenText words

module _ {K : Type 0} (language : Language K) where
  -- the tokens of texts behind others begin behind the numbers of those
  pub numbered_append : (at : ℕ) (front back : List (List ℕ)) → numbered language at (front ++ back) ≡ numbered language at front ++ numbered language (at + length front) back
  numbered_append at [] back = ap (λ n. numbered language n back) (omega arith)
  numbered_append at (word ∷ front) back =
      ap (λ (tokens : List (Lexed K)). lexed language at word ∷ tokens) (numbered_append (at + 1) front back)
      ∙ ap (λ n. lexed language at word ∷ numbered language (at + 1) front ++ numbered language n back) (omega arith)

  pub one_spelled : (k : K) (at : ℕ) (word : List ℕ) → IsFixed language k word → Spells kind_of (One k) (numbered language at (word ∷ [])) (lexed language at word)
  unfolding Spells lexed
  one_spelled k at word fixed = (refl, fixed.is)

  pub nothing_spelled : (at : ℕ) → Spells kind_of Nothing (numbered language at []) tt
  unfolding Spells
  nothing_spelled at = refl

  pub left_spelled : (g h : Grammar K) (tokens : List (Lexed K)) (d : Derivation (Lexed K) g) → Spells kind_of g tokens d → Spells kind_of (Or g h) tokens (inl d)
  unfolding Spells
  left_spelled g h tokens d spells = spells

  pub right_spelled : (g h : Grammar K) (tokens : List (Lexed K)) (d : Derivation (Lexed K) h) → Spells kind_of h tokens d → Spells kind_of (Or g h) tokens (inr d)
  unfolding Spells
  right_spelled g h tokens d spells = spells

  pub then_spelled : (g h : Grammar K) (at : ℕ) (front back : List (List ℕ)) (d : Derivation (Lexed K) g) (e : Derivation (Lexed K) h) → Spells kind_of g (numbered language at front) d
      → Spells kind_of h (numbered language (at + length front) back) e → Spells kind_of (Then g h) (numbered language at (front ++ back)) (d, e)
  unfolding Spells
  then_spelled g h at front back d e first second = (numbered language at front, numbered language (at + length front) back, numbered_append at front back, first, second)

  pub word_then_spelled : (k : K) (h : Grammar K) (at : ℕ) (word : List ℕ) (back : List (List ℕ)) (e : Derivation (Lexed K) h) → IsFixed language k word
      → Spells kind_of h (numbered language (at + 1) back) e → Spells kind_of (Then (One k) h) (numbered language at (word ∷ back)) (lexed language at word, e)
  unfolding Spells lexed
  word_then_spelled k h at word back e fixed second = (lexed language at word ∷ [], numbered language (at + 1) back, refl, (refl, fixed.is), second)

  pub none_spelled : (g : Grammar K) (at : ℕ) → Spells kind_of (Many g) (numbered language at []) []
  unfolding Spells
  none_spelled g at = refl

  pub more_spelled : (g : Grammar K) (at : ℕ) (front back : List (List ℕ)) (d : Derivation (Lexed K) g) (ds : List (Derivation (Lexed K) g)) → Spells kind_of g (numbered language at front) d
      → Spells kind_of (Many g) (numbered language (at + length front) back) ds → Spells kind_of (Many g) (numbered language at (front ++ back)) (d ∷ ds)
  unfolding Spells
  more_spelled g at front back d ds first others = (numbered language at front, numbered language (at + length front) back, numbered_append at front back, first, others)

module _ {K : Type 0} {language : Language K} where
  -- ---- one behind another

  abbrev pub no_words : (at : ℕ) → IsText language Nothing [] at
  no_words at = record { derivation = tt; spells = nothing_spelled language at; legible = tt }

  abbrev pub word_alone : {k : K} {word : List ℕ} (at : ℕ) → IsFixed language k word → IsText language (One k) (word ∷ []) at
  word_alone {k} {word} at fixed = record { derivation = lexed language at word; spells = one_spelled language k at word fixed; legible = (fixed.token, tt) }

  abbrev pub behind_word : {k : K} {word : List ℕ} {h : Grammar K} {back : List (List ℕ)} (at : ℕ) → IsFixed language k word → IsText language h back (at + 1) → IsText language (Then (One k) h) (word ∷ back) at
  behind_word {k} {word} {h} {back} at fixed behind = record {
    derivation = (lexed language at word, behind.derivation);
    spells = word_then_spelled language k h at word back behind.derivation fixed behind.spells;
    legible = (fixed.token, behind.legible);
  }

  abbrev pub behind_part : {g h : Grammar K} {front back : List (List ℕ)} {at : ℕ} → IsText language g front at → IsText language h back (at + length front) → IsText language (Then g h) (front ++ back) at
  behind_part {g} {h} {front} {back} {at} first second = record {
    derivation = (first.derivation, second.derivation);
    spells = then_spelled language g h at front back first.derivation second.derivation first.spells second.spells;
    legible = join_each IsTokenText front back first.legible second.legible;
  }

  abbrev pub on_left : {g h : Grammar K} {words : List (List ℕ)} {at : ℕ} → IsText language g words at → IsText language (Or g h) words at
  on_left {g} {h} {words} {at} is = record { derivation = inl is.derivation; spells = left_spelled language g h (numbered language at words) is.derivation is.spells; legible = is.legible }

  abbrev pub on_right : {g h : Grammar K} {words : List (List ℕ)} {at : ℕ} → IsText language h words at → IsText language (Or g h) words at
  on_right {g} {h} {words} {at} is = record { derivation = inr is.derivation; spells = right_spelled language g h (numbered language at words) is.derivation is.spells; legible = is.legible }

  -- ---- repetitions

  abbrev pub none_more : {g : Grammar K} (at : ℕ) → IsText language (Many g) [] at
  none_more {g} at = record { derivation = []; spells = none_spelled language g at; legible = tt }

  abbrev pub one_more : {g : Grammar K} {front back : List (List ℕ)} {at : ℕ} → IsText language g front at → IsText language (Many g) back (at + length front) → IsText language (Many g) (front ++ back) at
  one_more {g} {front} {back} {at} first others = record {
    derivation = first.derivation ∷ others.derivation;
    spells = more_spelled language g at front back first.derivation others.derivation first.spells others.spells;
    legible = join_each IsTokenText front back first.legible others.legible;
  }

  -- ---- the same derivation

  -- told by equal words
  abbrev pub in_words : {g : Grammar K} {words all : List (List ℕ)} {at : ℕ} → words ≡ all → IsText language g words at → IsText language g all at
  in_words {g} {at = at} same is = record {
    derivation = is.derivation;
    spells = subst (λ (words : List (List ℕ)). Spells kind_of g (numbered language at words) is.derivation) same is.spells;
    legible = subst (AllByRecursion IsTokenText) same is.legible;
  }

  -- told by an equal number of the first token
  abbrev pub from_number : {g : Grammar K} {words : List (List ℕ)} {at from : ℕ} → at ≡ from → IsText language g words at → IsText language g words from
  from_number {g} {words} same is = record {
    derivation = is.derivation;
    spells = subst (λ n. Spells kind_of g (numbered language n words) is.derivation) same is.spells;
    legible = is.legible;
  }

  -- ---- optional parts, and parts between two words

  abbrev pub absent : {g : Grammar K} (at : ℕ) → IsText language (Or g Nothing) [] at
  absent at = on_right (no_words at)

  abbrev pub enclosed : {opening closing : K} {first last : List ℕ} {g : Grammar K} {words : List (List ℕ)} (at : ℕ) → IsFixed language opening first → IsFixed language closing last
      → IsText language g words (at + 1) → IsText language (Then (One opening) (Then g (One closing))) (first ∷ (words ++ last ∷ [])) at
  enclosed {words = words} at before after inside = behind_word at before (behind_part inside (word_alone (at + 1 + length words) after))

-- ---- what is made of it

-- the words are a text of which this part is made
pub record IsPrinted {K A : Type 0} (language : Language K) (g : Grammar K) (make : Derivation (Lexed K) g → A) (part : A) (words : List (List ℕ)) (at : ℕ) : Type 0 where
  pub text : IsText language g words at
  pub means : make text.derivation ≡ part

-- wherever they stand
abbrev pub ArePrinted : {K A : Type 0} → Language K → (g : Grammar K) → (Derivation (Lexed K) g → A) → (A → List (List ℕ)) → A → Type 0
ArePrinted language g make words part = (at : ℕ) → IsPrinted language g make part (words part) at

module _ {K A : Type 0} {language : Language K} (g : Grammar K) (make : Derivation (Lexed K) g → A) (words : A → List (List ℕ)) where
  pub many_printed : (parts : List A) → AllByRecursion (ArePrinted language g make words) parts → ArePrinted language (Many g) (map make) (flat_map words) parts
  many_printed [] each at = record { text = none_more at; means = refl }
  many_printed (part ∷ parts) each at =
      let first = each.0 at in
      let others = many_printed parts each.1 (at + length (words part)) in
      record { text = one_more first.text others.text; means = λ i. first.means i ∷ others.means i }

  -- with a word in front of each part
  pub led_printed : {k : K} {word : List ℕ} → IsFixed language k word → (part : A) → ArePrinted language g make words part → ArePrinted language (Then (One k) g) (λ d. make d.1) (λ x. word ∷ words x) part
  led_printed fixed part is at = let behind = is (at + 1) in record { text = behind_word at fixed behind.text; means = behind.means }

module _ {K A : Type 0} {language : Language K} (g : Grammar K) (make : Derivation (Lexed K) g → A) (words : A → List (List ℕ)) {k : K} {word : List ℕ} (fixed : IsFixed language k word) where
  led_each : (parts : List A) → AllByRecursion (ArePrinted language g make words) parts → AllByRecursion (ArePrinted language (Then (One k) g) (λ d. make d.1) (λ x. word ∷ words x)) parts
  led_each [] each = tt
  led_each (part ∷ parts) each = (led_printed g make words fixed part each.0, led_each parts each.1)

  -- a part, and others with this word in front of each
  pub separated_printed : (part : A) (parts : List A) → AllByRecursion (ArePrinted language g make words) (part ∷ parts) → (at : ℕ)
      → IsPrinted language (Then g (Many (Then (One k) g))) (λ d. make d.0 ∷ map (λ e. make e.1) d.1) (part ∷ parts) (words part ++ flat_map (λ x. word ∷ words x) parts) at
  separated_printed part parts each at =
      let first = each.0 at in
      let others = many_printed (Then (One k) g) (λ d. make d.1) (λ x. word ∷ words x) parts (led_each parts each.1) (at + length (words part)) in
      record { text = behind_part first.text others.text; means = λ i. first.means i ∷ others.means i }
