-- The words of printed conjunctions, where their brackets stand deep enough, are read as their raw literals.
use Rattle.std.proofs.Common.{◌≡◌, ℕ, ◌+◌, Bool, true, false, List, [], ◌∷◌, ◌++◌, length, map, flat_map, Option, Some, None, unwrap_or, codes, refl, ap, sym, ◌∙◌, append_assoc, append-nil}
use Rattle.std.specs.List.{AllByRecursion}
use Rattle.spf_lex.specs.Language.{lexed}
use Rattle.spf_lex.specs.Production.{Production, ◌<$>◌, many, separated, behind, optional}
use Rattle.spf_lex.proofs.FixedWords.{symbol_fixed, small_fixed}
use Rattle.spf_lex.proofs.PrintedWords.{IsPrinted, word_alone, behind_word, behind_part, on_left, on_right, absent, enclosed, none_more, one_more}
use Rattle.spf_rel.specs.Renumbering.{Variables}
use Rattle.spf_rel.specs.declared.relation.Conj.{Conj}
use Rattle.spf_reltext.proofs.Nesting.{climb_at}
use Rattle.spf_reltext.proofs.PrintedLiterals.{Constraint, compare_of, conjs_words, constraint_words, constraints_of, led_words, letter_words, list_words, literal_words, naming_of, numbers, outs_words, raw_constraint, raw_literal, raw_outs, sign_of, tuple_words}
use Rattle.spf_reltext.proofs.PrintedRaws.{term_words}
use Rattle.spf_reltext.proofs.SidesPrinted.{side_known, side_named, side_term}
use Rattle.spf_reltext.proofs.TermsRead.{AreNames, IsFixedWord, IsPart, close_bracket, closed, descend, flat_word, open_bracket, opened, term_read}
use Rattle.spf_reltext.specs.CalcWords.{calc_words, same_kind}
use Rattle.spf_reltext.specs.Printed.{Naming, name_at, numbered}
use Rattle.spf_reltext.specs.Productions as p
use Rattle.spf_reltext.specs.RoundTrip.{IsNamed}
use Rattle.spf_reltext.specs.declared.kind.CalcKind.{CalcKind}
use Rattle.spf_reltext.specs.declared.kind.CalcKind.TheVariants as kind
use Rattle.spf_reltext.specs.declared.names.RelNames.{RelNames}
use Rattle.spf_reltext.specs.declared.print_sides.Side.TheVariants.{Left, Right}

-- ---- lists

abbrev IsFlat : CalcKind → Type 0
IsFlat k = (rest : ℕ → Bool) (d : ℕ) → climb_at k rest d ≡ rest d

-- the words of a part are read as it, where their brackets stand deep enough
abbrev pub IsReadable : {A : Type 0} {empty : Bool} → Production same_kind empty A → A → List (List ℕ) → ℕ → Type 0
IsReadable q part words depth = (rest : List (List ℕ)) → descend (words ++ rest) depth ≡ true → IsPart q part words rest depth

module _ {A X : Type 0} (q : p.Syntax A) (raw : X → A) (words : X → List (List ℕ)) (depth : ℕ) {k : CalcKind} {between : List ℕ} (fixed : IsFixedWord k between) (flat : IsFlat k) where
  abbrev EachIsReadable : List X → Type 0
  EachIsReadable xs = AllByRecursion (λ x. IsReadable q (raw x) (words x) depth) xs

  further_part : (xs : List X) → EachIsReadable xs → IsReadable (many (behind k q)) (map raw xs) (flat_map (λ y. between ∷ words y) xs) depth
  further_part [] each rest climbs = record { read = λ at. record { text = none_more at; means = refl }; climbs = climbs }
  further_part (x ∷ xs) each rest climbs =
      let back = flat_map (λ y. between ∷ words y) xs in
      let inside : descend (words x ++ (back ++ rest)) depth ≡ true =
      sym (flat_word (words x ++ (back ++ rest)) depth fixed flat) ∙ ap (λ (words : List (List ℕ)). descend (between ∷ words) depth) (sym (append_assoc (words x) back rest)) ∙ climbs in
      let here = each.0 (back ++ rest) inside in
      let others = further_part xs each.1 rest here.climbs in
      record {
        read = λ at.
            let first = here.read (at + 1) in
            let more = others.read (at + length (between ∷ words x)) in
            record { text = one_more (behind_word at fixed first.text) more.text; means = λ i. first.means i ∷ more.means i };
        climbs = others.climbs;
      }

  -- one part or more, with a word between two
  pub separated_part : (x : X) (xs : List X) → EachIsReadable (x ∷ xs) → IsReadable (separated k q) (map raw (x ∷ xs)) (list_words between words (x ∷ xs)) depth
  separated_part x xs each rest climbs =
      let back = flat_map (λ y. between ∷ words y) xs in
      let here = each.0 (back ++ rest) (ap (λ (words : List (List ℕ)). descend words depth) (sym (append_assoc (words x) back rest)) ∙ climbs) in
      let others = further_part xs each.1 rest here.climbs in
      record {
        read = λ at.
            let first = here.read at in
            let more = others.read (at + length (words x)) in
            record { text = behind_part first.text more.text; means = λ i. first.means i ∷ more.means i };
        climbs = others.climbs;
      }

-- parts behind a word, where there are some
module _ {A X : Type 0} (q : p.Syntax A) (raw : X → A) (words : X → List (List ℕ)) (depth : ℕ) {k before : CalcKind} {between opening : List ℕ} (fixed : IsFixedWord k between) (flat : IsFlat k)
    (opens : IsFixedWord before opening) (opens_flat : IsFlat before) where
  pub led_part : (xs : List X) → AllByRecursion (λ x. IsReadable q (raw x) (words x) depth) xs
      → IsReadable (p.or_none <$> optional (behind before (separated k q))) (map raw xs) (led_words opening between words xs) depth
  led_part [] each rest climbs = record { read = λ at. record { text = absent at; means = refl }; climbs = climbs }
  led_part (x ∷ xs) each rest climbs =
      let inside = separated_part q raw words depth fixed flat x xs each rest (sym (flat_word (list_words between words (x ∷ xs) ++ rest) depth opens opens_flat) ∙ climbs) in
      record { read = λ at. let found = inside.read (at + 1) in record { text = on_left (behind_word at opens found.text); means = found.means }; climbs = inside.climbs }

-- ---- words that are the same in each text

pub open_brace : IsFixedWord kind.OpenBrace (codes "{")
open_brace = symbol_fixed calc_words kind.OpenBrace (codes "{") refl refl

pub close_brace : IsFixedWord kind.CloseBrace (codes "}")
close_brace = symbol_fixed calc_words kind.CloseBrace (codes "}") refl refl

pub comma : IsFixedWord kind.Comma (codes ",")
comma = symbol_fixed calc_words kind.Comma (codes ",") refl refl

pub arrow : IsFixedWord kind.Arrow (codes "->")
arrow = symbol_fixed calc_words kind.Arrow (codes "->") refl refl

pub with_word : IsFixedWord kind.With (codes "with")
with_word = small_fixed calc_words kind.With (codes "with") refl refl

pub and_word : IsFixedWord kind.And (codes "and")
and_word = small_fixed calc_words kind.And (codes "and") refl refl

pub colon : IsFixedWord kind.Colon (codes ":")
colon = symbol_fixed calc_words kind.Colon (codes ":") refl refl

pub bar : IsFixedWord kind.Bar (codes "|")
bar = symbol_fixed calc_words kind.Bar (codes "|") refl refl

pub equals : IsFixedWord kind.Equals (codes "=")
equals = symbol_fixed calc_words kind.Equals (codes "=") refl refl

pub at_least : IsFixedWord kind.AtLeast (codes ">=")
at_least = symbol_fixed calc_words kind.AtLeast (codes ">=") refl refl

-- ---- names

abbrev pub AreFixed : List ℕ → List ℕ → Type 0
AreFixed letter ns = AllByRecursion (λ n. IsFixedWord kind.Name (numbered letter n)) ns

letters_read : (letter : List ℕ) (depth : ℕ) (ns : List ℕ) → AreFixed letter ns → AllByRecursion (λ n. IsReadable p.name (numbered letter n) (letter_words letter n) depth) ns
unfolding p.name lexed
letters_read letter depth [] fixed = tt
letters_read letter depth (n ∷ ns) fixed =
    (λ rest climbs. record { read = λ at. record { text = word_alone at fixed.0; means = refl }; climbs = sym (flat_word rest depth fixed.0 (λ rest d. refl)) ∙ climbs }, letters_read letter depth ns fixed.1)

tuple_of : (letter : List ℕ) (ns : List ℕ) → AreFixed letter ns → IsReadable p.tuple (map (numbered letter) ns) (codes "[" ∷ (list_words (codes ",") (letter_words letter) ns ++ codes "]" ∷ [])) 5
unfolding p.tuple p.names
tuple_of letter [] fixed rest climbs =
    record { read = λ at. record { text = enclosed at open_bracket close_bracket (absent (at + 1)); means = refl }; climbs = sym (closed rest 4) ∙ sym (opened (codes "]" ∷ rest) 5) ∙ climbs }
tuple_of letter (n ∷ ns) fixed rest climbs =
    let words = list_words (codes ",") (letter_words letter) (n ∷ ns) in
    let inside : descend (words ++ (codes "]" ∷ rest)) 4 ≡ true =
    sym (opened (words ++ (codes "]" ∷ rest)) 5) ∙ ap (λ (words : List (List ℕ)). descend (codes "[" ∷ words) 5) (sym (append_assoc words (codes "]" ∷ []) rest)) ∙ climbs in
    let list = separated_part p.name (numbered letter) (letter_words letter) 4 comma (λ rest d. refl) n ns (letters_read letter 4 (n ∷ ns) fixed) (codes "]" ∷ rest) inside in
    record {
      read = λ at. let found = list.read (at + 1) in record { text = enclosed at open_bracket close_bracket (on_left found.text); means = found.means };
      climbs = sym (closed rest 4) ∙ list.climbs;
    }

outs_read : (outs : Option ℕ) → AreFixed (codes "Y") (numbers (unwrap_or outs 0)) → IsReadable (optional (behind kind.Arrow p.tuple)) (raw_outs outs) (outs_words outs) 5
outs_read None fixed rest climbs = record { read = λ at. record { text = absent at; means = refl }; climbs = climbs }
outs_read (Some outs) fixed rest climbs =
    let tuple = tuple_of (codes "Y") (numbers outs) fixed rest (sym (flat_word (tuple_words (codes "Y") outs ++ rest) 5 arrow (λ rest d. refl)) ∙ climbs) in
    record { read = λ at. let found = tuple.read (at + 1) in record { text = on_left (behind_word at arrow found.text); means = ap Some found.means }; climbs = tuple.climbs }

inner_read : (ns : List ℕ) → AreFixed (codes "E") ns → IsReadable p.inner (map (numbered (codes "E")) ns) (led_words (codes "with") (codes ",") (letter_words (codes "E")) ns) 5
unfolding p.inner p.names
inner_read ns fixed = led_part p.name (numbered (codes "E")) (letter_words (codes "E")) 5 comma (λ rest d. refl) with_word (λ rest d. refl) ns (letters_read (codes "E") 5 ns fixed)

-- ---- constraints

sign_fixed : (equal : Bool) (at : ℕ) → IsPrinted calc_words p.compare.shape.grammar p.compare.make (compare_of equal) (sign_of equal ∷ []) at
unfolding p.compare
sign_fixed true at = record { text = on_left (word_alone at equals); means = refl }
sign_fixed false at = record { text = on_right (on_right (on_right (on_left (word_alone at at_least)))); means = refl }

flat_compare : (equal : Bool) (rest : List (List ℕ)) → descend (sign_of equal ∷ rest) 5 ≡ descend rest 5
flat_compare true rest = flat_word rest 5 equals (λ rest d. refl)
flat_compare false rest = flat_word rest 5 at_least (λ rest d. refl)

module _ (names : RelNames) (variable : ℕ → List ℕ) (Known : ℕ → Type 0) (are_names : AreNames names variable Known) where
  abbrev naming : Naming
  naming = record { variable = variable; param = name_at names.params; fun = name_at names.funs }

  -- the variables are known, and the parameters and functions have names
  abbrev pub Fits : Constraint → Type 0
  Fits x = Variables Known x.1 × IsNamed names x.1

  constraint_read : (x : Constraint) → Fits x → IsReadable p.constraint (raw_constraint naming x) (constraint_words naming x) 5
  unfolding p.constraint
  constraint_read x fits rest climbs =
      let lefts = term_words naming (side_term Left x.1) in
      let rights = term_words naming (side_term Right x.1) in
      let left = term_read names variable Known are_names (side_term Left x.1) (side_known Known Left x.1 fits.0) (side_named names Left x.1 fits.1) 5 (sign_of x.0 ∷ (rights ++ rest))
      (ap (λ (words : List (List ℕ)). descend words 5) (sym (append_assoc lefts (sign_of x.0 ∷ rights) rest)) ∙ climbs) in
      let right = term_read names variable Known are_names (side_term Right x.1) (side_known Known Right x.1 fits.0) (side_named names Right x.1 fits.1) 5 rest (sym (flat_compare x.0 (rights ++ rest)) ∙ left.climbs) in
      record {
        read = λ at.
            let first = left.read at in
            let sign = sign_fixed x.0 (at + length lefts) in
            let second = right.read (at + length lefts + 1) in
            record { text = behind_part first.text (behind_part sign.text second.text); means = λ i. record { left = first.means i; sign = sign.means i; right = second.means i } };
        climbs = right.climbs;
      }

  pub constraints_read : (xs : List Constraint) → AllByRecursion Fits xs → AllByRecursion (λ x. IsReadable p.constraint (raw_constraint naming x) (constraint_words naming x) 5) xs
  constraints_read [] fits = tt
  constraints_read (x ∷ xs) fits = (constraint_read x fits.0, constraints_read xs fits.1)

-- ---- literals

module _ (ins : ℕ) (outs : Option ℕ) (names : RelNames) where
  -- what a reader takes for a conjunction
  pub record CanBeRead (conj : Conj) : Type 0 where
    pub inputs : AreFixed (codes "X") (numbers ins)
    pub outputs : AreFixed (codes "Y") (numbers (unwrap_or outs 0))
    pub inner : AreFixed (codes "E") (numbers conj.inner)
    pub constraints : AllByRecursion (λ x. IsReadable p.constraint (raw_constraint (naming_of ins outs names) x) (constraint_words (naming_of ins outs names) x) 5) (constraints_of conj)

  literal_read : (conj : Conj) → CanBeRead conj → IsReadable p.literal (raw_literal ins outs names conj) (literal_words ins outs names conj) 5
  unfolding p.literal p.constraints
  literal_read conj can rest climbs =
      let all = constraints_of conj in
      let x_words = tuple_words (codes "X") ins in
      let y_words = outs_words outs in
      let e_words = led_words (codes "with") (codes ",") (letter_words (codes "E")) (numbers conj.inner) in
      let c_words = led_words (codes ":") (codes "and") (constraint_words (naming_of ins outs names)) all in
      let last = codes "}" ∷ rest in
      let spread : (x_words ++ (y_words ++ (e_words ++ (c_words ++ codes "}" ∷ [])))) ++ rest ≡ x_words ++ (y_words ++ (e_words ++ (c_words ++ last))) = simp append_assoc in
      let tuple = tuple_of (codes "X") (numbers ins) can.inputs (y_words ++ (e_words ++ (c_words ++ last)))
      (ap (λ (words : List (List ℕ)). descend words 5) (sym spread) ∙ sym (flat_word ((x_words ++ (y_words ++ (e_words ++ (c_words ++ codes "}" ∷ [])))) ++ rest) 5 open_brace (λ rest d. refl)) ∙ climbs) in
      let second = outs_read outs can.outputs (e_words ++ (c_words ++ last)) tuple.climbs in
      let inner = inner_read (numbers conj.inner) can.inner (c_words ++ last) second.climbs in
      let body = led_part p.constraint (raw_constraint (naming_of ins outs names)) (constraint_words (naming_of ins outs names)) 5 and_word (λ rest d. refl) colon (λ rest d. refl) all can.constraints last inner.climbs in
      record {
        read = λ at.
            let a = tuple.read (at + 1) in
            let b = second.read (at + 1 + length x_words) in
            let c = inner.read (at + 1 + length x_words + length y_words) in
            let d = body.read (at + 1 + length x_words + length y_words + length e_words) in
            record {
              text = behind_word at open_brace (behind_part a.text (behind_part b.text (behind_part c.text (behind_part d.text (word_alone (at + 1 + length x_words + length y_words + length e_words + length c_words) close_brace)))));
              means = λ i. record { ins = a.means i; outs = b.means i; inner = c.means i; constraints = d.means i };
            };
        climbs = sym (flat_word rest 5 close_brace (λ rest d. refl)) ∙ body.climbs;
      }

  literals_each : (conjs : List Conj) → AllByRecursion CanBeRead conjs → AllByRecursion (λ conj. IsReadable p.literal (raw_literal ins outs names conj) (literal_words ins outs names conj) 5) conjs
  literals_each [] can = tt
  literals_each (conj ∷ conjs) can = (literal_read conj can.0, literals_each conjs can.1)

  -- the words of conjunctions are read as their raw literals
  pub literals_read : (conj : Conj) (conjs : List Conj) → AllByRecursion CanBeRead (conj ∷ conjs) → descend (conjs_words ins outs names (conj ∷ conjs)) 5 ≡ true
      → IsPrinted calc_words p.literals.shape.grammar p.literals.make (record { list = map (raw_literal ins outs names) (conj ∷ conjs) }) (conjs_words ins outs names (conj ∷ conjs)) 0
  unfolding p.literals
  literals_read conj conjs can climbs =
      let words = conjs_words ins outs names (conj ∷ conjs) in
      let list = separated_part p.literal (raw_literal ins outs names) (literal_words ins outs names) 5 bar (λ rest d. refl) conj conjs (literals_each (conj ∷ conjs) can) []
      (ap (λ (words : List (List ℕ)). descend words 5) (append-nil words) ∙ climbs) in
      let found = list.read 0 in
      record { text = found.text; means = λ i. record { list = found.means i } }
