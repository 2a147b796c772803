-- The text of conjunctions is its words and blanks, and no word runs on.
use Rattle.std.proofs.Common.{◌≡◌, ℕ, ◌+◌, Bool, true, false, if◌then◌else◌, List, [], ◌∷◌, ◌++◌, length, map, flat_map, Option, Some, None, unwrap_or, codes, refl, ap, sym, ◌∙◌, append_assoc, append-nil, arith}
use Rattle.std.specs.List.{AllByRecursion}
use Rattle.spf_base.specs.Word.{IsName}
use Rattle.spf_lex.specs.Spaced.{IsSpaced, nothing, one_blank}
use Rattle.spf_lex.proofs.Spacing.{name_spaced, mark_spaced, before_blank}
use Rattle.spf_rel.specs.Renumbering.{Variables}
use Rattle.spf_rel.specs.declared.relation.Conj.{Conj}
use Rattle.spf_reltext.proofs.LiteralsRead.{and_word, arrow, at_least, bar, colon, equals, with_word, open_brace}
use Rattle.spf_reltext.proofs.PrintedLiterals.{Constraint, conjs_words, constraint_words, constraints_of, led_words, letter_words, list_words, literal_words, naming_of, numbers, outs_words, sign_of, tuple_words}
use Rattle.spf_reltext.proofs.PrintedRaws.{term_words}
use Rattle.spf_reltext.proofs.SidesPrinted.{side_known, side_named, side_term, side_text_is}
use Rattle.spf_reltext.proofs.TermsSpaced.{AreWords, IsBehind, later, regrouped, respaced, term_spaced}
use Rattle.spf_reltext.specs.Printed.{Naming, body_text, conj_text, constraint_text, constraints_text, head_text, lead, name_at, numbered, parts_from, term_text, tuple_text, variables_text}
use Rattle.spf_reltext.specs.RoundTrip.{IsNamed}
use Rattle.spf_reltext.specs.declared.names.RelNames.{RelNames}
use Rattle.spf_reltext.specs.declared.print_sides.Side.TheVariants.{Left, Right}
use Rattle.spf_term.specs.declared.term.Term.{Term}

-- ---- lists

-- the text is these words in front of any spaced text in which no word goes on
abbrev pub Spaced : List ℕ → List (List ℕ) → Type 0
Spaced text words = (behind : List ℕ) (others : List (List ℕ)) → IsBehind behind others → IsSpaced (text ++ behind) (words ++ others)

-- the text between two parts is blanks and this word
abbrev pub IsGap : List ℕ → List ℕ → Type 0
IsGap between word = (text : List ℕ) (words : List (List ℕ)) → IsSpaced text words → IsBehind (between ++ text) (word ∷ words)

module _ {X : Type 0} (opening between word : List ℕ) (print : X → List ℕ) (words : X → List (List ℕ)) (gap : IsGap between word) where
  abbrev Each : List X → Type 0
  Each xs = AllByRecursion (λ x. Spaced (print x) (words x)) xs

  further_spaced : (n : ℕ) (xs : List X) → Each xs → (behind : List ℕ) (others : List (List ℕ)) → IsBehind behind others
      → IsBehind (parts_from opening between print (n + 1) xs ++ behind) (flat_map (λ y. word ∷ words y) xs ++ others)
  further_spaced n [] each behind others is = is
  further_spaced n (x ∷ xs) each behind others is =
      let rest = parts_from opening between print (n + 1 + 1) xs in
      let back = flat_map (λ y. word ∷ words y) xs in
      let lead_is : lead opening between (n + 1) ≡ between = ap (λ (first : Bool). if first then opening else between) (later n) in
      let same : (lead opening between (n + 1) ++ print x ++ rest) ++ behind ≡ between ++ (print x ++ (rest ++ behind)) = rw lead_is (regrouped between (print x) rest behind) in
      rw (same, append_assoc (words x) back others) (gap (print x ++ (rest ++ behind)) (words x ++ (back ++ others)) (each.0 (rest ++ behind) (back ++ others) (further_spaced (n + 1) xs each.1 behind others is)))

  first_spaced : (x : X) (xs : List X) → Each (x ∷ xs) → (behind : List ℕ) (others : List (List ℕ)) → IsBehind behind others
      → IsSpaced (print x ++ (parts_from opening between print 1 xs ++ behind)) (list_words word words (x ∷ xs) ++ others)
  first_spaced x xs each behind others is =
      let rest = parts_from opening between print (0 + 1) xs in
      let back = flat_map (λ y. word ∷ words y) xs in
      rw (append_assoc (words x) back others) (each.0 (rest ++ behind) (back ++ others) (further_spaced 0 xs each.1 behind others is))

  module _ (first : List ℕ) (opens : IsGap opening first) where
    -- with the opening in front, where there are parts
    pub led_spaced : (xs : List X) → Each xs → (behind : List ℕ) (others : List (List ℕ)) → IsBehind behind others → IsBehind (parts_from opening between print 0 xs ++ behind) (led_words first word words xs ++ others)
    led_spaced [] each behind others is = is
    led_spaced (x ∷ xs) each behind others is =
        let rest = parts_from opening between print 1 xs in
        let same : (opening ++ print x ++ rest) ++ behind ≡ opening ++ (print x ++ (rest ++ behind)) = regrouped opening (print x) rest behind in
        rw same (opens (print x ++ (rest ++ behind)) (list_words word words (x ∷ xs) ++ others) (first_spaced x xs each behind others is))

-- parts with nothing in front
pub list_spaced : {X : Type 0} (between word : List ℕ) (print : X → List ℕ) (words : X → List (List ℕ)) → IsGap between word
    → (x : X) (xs : List X) → AllByRecursion (λ x. Spaced (print x) (words x)) (x ∷ xs) → Spaced (parts_from [] between print 0 (x ∷ xs)) (list_words word words (x ∷ xs))
list_spaced between word print words gap x xs each behind others is =
    rw (append_assoc (print x) (parts_from [] between print 1 xs) behind) (first_spaced [] between word print words gap x xs each behind others is)

-- ---- names

comma_gap : IsGap (codes ", ") (codes ",")
comma_gap text words spaced = record { ends = refl; spaced = mark_spaced 44 refl (one_blank spaced) }

with_gap : IsGap (codes " with ") (codes "with")
with_gap text words spaced = record { ends = refl; spaced = one_blank (before_blank (codes "with") with_word.token spaced) }

and_gap : IsGap (codes " and ") (codes "and")
and_gap text words spaced = record { ends = refl; spaced = one_blank (before_blank (codes "and") and_word.token spaced) }

colon_gap : IsGap (codes " : ") (codes ":")
colon_gap text words spaced = record { ends = refl; spaced = one_blank (before_blank (codes ":") colon.token spaced) }

bar_gap : IsGap (codes " | ") (codes "|")
bar_gap text words spaced = record { ends = refl; spaced = one_blank (before_blank (codes "|") bar.token spaced) }

abbrev pub AreLetters : List ℕ → List ℕ → Type 0
AreLetters letter ns = AllByRecursion (λ n. IsName (numbered letter n)) ns

letters_spaced : (letter : List ℕ) (ns : List ℕ) → AreLetters letter ns → AllByRecursion (λ n. Spaced (numbered letter n) (letter_words letter n)) ns
letters_spaced letter [] are = tt
letters_spaced letter (n ∷ ns) are = (λ behind others is. name_spaced (numbered letter n) are.0 is.ends is.spaced, letters_spaced letter ns are.1)

tuple_spaced : (letter : List ℕ) (count : ℕ) → AreLetters letter (numbers count) → (behind : List ℕ) (others : List (List ℕ)) → IsSpaced behind others → IsSpaced (tuple_text letter count ++ behind) (tuple_words letter count ++ others)
tuple_spaced letter count are behind others spaced =
    let same : tuple_text letter count ++ behind ≡ 91 ∷ (variables_text [] letter count ++ (93 ∷ behind)) = simp append_assoc in
    let same_words : tuple_words letter count ++ others ≡ codes "[" ∷ (list_words (codes ",") (letter_words letter) (numbers count) ++ (codes "]" ∷ others)) =
    ap (λ (words : List (List ℕ)). codes "[" ∷ words) (append_assoc (list_words (codes ",") (letter_words letter) (numbers count)) (codes "]" ∷ []) others) in
    respaced same same_words (mark_spaced 91 refl (by (numbers count) are))
  where
    by : (ns : List ℕ) → AreLetters letter ns → IsSpaced (parts_from [] (codes ", ") (numbered letter) 0 ns ++ (93 ∷ behind)) (list_words (codes ",") (letter_words letter) ns ++ (codes "]" ∷ others))
    by [] are = mark_spaced 93 refl spaced
    by (n ∷ ns) are = list_spaced (codes ", ") (codes ",") (numbered letter) (letter_words letter) comma_gap n ns (letters_spaced letter (n ∷ ns) are) (93 ∷ behind) (codes "]" ∷ others) (record { ends = refl; spaced = mark_spaced 93 refl spaced })

head_spaced : (ins : ℕ) (outs : Option ℕ) → AreLetters (codes "X") (numbers ins) → AreLetters (codes "Y") (numbers (unwrap_or outs 0)) → (behind : List ℕ) (others : List (List ℕ)) → IsSpaced behind others
    → IsSpaced (head_text ins outs ++ behind) (tuple_words (codes "X") ins ++ (outs_words outs ++ others))
head_spaced ins None xs ys behind others spaced = tuple_spaced (codes "X") ins xs behind others spaced
head_spaced ins (Some outs) xs ys behind others spaced =
    let same : (tuple_text (codes "X") ins ++ codes " -> " ++ tuple_text (codes "Y") outs) ++ behind ≡ tuple_text (codes "X") ins ++ (codes " -> " ++ (tuple_text (codes "Y") outs ++ behind)) = regrouped (tuple_text (codes "X") ins) (codes " -> ") (tuple_text (codes "Y") outs) behind in
    respaced same refl (tuple_spaced (codes "X") ins xs (codes " -> " ++ (tuple_text (codes "Y") outs ++ behind)) (codes "->" ∷ (tuple_words (codes "Y") outs ++ others))
    (one_blank (before_blank (codes "->") arrow.token (tuple_spaced (codes "Y") outs ys behind others spaced))))

-- ---- constraints

abbrev equation_text : Bool → List ℕ
equation_text true = codes " = "
equation_text false = codes " >= "

equation_gap : (equal : Bool) → IsGap (equation_text equal) (sign_of equal)
equation_gap true text words spaced = record { ends = refl; spaced = one_blank (before_blank (codes "=") equals.token spaced) }
equation_gap false text words spaced = record { ends = refl; spaced = one_blank (before_blank (codes ">=") at_least.token spaced) }

module _ (naming : Naming) where
  abbrev print : Constraint → List ℕ
  print x = constraint_text naming (equation_text x.0) x.1

  module _ (opening between : List ℕ) where
    -- equalities, and others behind them
    equal_first : (n : ℕ) (terms : List Term) (others : List Constraint) → parts_from opening between print n (map (λ (term : Term). (true, term)) terms ++ others)
        ≡ parts_from opening between (constraint_text naming (codes " = ")) n terms ++ parts_from opening between print (n + length terms) others
    equal_first n [] others = ap (λ (m : ℕ). parts_from opening between print m others) (omega arith)
    equal_first n (term ∷ terms) others =
        let here = lead opening between n ++ constraint_text naming (codes " = ") term in
        ap (λ (text : List ℕ). here ++ text) (equal_first (n + 1) terms others)
        ∙ sym (append_assoc here (parts_from opening between (constraint_text naming (codes " = ")) (n + 1) terms) (parts_from opening between print (n + 1 + length terms) others))
        ∙ ap (λ (m : ℕ). (here ++ parts_from opening between (constraint_text naming (codes " = ")) (n + 1) terms) ++ parts_from opening between print m others) (omega arith)

    least_further : (other : List ℕ) (n m : ℕ) (terms : List Term) → parts_from opening between print (n + 1) (map (λ (term : Term). (false, term)) terms) ≡ parts_from other between (constraint_text naming (codes " >= ")) (m + 1) terms
    least_further other n m [] = refl
    least_further other n m (term ∷ terms) =
        let lead_is : lead opening between (n + 1) ≡ lead other between (m + 1) = ap (λ (first : Bool). if first then opening else between) (later n) ∙ sym (ap (λ (first : Bool). if first then other else between) (later m)) in
        λ i. lead_is i ++ constraint_text naming (codes " >= ") term ++ least_further other (n + 1) (m + 1) terms i

    least_then : (n : ℕ) (terms : List Term) → parts_from opening between print n (map (λ (term : Term). (false, term)) terms) ≡ parts_from (lead opening between n) between (constraint_text naming (codes " >= ")) 0 terms
    least_then n [] = refl
    least_then n (term ∷ terms) = ap (λ (text : List ℕ). lead opening between n ++ constraint_text naming (codes " >= ") term ++ text) (least_further (lead opening between n) n 0 terms)

  -- as one list
  body_is : (conj : Conj) → body_text naming conj ≡ parts_from (codes " : ") (codes " and ") print 0 (constraints_of conj)
  body_is conj =
      let none : 0 + length conj.equal ≡ length conj.equal = omega arith in
      sym (equal_first (codes " : ") (codes " and ") 0 conj.equal (map (λ (term : Term). (false, term)) conj.least)
      ∙ ap (λ (n : ℕ). constraints_text naming (codes " : ") (codes " = ") conj.equal ++ parts_from (codes " : ") (codes " and ") print n (map (λ (term : Term). (false, term)) conj.least)) none
      ∙ ap (λ (text : List ℕ). constraints_text naming (codes " : ") (codes " = ") conj.equal ++ text) (least_then (codes " : ") (codes " and ") (length conj.equal) conj.least))

module _ (names : RelNames) (variable : ℕ → List ℕ) (Known : ℕ → Type 0) (are_words : AreWords names variable Known) where
  abbrev named : Naming
  named = record { variable = variable; param = name_at names.params; fun = name_at names.funs }

  constraint_spaced : (x : Constraint) → Variables Known x.1 × IsNamed names x.1 → Spaced (print named x) (constraint_words named x)
  constraint_spaced x fits behind others is =
      let lefts = term_words named (side_term Left x.1) in
      let rights = term_words named (side_term Right x.1) in
      let right = term_spaced names variable Known are_words (side_term Right x.1) (side_known Known Right x.1 fits.0) (side_named names Right x.1 fits.1) behind others is in
      let sign = equation_gap x.0 (term_text named (side_term Right x.1) ++ behind) (rights ++ others) right in
      let left = term_spaced names variable Known are_words (side_term Left x.1) (side_known Known Left x.1 fits.0) (side_named names Left x.1 fits.1) (equation_text x.0 ++ (term_text named (side_term Right x.1) ++ behind)) (sign_of x.0 ∷ (rights ++ others)) sign in
      let same : print named x ++ behind ≡ term_text named (side_term Left x.1) ++ (equation_text x.0 ++ (term_text named (side_term Right x.1) ++ behind)) =
      (λ i. (side_text_is named Left x.1 i ++ equation_text x.0 ++ side_text_is named Right x.1 i) ++ behind) ∙ regrouped (term_text named (side_term Left x.1)) (equation_text x.0) (term_text named (side_term Right x.1)) behind in
      respaced same (append_assoc lefts (sign_of x.0 ∷ rights) others) left

  pub constraints_spaced : (xs : List Constraint) → AllByRecursion (λ (x : Constraint). Variables Known x.1 × IsNamed names x.1) xs → AllByRecursion (λ x. Spaced (print named x) (constraint_words named x)) xs
  constraints_spaced [] fits = tt
  constraints_spaced (x ∷ xs) fits = (constraint_spaced x fits.0, constraints_spaced xs fits.1)

-- ---- literals

module _ (ins : ℕ) (outs : Option ℕ) (names : RelNames) where
  -- what is written apart of a conjunction
  pub record IsApart (conj : Conj) : Type 0 where
    pub inputs : AreLetters (codes "X") (numbers ins)
    pub outputs : AreLetters (codes "Y") (numbers (unwrap_or outs 0))
    pub inner : AreLetters (codes "E") (numbers conj.inner)
    pub constraints : AllByRecursion (λ x. Spaced (print (naming_of ins outs names) x) (constraint_words (naming_of ins outs names) x)) (constraints_of conj)

  literal_spaced : (conj : Conj) → IsApart conj → Spaced (conj_text ins outs names conj) (literal_words ins outs names conj)
  literal_spaced conj apart behind others is =
      let naming = naming_of ins outs names in
      let e_text = variables_text (codes " with ") (codes "E") conj.inner in
      let c_text = body_text naming conj in
      let last = codes " }" ++ behind in
      let x_words = tuple_words (codes "X") ins in
      let y_words = outs_words outs in
      let e_words = led_words (codes "with") (codes ",") (letter_words (codes "E")) (numbers conj.inner) in
      let c_words = led_words (codes ":") (codes "and") (constraint_words naming) (constraints_of conj) in
      let ends : IsBehind last (codes "}" ∷ others) = record { ends = refl; spaced = one_blank (mark_spaced 125 refl is.spaced) } in
      let body : IsBehind (c_text ++ last) (c_words ++ (codes "}" ∷ others)) =
      rw (body_is naming conj) (led_spaced (codes " : ") (codes " and ") (codes "and") (print naming) (constraint_words naming) and_gap (codes ":") colon_gap (constraints_of conj) apart.constraints last (codes "}" ∷ others) ends) in
      let inner : IsBehind (e_text ++ (c_text ++ last)) (e_words ++ (c_words ++ (codes "}" ∷ others))) =
      led_spaced (codes " with ") (codes ", ") (codes ",") (numbered (codes "E")) (letter_words (codes "E")) comma_gap (codes "with") with_gap (numbers conj.inner) (letters_spaced (codes "E") (numbers conj.inner) apart.inner) (c_text ++ last) (c_words ++ (codes "}" ∷ others)) body in
      let head = head_spaced ins outs apart.inputs apart.outputs (e_text ++ (c_text ++ last)) (e_words ++ (c_words ++ (codes "}" ∷ others))) inner.spaced in
      let same : conj_text ins outs names conj ++ behind ≡ 123 ∷ 32 ∷ (head_text ins outs ++ (e_text ++ (c_text ++ last))) =
      append_assoc (codes "{ " ++ head_text ins outs ++ e_text ++ c_text) (codes " }") behind ∙ append_assoc (codes "{ " ++ head_text ins outs ++ e_text) c_text last ∙ append_assoc (codes "{ " ++ head_text ins outs) e_text (c_text ++ last)
      ∙ append_assoc (codes "{ ") (head_text ins outs) (e_text ++ (c_text ++ last)) in
      let same_words : literal_words ins outs names conj ++ others ≡ codes "{" ∷ (x_words ++ (y_words ++ (e_words ++ (c_words ++ (codes "}" ∷ others))))) =
      ap (λ (words : List (List ℕ)). codes "{" ∷ words) (simp append_assoc) in
      respaced same same_words (before_blank (codes "{") open_brace.token head)

  literals_each : (conjs : List Conj) → AllByRecursion IsApart conjs → AllByRecursion (λ conj. Spaced (conj_text ins outs names conj) (literal_words ins outs names conj)) conjs
  literals_each [] apart = tt
  literals_each (conj ∷ conjs) apart = (literal_spaced conj apart.0, literals_each conjs apart.1)

  -- the text of conjunctions is their words
  pub literals_spaced : (conj : Conj) (conjs : List Conj) → AllByRecursion IsApart (conj ∷ conjs) → IsSpaced (parts_from [] (codes " | ") (conj_text ins outs names) 0 (conj ∷ conjs)) (conjs_words ins outs names (conj ∷ conjs))
  literals_spaced conj conjs apart =
      respaced (sym (append-nil (parts_from [] (codes " | ") (conj_text ins outs names) 0 (conj ∷ conjs)))) (sym (append-nil (conjs_words ins outs names (conj ∷ conjs))))
      (list_spaced (codes " | ") (codes "|") (conj_text ins outs names) (literal_words ins outs names) bar_gap conj conjs (literals_each (conj ∷ conjs) apart) [] [] (record { ends = refl; spaced = nothing }))
