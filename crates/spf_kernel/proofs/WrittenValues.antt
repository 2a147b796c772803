-- Values are written again: the words that a value is printed as are read as the same value.
use Rattle.spf_kernel.proofs.Common.{Spot, Says, ◌≡◌, ℕ, zero, suc, ◌+◌, ◌≤◌, ◌^◌, Bool, true, false, List, [], ◌∷◌, ◌++◌, map, flat_map, Option, None, Some, is_some, refl, ap, sym, ◌∙◌, subst, inl, inr, codes, if◌then◌else◌, list_any, bytes_eq, bundle_words, same_kind, Derivation, Lexed, Production, ◌<$>◌, flag, between, and_more, one_of, Token, Kind, symbol_fixed, Holds, stands_inside, behind_word, on_left, absent, Term, Note, Used, Scope, RawIx, out-roll-RawAtom, RawValue, RawSummand, RawFactor, Value, roll-Value, out-roll-Value, Prod, Factor, fact_of, facts_of, text_of, Names, number_of, note, value_notes, fact_notes, subscript_notes, mark, sign_word, lead_words, term_words, fact_words, prod_words, value_words, named, variable_of, table_of, data_array_of, is_data_array, bare_factor, term_of, factor_of, factor_at, product, separated, Leaves, roll-RawValue, out-roll-RawValue, Syntax, value_of}
use Rattle.spf_kernel.specs.declared.raw.RawFactor.TheVariants as raw_factor
use Rattle.spf_kernel.specs.printing.Printed as printed
use Rattle.spf_kernel.specs.Productions as syntax
use Rattle.spf_kernel.proofs.FittingNames.{IsBare, IsEntry, entry_fits}
use Rattle.spf_kernel.proofs.NamedUses.{IsFitting}
use Rattle.spf_kernel.proofs.NoteEquations.{summand_notes, value_notes_are, paren_notes_are}
use Rattle.spf_kernel.proofs.PrintEquations.{value_words_are}
use Rattle.spf_kernel.proofs.TermEquations.{summand_of, value_is, paren_is}
use Rattle.spf_kernel.proofs.Written.{in_scope, IsLeaf, Context, source, names_in, shown_in, token_of, Meaning, AreFit, AreWritten, written_by, name_written, vars_in, same_by}
use Rattle.spf_kernel.proofs.WrittenTerms.{bare_is, variable_again, IsShown, in_brackets, ix_written}
use Rattle.spf_kernel.proofs.WrittenParts.{worded, pair_of, each_of, sign_as, in_a_row, both, made_written, both_written, enclosed_by, either_written, row_written, separated_written, sign_written}
use Rattle.spf_kernel.proofs.WrittenSigns.{IsRead, number_written, summand_sign_written, summand_lead_written}

abbrev pub fact_as : Context → Meaning RawFactor Factor
fact_as c = in_scope c factor_of fact_notes fact_words

abbrev pub value_as : Context → Meaning RawValue Value
value_as c = in_scope c value_of value_notes value_words

-- ---- a name as a factor, told by what stands in the brackets behind it

abbrev name_fact : Token → Option RawIx → RawFactor
name_fact name at = raw_factor.Name (named name at)

fact_means : (texts : List (List ℕ)) (names : Names) (scope : Scope) (name : Token) (at : Option RawIx) → factor_of texts names scope (name_fact name at) ≡ factor_at texts names scope name at
fact_means texts names scope name at = λ i. factor_at texts names scope (out-roll-RawAtom (record { name = name; at = at }) i).name (out-roll-RawAtom (record { name = name; at = at }) i).at

abbrev read_by : Scope → Token → Option RawIx → List Note
read_by scope name at = mark name Says.Factor ∷ note name (Used (is_some at) Spot.Factor) scope ∷ subscript_notes scope at

fact_notes_are : (scope : Scope) (name : Token) (at : Option RawIx) → fact_notes scope (name_fact name at) ≡ read_by scope name at
fact_notes_are scope name at = λ i. read_by scope (out-roll-RawAtom (record { name = name; at = at }) i).name (out-roll-RawAtom (record { name = name; at = at }) i).at

module _ (c : Context) where
  abbrev s : Rattle.spf_kernel.proofs.Written.Source
  s = source c

  abbrev names : Names
  names = names_in c

  abbrev printed_as : Factor → List (List ℕ)
  printed_as = fact_words (shown_in c) (vars_in c)

  -- ---- numbers

  number_small : (d : Derivation (Lexed Kind) syntax.number.shape.grammar) → Leaves (IsLeaf c.texts) syntax.number.shape.grammar d → (syntax.number.make d).value ≤ 2 ^ 63
  unfolding Leaves syntax.number
  number_small (inl token) leaf = leaf.value
  number_small (inr token) leaf = leaf.value

  number_factor : AreWritten s (raw_factor.Number <$> syntax.number) (fact_as c)
  number_factor d leaves fit at holds =
      let is = number_written (syntax.number.make d).value at (number_small d leaves) in
      record { text = is.text; means = ap (λ n. Factor.Number n) is.same; same = refl }

  -- ---- names

  -- a name without brackets is printed as its text
  bare_words : (name : Token) → IsFitting c.texts c.facts (note name (Used false Spot.Factor) c.scope) → printed_as (factor_at c.texts names c.scope name None) ≡ text_of c.texts name ∷ []
  bare_words name fit = by (variable_of (vars_in c) (text_of c.texts name)) (bare_is c Spot.Factor (text_of c.texts name) fit) where
    by : (found : Option ℕ) → IsBare c.facts (IsShown c (text_of c.texts name)) (text_of c.texts name) found → printed_as (bare_factor c.texts names found name) ≡ text_of c.texts name ∷ []
    by (Some variable) named = ap (λ word. word ∷ []) named
    by None number = ap (λ word. word ∷ []) number.named

  -- the same text is the same variable or parameter
  bare_same : (name other : Token) → text_of c.written other ≡ text_of c.texts name → factor_at c.written names c.again other None ≡ factor_at c.texts names c.scope name None
  bare_same name other e = ap (λ variable. bare_factor c.written names variable other) (variable_again c name other e) ∙ by (variable_of (vars_in c) (text_of c.texts name)) where
    by : (variable : Option ℕ) → bare_factor c.written names variable other ≡ bare_factor c.texts names variable name
    by (Some variable) = refl
    by None = ap (λ text. Factor.Param (number_of names.params text)) e

  -- a name with brackets is printed as its text too
  entry_words_are : (name : Token) (x : RawIx) → IsFitting c.texts c.facts (note name (Used true Spot.Factor) c.scope)
      → printed_as (factor_at c.texts names c.scope name (Some x)) ≡ text_of c.texts name ∷ codes "[" ∷ term_words (shown_in c) (vars_in c) (term_of c.texts names c.scope x) ++ codes "]" ∷ []
  entry_words_are name x kept = by (is_data_array c.texts names name) (entry_fits c.facts (vars_in c) (text_of c.texts name) kept) where
    after : List (List ℕ)
    after = codes "[" ∷ term_words (shown_in c) (vars_in c) (term_of c.texts names c.scope x) ++ codes "]" ∷ []

    by : (b : Bool) → IsEntry c.facts (text_of c.texts name) b
        → printed_as (if b then Factor.Cell (data_array_of c.texts names name) (term_of c.texts names c.scope x) else Factor.Index (table_of c.texts names name) (term_of c.texts names c.scope x)) ≡ text_of c.texts name ∷ after
    by true number = ap (λ word. word ∷ after) number.named
    by false number = ap (λ word. word ∷ after) number.named

  -- the entry of the array with this text
  abbrev entry_by : List ℕ → Term → Factor
  entry_by text sub = if list_any (bytes_eq text) names.data_arrays then Factor.Cell (number_of names.data_arrays text) sub else Factor.Index (number_of names.tables text) sub

  read_same : (name other : Token) (at again : Option RawIx) → is_some again ≡ is_some at → text_of c.written other ≡ text_of c.texts name → facts_of c.written (subscript_notes c.again again) ≡ facts_of c.texts (subscript_notes c.scope at)
      → facts_of c.written (fact_notes c.again (name_fact other again)) ≡ facts_of c.texts (fact_notes c.scope (name_fact name at))
  read_same name other at again brackets e rest =
      same_by c.texts c.written (fact_notes_are c.again other again) (fact_notes_are c.scope name at)
      (λ i. fact_of c.texts (mark name Says.Factor) ∷ record { says = Used (brackets i) Spot.Factor; name = e i; variables = c.scoped i } ∷ rest i)

  name_factor : (depth : ℕ) → AreWritten s (raw_factor.Name <$> syntax.atom (suc depth)) (fact_as c)
  unfolding Leaves syntax.atom syntax.subscripted syntax.ix
  name_factor depth (name, inr none) leaves fit at holds =
      let text = text_of c.texts name.token in
      let other = token_of at text in
      let meant = fact_means c.texts names c.scope name.token None in
      let uses = subst (AreFit s) (fact_notes_are c.scope name.token None) fit in
      let words = ap printed_as meant ∙ bare_words name.token uses.1.0 in
      let there = subst (Holds c.written at) words holds in
      let is = name_written c.texts c.written name text at leaves.0 refl there.0 in
      written_by words (behind_word at is.fixed (absent (at + 1)))
      (fact_means c.written names c.again other None ∙ bare_same name.token other is.same ∙ sym meant)
      (read_same name.token other None None refl is.same refl)
  name_factor depth (name, inl (opened, (x, closed))) leaves fit at holds =
      let text = text_of c.texts name.token in
      let other = token_of at text in
      let raw = (syntax.ix depth).make x in
      let sub = term_words (shown_in c) (vars_in c) (term_of c.texts names c.scope raw) in
      let meant = fact_means c.texts names c.scope name.token (Some raw) in
      let uses = subst (AreFit s) (fact_notes_are c.scope name.token (Some raw)) fit in
      let words = ap printed_as meant ∙ entry_words_are name.token raw uses.1.0 in
      let there = subst (Holds c.written at) words holds in
      let inside = ix_written c Spot.Body refl depth x leaves.1.1.0 uses.1.1 (at + 1 + 1) (stands_inside c.written (at + 1) (codes "[") sub (codes "]") there.1) in
      let again = (syntax.ix depth).make inside.text.derivation in
      let is = name_written c.texts c.written name text at leaves.0 refl there.0 in
      written_by words (behind_word at is.fixed (on_left (in_brackets (at + 1) inside.text)))
      (fact_means c.written names c.again other (Some again) ∙ (λ i. entry_by (is.same i) (inside.means i)) ∙ sym meant)
      (read_same name.token other (Some raw) (Some again) refl is.same inside.same)

  -- ---- products

  abbrev summand_as : Meaning RawSummand Prod
  summand_as = in_scope c summand_of summand_notes prod_words

  abbrev facts_as : Meaning (List RawFactor) (List Factor)
  facts_as = each_of (fact_as c) (printed.separated (codes "*") printed_as)

  -- the words of a product, with those of a sign in front
  abbrev with_sign : (Bool → List (List ℕ)) → Prod → List (List ℕ)
  with_sign sign prod = sign prod.minus ++ prod_words (shown_in c) (vars_in c) prod

  module _ (f : Syntax RawFactor) (one : AreWritten s f (fact_as c)) where
    summand_written : {empty : Bool} (p : Production same_kind empty Bool) (sign : Bool → List (List ℕ)) → ((minus : Bool) (at : ℕ) → IsRead p (λ b. b) minus (sign minus) at)
        → AreWritten s ((λ x. syntax.summand x.0 x.1) <$> both p (separated Kind.Star f)) (worded summand_as (with_sign sign))
    summand_written p sign reads =
        made_written (both p (separated Kind.Star f)) (pair_of (sign_as sign) facts_as) (worded summand_as (with_sign sign)) (λ x. syntax.summand x.0 x.1)
        (record { fit = λ r fit. fit; words = λ r fit. refl; means = λ r again same i. product (same i).0 (same i).1; same = λ r again same facts. facts })
        (both_written p (separated Kind.Star f) (sign_as sign) facts_as (sign_written p sign reads)
        (separated_written f (fact_as c) (symbol_fixed bundle_words Kind.Star (codes "*") refl refl) one))

    abbrev row_words : List Prod → List (List ℕ)
    row_words = in_a_row (with_sign lead_words) (with_sign (λ minus. sign_word minus ∷ []))

    row_is : (prods : List Prod) → value_words (shown_in c) (vars_in c) (roll-Value (record { prods = prods })) ≡ row_words prods
    row_is prods = value_words_are (shown_in c) (vars_in c) (roll-Value (record { prods = prods })) ∙ ap signed (λ i. (out-roll-Value (record { prods = prods }) i).prods) ∙ by prods where
      signed : List Prod → List (List ℕ)
      signed prods = printed.signed (λ (prod : Prod). prod.minus) (prod_words (shown_in c) (vars_in c)) prods

      by : (prods : List Prod) → printed.signed (λ (prod : Prod). prod.minus) (prod_words (shown_in c) (vars_in c)) prods ≡ row_words prods
      by [] = refl
      by (prod ∷ prods) = refl

    value_rolled : (texts : List (List ℕ)) (scope : Scope) (summands : List RawSummand) → value_of texts names scope (roll-RawValue (record { summands = summands })) ≡ roll-Value (record { prods = map (summand_of texts names scope) summands })
    value_rolled texts scope summands =
        value_is texts names scope (roll-RawValue (record { summands = summands })) ∙ (λ i. roll-Value (record { prods = map (summand_of texts names scope) (out-roll-RawValue (record { summands = summands }) i).summands }))

    notes_rolled : (scope : Scope) (summands : List RawSummand) → value_notes scope (roll-RawValue (record { summands = summands })) ≡ flat_map (summand_notes scope) summands
    notes_rolled scope summands = value_notes_are scope (roll-RawValue (record { summands = summands })) ∙ (λ i. flat_map (summand_notes scope) (out-roll-RawValue (record { summands = summands }) i).summands)

    -- a sum of products is written again where each of its factors is
    sum_written : AreWritten s (syntax.value_of f) (value_as c)
    unfolding syntax.value_of syntax.first_summand syntax.next_summand
    sum_written =
        made_written (and_more (syntax.first_summand f) (syntax.next_summand f)) (each_of summand_as row_words) (value_as c) (λ summands. roll-RawValue (record { summands = summands }))
        (record {
          fit = λ r. subst (AreFit s) (notes_rolled c.scope r);
          words = λ r fit. ap (value_words (shown_in c) (vars_in c)) (value_rolled c.texts c.scope r) ∙ row_is (map (summand_of c.texts names c.scope) r);
          means = λ r again same. value_rolled c.written c.again again ∙ (λ i. roll-Value (record { prods = same i })) ∙ sym (value_rolled c.texts c.scope r);
          same = λ r again same facts. same_by c.texts c.written (notes_rolled c.again again) (notes_rolled c.scope r) facts;
        })
        (row_written (syntax.first_summand f) (syntax.next_summand f) (worded summand_as (with_sign lead_words)) (with_sign (λ minus. sign_word minus ∷ []))
        (summand_written (flag Kind.Minus) lead_words summand_lead_written)
        (summand_written (one_of (Kind.Plus, false) ((Kind.Minus, true) ∷ [])) (λ minus. sign_word minus ∷ []) summand_sign_written))

  -- ---- values in parentheses

  paren_written : (p : Syntax RawValue) → AreWritten s p (value_as c) → AreWritten s (raw_factor.Paren <$> between Kind.OpenParenthesis Kind.CloseParenthesis p) (fact_as c)
  paren_written p one =
      made_written (between Kind.OpenParenthesis Kind.CloseParenthesis p) (worded (value_as c) (λ x. codes "(" ∷ (value_words (shown_in c) (vars_in c) x ++ codes ")" ∷ []))) (fact_as c) raw_factor.Paren
      (record {
        fit = λ r. subst (AreFit s) (paren_notes_are c.scope r);
        words = λ r fit. ap printed_as (paren_is c.texts names c.scope r);
        means = λ r again same. paren_is c.written names c.again again ∙ ap (λ (inside : Value). Factor.Paren inside) same ∙ sym (paren_is c.texts names c.scope r);
        same = λ r again same facts. same_by c.texts c.written (paren_notes_are c.again again) (paren_notes_are c.scope r) facts;
      })
      (enclosed_by (symbol_fixed bundle_words Kind.OpenParenthesis (codes "(") refl refl) (symbol_fixed bundle_words Kind.CloseParenthesis (codes ")") refl refl) (record { form = p; of = value_as c; again = one })).again

  -- by induction on how deep parentheses may still stand
  fact_written : (depth : ℕ) → AreWritten s (syntax.fact depth) (fact_as c)
  unfolding syntax.fact syntax.plain syntax.nested
  fact_written zero = either_written (raw_factor.Number <$> syntax.number) syntax.plain (fact_as c) number_factor (name_factor 4)
  fact_written (suc depth) =
      let value = syntax.value_of (syntax.fact depth) in
      either_written (raw_factor.Number <$> syntax.number) (syntax.nested value) (fact_as c) number_factor
      (either_written (raw_factor.Paren <$> between Kind.OpenParenthesis Kind.CloseParenthesis value) syntax.plain (fact_as c) (paren_written value (sum_written (syntax.fact depth) (fact_written depth))) (name_factor 4))

  pub value_written : (depth : ℕ) → AreWritten s (syntax.value depth) (value_as c)
  unfolding syntax.value
  value_written depth = sum_written (syntax.fact depth) (fact_written depth)
