-- The text of conjunctions, where it is read to its end, is read as their raw literals, and means the same.
use Rattle.std.proofs.Common.{◌≡◌, ◌≢◌, ℕ, ◌+◌, true, false, List, [], ◌∷◌, ◌++◌, length, map, drop, All, get_or, Option, Some, None, Result, Ok, Err, unwrap_or, codes, refl, ap, sym, ◌∙◌, subst, append-nil, arith}
use Rattle.std.proofs.lemmas.List.{drop_all, length-map}
use Rattle.std.proofs.lemmas.List.Elements.{recursion_from_All}
use Rattle.std.proofs.lemmas.List.FromFn.{length-map-range_with_len}
use Rattle.std.specs.List.{AllByRecursion, list_any}
use Rattle.spf_lex.proofs.Finding.{one_yield, yields_text}
use Rattle.spf_lex.proofs.Numbered.{numbered_length}
use Rattle.spf_lex.proofs.SpacedTokens.{spaced_tokens}
use Rattle.spf_lex.proofs.TokenReadings.{one_reading as one_text}
use Rattle.spf_lex.specs.Language.{Lexed, kind_by, kinds, lexed, numbered, tokens_of}
use Rattle.spf_lex.specs.Lexeme.{lexeme_of}
use Rattle.spf_lex.specs.Standing.{Yields}
use Rattle.spf_lex.specs.Tokens.{HasTokens, Tokenized, texts}
use Rattle.spf_lex.specs.declared.token_list.Span.{Span}
use Rattle.spf_rel.specs.Meaning.{IsFormed, IsSameRelation, IsSameSet}
use Rattle.spf_rel.specs.declared.relation.Conj.{Conj}
use Rattle.spf_rel.specs.declared.relation.Rel.{Rel}
use Rattle.spf_rel.specs.declared.relation.Set.{Set}
use Rattle.spf_reltext.proofs.ConjsMeant.{Fits, constraints_fit, keep_names, literals_kept, meets_some, one_shape}
use Rattle.spf_reltext.proofs.FreeNames.{Below, are_names, are_words, letters_fixed, letters_named}
use Rattle.spf_reltext.proofs.LiteralTexts.{kinds_exact, literals_clear}
use Rattle.spf_reltext.proofs.LiteralsRead.{CanBeRead, constraints_read, literals_read}
use Rattle.spf_reltext.proofs.LiteralsSpaced.{IsApart, constraints_spaced, literals_spaced}
use Rattle.spf_reltext.proofs.Nesting.{climb, literals_climb}
use Rattle.spf_reltext.proofs.OneReading.{no_fault, one_reading}
use Rattle.spf_reltext.proofs.PrintedLiterals.{conjs_words, constraints_of, raw_literal}
use Rattle.spf_reltext.specs.CalcWords.{calc_words}
use Rattle.spf_reltext.specs.Names.{names_of}
use Rattle.spf_reltext.specs.Parsed.{AreRead, IsRefusal, IsRelAnswer, IsSetAnswer, ParsesTo}
use Rattle.spf_reltext.specs.Printed.{conj_text, conjs_text, numbered as letter_text, parts_from, rel_text, set_text, variable_text}
use Rattle.spf_reltext.specs.Productions.{literals}
use Rattle.spf_reltext.specs.Resolved.{conj_of, rel_of, set_of}
use Rattle.spf_reltext.specs.RoundTrip.{HasFreeNames, HasNames, IsPrintable, IsSameRelAnswer, IsSameSetAnswer, IsWithinLimits}
use Rattle.spf_reltext.specs.Rules.{breaks_limits, is_wanted, least_rule, shape_of}
use Rattle.spf_reltext.specs.declared.kind.CalcKind.{CalcKind}
use Rattle.spf_reltext.specs.declared.literal.Literals.{Literals}
use Rattle.spf_reltext.specs.declared.names.RelNames.{RelNames}
use Rattle.spf_reltext.specs.declared.parse.RelTextFault.{RelTextFault}
use Rattle.spf_reltext.specs.declared.parse.RelTextFault.TheVariants.{Syntax, Rule, Memory}
use Rattle.spf_reltext.specs.declared.raw.RawLiteral.{RawLiteral}
use Rattle.spf_reltext.specs.declared.rules.Wanted.{Wanted}
use Rattle.spf_reltext.specs.declared.rules.Wanted.TheVariants as wanted

-- ---- tokens

-- the kinds of tokens don't depend on their numbers
kinds_are : (at : ℕ) (words : List (List ℕ)) → kinds (numbered calc_words at words) ≡ map (λ word. kind_by calc_words word (lexeme_of word)) words
unfolding lexed
kinds_are at [] = refl
kinds_are at (word ∷ words) = ap (λ (others : List CalcKind). kind_by calc_words word (lexeme_of word) ∷ others) (kinds_are (at + 1) words)

-- what stands up to the end is all
whole : (tokens : Tokenized) (words : List (List ℕ)) (read : Literals) → texts tokens ≡ words → AreRead tokens 0 (length tokens.spans) read → Yields literals (tokens_of calc_words words) read
whole tokens words read are stands =
    let all = tokens_of calc_words (texts tokens) in
    let count : length all ≡ length tokens.spans = numbered_length calc_words 0 (texts tokens) ∙ length-map tokens.spans _ in
    let none : drop (length tokens.spans) all ≡ [] = drop_all (length tokens.spans) all (omega (arith, count)) in
    let front : all ≡ stands.stands.front = stands.stands.splits ∙ ap (λ (rest : List (Lexed CalcKind)). stands.stands.front ++ rest) none ∙ append-nil stands.stands.front in
    subst (λ (words : List (List ℕ)). Yields literals (tokens_of calc_words words) read) are (subst (λ (ts : List (Lexed CalcKind)). Yields literals ts read) (sym front) stands.stands.yields)

no_broken : {rule : ℕ} → None ≡ Some rule → ⊥
no_broken e = cc

module _ (ins : ℕ) (outs : Option ℕ) (names : RelNames) (free : HasFreeNames names) where
  abbrev many_outs : ℕ
  many_outs = unwrap_or outs 0

  -- ---- what a conjunction has

  all_fit : (outer : ℕ) → outer ≡ ins + many_outs → (conjs : List Conj) → All (IsFormed outer) conjs → All (HasNames names) conjs → All (Fits ins outs names free) conjs
  all_fit outer same conjs formed named = λ k d inside.
      let here : IsFormed (ins + many_outs) (get_or conjs k d) = subst (λ (outer : ℕ). IsFormed outer (get_or conjs k d)) same (formed k d inside) in
      let has = named k d inside in
      record { few = here.few; equal = here.equal; least = here.least; equal_named = has.equal; least_named = has.least }

  can_be_read : (conj : Conj) → Fits ins outs names free conj → CanBeRead ins outs names conj
  can_be_read conj fits = record {
    inputs = (letters_fixed ins (omega (arith, fits.few))).0;
    outputs = (letters_fixed many_outs (omega (arith, fits.few))).1;
    inner = (letters_fixed conj.inner (omega (arith, fits.few))).2;
    constraints = constraints_read names (variable_text ins many_outs) (Below ins many_outs conj.inner fits.few) (are_names ins many_outs conj.inner fits.few names free) (constraints_of conj) (constraints_fit ins outs names free conj fits);
  }

  is_apart : (conj : Conj) → Fits ins outs names free conj → IsApart ins outs names conj
  is_apart conj fits = record {
    inputs = (letters_named ins (omega (arith, fits.few))).0;
    outputs = (letters_named many_outs (omega (arith, fits.few))).1;
    inner = (letters_named conj.inner (omega (arith, fits.few))).2;
    constraints = constraints_spaced names (variable_text ins many_outs) (Below ins many_outs conj.inner fits.few) (are_words ins many_outs conj.inner fits.few names free) (constraints_of conj) (constraints_fit ins outs names free conj fits);
  }

  each : (Q : Conj → Type 0) → ((conj : Conj) → Fits ins outs names free conj → Q conj) → (conjs : List Conj) → AllByRecursion (Fits ins outs names free) conjs → AllByRecursion Q conjs
  each Q leads [] fits = tt
  each Q leads (conj ∷ conjs) fits = (leads conj fits.0, each Q leads conjs fits.1)

  -- ---- what is read

  module _ (conj : Conj) (conjs : List Conj) (fits : All (Fits ins outs names free) (conj ∷ conjs)) where
    abbrev raws : List RawLiteral
    raws = map (raw_literal ins outs names) (conj ∷ conjs)

    read_is : (tokens : Tokenized) → tokens.text ≡ parts_from [] (codes " | ") (conj_text ins outs names) 0 (conj ∷ conjs) → HasTokens tokens.text tokens.spans → (read : Literals)
        → AreRead tokens 0 (length tokens.spans) read → read.list ≡ raws
    read_is tokens text_is tokenized read are_read =
        let words = conjs_words ins outs names (conj ∷ conjs) in
        let each_fits = recursion_from_All (Fits ins outs names free) (conj ∷ conjs) fits in
        let spaced = spaced_tokens tokens.text words (rw text_is (literals_spaced ins outs names conj conjs (each (IsApart ins outs names) is_apart (conj ∷ conjs) each_fits))) in
        let same : spaced.0 ≡ tokens.spans = one_text tokens.text spaced.0 tokens.spans spaced.1 tokenized in
        let are : texts tokens ≡ words = subst (λ (spans : List Span). texts (record { text = tokens.text; spans = spans }) ≡ words) same spaced.2 in
        let yields = whole tokens words read are are_read in
        let climbs : climb (map (λ word. kind_by calc_words word (lexeme_of word)) words) 5 ≡ true =
        ap (λ (kinds : List CalcKind). climb kinds 5) (sym (kinds_are 0 words)) ∙ literals_climb (kinds (tokens_of calc_words words)) (yields_text kinds_exact literals literals_clear (tokens_of calc_words words) read yields) in
        let printed = literals_read ins outs names conj conjs (each (CanBeRead ins outs names) can_be_read (conj ∷ conjs) each_fits) climbs in
        ap (λ (read : Literals). read.list)
        (one_yield kinds_exact literals literals_clear (tokens_of calc_words words) read (record { list = raws }) yields (printed.text.derivation, printed.text.spells, sym printed.means))

    no_rule : (wanted : Wanted) → is_wanted wanted (shape_of (raw_literal ins outs names conj)) ≡ true → list_any breaks_limits raws ≡ false → least_rule wanted raws ≡ None
    no_rule wanted is within = rw (is, one_shape ins outs names free conj (conj ∷ conjs), keep_names ins outs names free (conj ∷ conjs) fits, within) refl

    -- what reading gives where the text is within its limits
    record IsReadBack (tokens : Tokenized) (wanted : Wanted) : Type 0 where
      read : Literals
      are_read : AreRead tokens 0 (length tokens.spans) read
      list : read.list ≡ raws
      unbroken : least_rule wanted read.list ≡ None

    read_back : (tokens : Tokenized) (wanted : Wanted) → is_wanted wanted (shape_of (raw_literal ins outs names conj)) ≡ true → tokens.text ≡ parts_from [] (codes " | ") (conj_text ins outs names) 0 (conj ∷ conjs)
        → IsWithinLimits tokens → IsReadBack tokens wanted
    read_back tokens wanted is text_is limits =
        let list = read_is tokens text_is limits.tokenized limits.read limits.are_read in
        record { read = limits.read; are_read = limits.are_read; list = list; unbroken = rw list (no_rule wanted is (rw list at limits.within)) }

    -- nothing is refused but for out of memory
    no_refusal : (tokens : Tokenized) (wanted : Wanted) (new : RelNames) → IsReadBack tokens wanted → (fault : RelTextFault) → IsRefusal tokens 0 names new wanted fault → (fault ≡ Memory) × (new ≡ names)
    no_refusal tokens wanted new back (Syntax place kind) refusal = absurd (no_fault tokens 0 (length tokens.spans) back.read place kind back.are_read refusal.0)
    no_refusal tokens wanted new back (Rule rule next shape) refusal =
        let same = one_reading tokens 0 (length tokens.spans) next back.read refusal.0.read back.are_read refusal.0.are_read in
        absurd (no_broken (sym back.unbroken ∙ ap (λ (read : Literals). least_rule wanted read.list) same.1 ∙ refusal.0.broken))
    no_refusal tokens wanted new back Memory refusal = (refl, refusal)

    -- what was read in its place is this
    parsed : {A : Type 0} (tokens : Tokenized) (wanted : Wanted) (new : RelNames) (meaning : RelNames → List RawLiteral → A) (next : ℕ) (made : A) → IsReadBack tokens wanted → ParsesTo tokens 0 names new wanted meaning next made
        → (next ≡ length tokens.spans) × (new ≡ names) × (made ≡ meaning names raws)
    parsed tokens wanted new meaning next made back parses =
        let same = one_reading tokens 0 next (length tokens.spans) parses.read back.read parses.are_read back.are_read in
        let list : parses.read.list ≡ raws = ap (λ (read : Literals). read.list) same.1 ∙ back.list in
        let kept : new ≡ names = parses.names ∙ ap (names_of names) list ∙ literals_kept ins outs names free (conj ∷ conjs) fits in
        (same.0, kept, parses.means ∙ (λ i. meaning (kept i) (list i)))

-- ---- relations and sets

rel_shape : (ins outs : ℕ) (names : RelNames) (conj : Conj) (conjs : List Conj) → rel_of names (map (raw_literal ins (Some outs) names) (conj ∷ conjs))
    ≡ record { ins = ins; outs = outs; conjs = map (conj_of names) (map (raw_literal ins (Some outs) names) (conj ∷ conjs)) }
rel_shape ins outs names conj conjs =
    λ i. record {
      ins = length-map-range_with_len (letter_text (codes "X")) 0 ins i;
      outs = length-map-range_with_len (letter_text (codes "Y")) 0 outs i;
      conjs = map (conj_of names) (map (raw_literal ins (Some outs) names) (conj ∷ conjs));
    }

set_shape : (arity : ℕ) (names : RelNames) (conj : Conj) (conjs : List Conj) → set_of names (map (raw_literal arity None names) (conj ∷ conjs))
    ≡ record { arity = arity; conjs = map (conj_of names) (map (raw_literal arity None names) (conj ∷ conjs)) }
set_shape arity names conj conjs =
    λ i. record { arity = length-map-range_with_len (letter_text (codes "X")) 0 arity i; conjs = map (conj_of names) (map (raw_literal arity None names) (conj ∷ conjs)) }

module _ (names new : RelNames) (tokens : Tokenized) where
  pub relation_read : (rel : Rel) (answer : Result (Rel × ℕ) RelTextFault) → IsPrintable names (rel.ins + rel.outs) rel.conjs → tokens.text ≡ rel_text names rel → IsWithinLimits tokens
      → IsRelAnswer tokens 0 names new answer → IsSameRelAnswer tokens names new rel answer
  relation_read rel answer printable text_is limits = by rel.conjs printable.some printable.formed printable.named text_is answer where
    by : (conjs : List Conj) → conjs ≢ [] → All (IsFormed (rel.ins + rel.outs)) conjs → All (HasNames names) conjs → tokens.text ≡ conjs_text rel.ins (Some rel.outs) names conjs → (answer : Result (Rel × ℕ) RelTextFault)
        → IsRelAnswer tokens 0 names new answer → IsSameRelAnswer tokens names new (record { ins = rel.ins; outs = rel.outs; conjs = conjs }) answer
    by [] some formed named is answer answers = absurd (some refl)
    by (conj ∷ conjs) some formed named is answer answers =
        let fits = all_fit rel.ins (Some rel.outs) names printable.free (rel.ins + rel.outs) refl (conj ∷ conjs) formed named in
        let back = read_back rel.ins (Some rel.outs) names printable.free conj conjs fits tokens wanted.Relation refl is limits in
        found conj conjs fits back answer answers
      where
        found : (conj : Conj) (conjs : List Conj) (fits : All (Fits rel.ins (Some rel.outs) names printable.free) (conj ∷ conjs)) → IsReadBack rel.ins (Some rel.outs) names printable.free conj conjs fits tokens wanted.Relation
            → (answer : Result (Rel × ℕ) RelTextFault) → IsRelAnswer tokens 0 names new answer → IsSameRelAnswer tokens names new (record { ins = rel.ins; outs = rel.outs; conjs = conj ∷ conjs }) answer
        found conj conjs fits back (Ok (made, next)) parses =
            let is = parsed rel.ins (Some rel.outs) names printable.free conj conjs fits tokens wanted.Relation new rel_of next made back parses in
            let given : Rel = record { ins = rel.ins; outs = rel.outs; conjs = conj ∷ conjs } in
            let same : IsSameRelation given (record { ins = rel.ins; outs = rel.outs; conjs = map (conj_of names) (raws rel.ins (Some rel.outs) names printable.free conj conjs fits) }) = λ env input output.
            let some = meets_some rel.ins (Some rel.outs) names printable.free (conj ∷ conjs) fits env (input ++ output) in (
              λ relates. record { ins = relates.ins; outs = relates.outs; meets = some.0 relates.meets },
              λ relates. record { ins = relates.ins; outs = relates.outs; meets = some.1 relates.meets },
            ) in
            (is.0, is.1, subst (IsSameRelation given) (sym (is.2 ∙ rel_shape rel.ins rel.outs names conj conjs)) same)
        found conj conjs fits back (Err fault) refusal = no_refusal rel.ins (Some rel.outs) names printable.free conj conjs fits tokens wanted.Relation new back fault refusal

  pub set_read : (set : Set) (answer : Result (Set × ℕ) RelTextFault) → IsPrintable names set.arity set.conjs → tokens.text ≡ set_text names set → IsWithinLimits tokens → IsSetAnswer tokens 0 names new answer
      → IsSameSetAnswer tokens names new set answer
  set_read set answer printable text_is limits = by set.conjs printable.some printable.formed printable.named text_is answer where
    by : (conjs : List Conj) → conjs ≢ [] → All (IsFormed set.arity) conjs → All (HasNames names) conjs → tokens.text ≡ conjs_text set.arity None names conjs → (answer : Result (Set × ℕ) RelTextFault)
        → IsSetAnswer tokens 0 names new answer → IsSameSetAnswer tokens names new (record { arity = set.arity; conjs = conjs }) answer
    by [] some formed named is answer answers = absurd (some refl)
    by (conj ∷ conjs) some formed named is answer answers =
        let fits = all_fit set.arity None names printable.free set.arity (omega arith) (conj ∷ conjs) formed named in
        let back = read_back set.arity None names printable.free conj conjs fits tokens wanted.Set refl is limits in
        found conj conjs fits back answer answers
      where
        found : (conj : Conj) (conjs : List Conj) (fits : All (Fits set.arity None names printable.free) (conj ∷ conjs)) → IsReadBack set.arity None names printable.free conj conjs fits tokens wanted.Set
            → (answer : Result (Set × ℕ) RelTextFault) → IsSetAnswer tokens 0 names new answer → IsSameSetAnswer tokens names new (record { arity = set.arity; conjs = conj ∷ conjs }) answer
        found conj conjs fits back (Ok (made, next)) parses =
            let is = parsed set.arity None names printable.free conj conjs fits tokens wanted.Set new set_of next made back parses in
            let given : Set = record { arity = set.arity; conjs = conj ∷ conjs } in
            let same : IsSameSet given (record { arity = set.arity; conjs = map (conj_of names) (raws set.arity None names printable.free conj conjs fits) }) = λ env point.
            let some = meets_some set.arity None names printable.free (conj ∷ conjs) fits env point in (
              λ is. record { arity = is.arity; meets = some.0 is.meets },
              λ is. record { arity = is.arity; meets = some.1 is.meets },
            ) in
            (is.0, is.1, subst (IsSameSet given) (sym (is.2 ∙ set_shape set.arity names conj conjs)) same)
        found conj conjs fits back (Err fault) refusal = no_refusal set.arity None names printable.free conj conjs fits tokens wanted.Set new back fault refusal
