-- The printed words of a sum whose monomials are written again mean the sum again.
use Rattle.spf_kernel.proofs.Common.{◌≡◌, ◌⊎◌, ℕ, ℤ, pos, ◌+ℤ◌, ◌+◌, ◌-◌, ◌*◌, ◌≤◌, Bool, true, false, List, [], ◌∷◌, ◌++◌, length, map, flat_map, is_some, refl, ap, sym, ◌∙◌, subst, arith, append_assoc, append-nil, inl, inr, decimal, min, unsigned_abs, length-append, is_negative, AllByRecursion, ints, join_each, Holds, behind_part, on_left, absent, Term, roll-Term, out-roll-Term, Mono, Note, Token, Spot, RawStep, RawMono, RawAtom, Fact, facts_of, mono_notes, mono_monomials, sign_word, lead_words, limit, pieces, only_number, further_number, term_words, mono_words, further_mono, alone_of, monos_of, term_of, fits, sum, wrap, Syntax, signed}
use Rattle.spf_kernel.specs.Productions as syntax
use Rattle.spf_kernel.proofs.NoteEquations.{step_notes, number_fits, step_monomials}
use Rattle.spf_kernel.proofs.PrintEquations.{sum_printed, term_words_are}
use Rattle.spf_kernel.proofs.PrintedConstants.{wrap_no_larger, wrap_twice, signed_back, signed_sum, IsPiece, first_sum, pieces_sum, pieces_small, pieces_few}
use Rattle.spf_kernel.proofs.TermEquations.{step_monos}
use Rattle.spf_kernel.proofs.Written.{Context, names_in, shown_in, facts_append, vars_in}
use Rattle.spf_kernel.proofs.WrittenInside.{total, IsWrittenInside, IsAgainInside, sum_as, told_as, total_of, made_of, made_notes, made_term, Item, Total, first_added, count_of, both_totals, total_append, count_append, IsReadable, row_read, made_monomials}
use Rattle.spf_kernel.proofs.WrittenSigns.{number_written}

-- ---- numbers

abbrev pub number_item : Bool → ℕ → Item
number_item minus n = record { minus = minus; words = decimal n ∷ []; given = []; number = signed minus n; facts = []; count = 1 }

abbrev number_items : Bool → List ℕ → List Item
number_items minus ns = map (number_item minus) ns

-- a number alone, whose words are these
abbrev number_total : List (List ℕ) → ℤ → Total
number_total words number = record { words = words; given = []; number = number; facts = [] }

numbers_total : (minus : Bool) (ns : List ℕ) → total (number_items minus ns) ≡ number_total (flat_map (λ piece. sign_word minus ∷ decimal piece ∷ []) ns) (signed minus (sum ns))
numbers_total true [] = refl
numbers_total false [] = refl
numbers_total minus (n ∷ ns) =
    let words = flat_map (λ piece. sign_word minus ∷ decimal piece ∷ []) (n ∷ ns) in
    ap (first_added (number_item minus n)) (numbers_total minus ns) ∙ ap (number_total words) (sym (ap (signed minus) (first_sum n ns) ∙ signed_sum minus n (sum ns)))

numbers_count : (minus : Bool) (ns : List ℕ) → count_of (number_items minus ns) ≡ length ns
numbers_count minus [] = refl
numbers_count minus (n ∷ ns) = omega (arith, numbers_count minus ns)

-- the pieces of a further number
abbrev further_items : Bool → ℕ → List Item
further_items minus n = number_items minus (pieces n)

further_total : (minus : Bool) (n : ℕ) → total (further_items minus n) ≡ number_total (further_number minus n) (signed minus n)
further_total minus n = numbers_total minus (pieces n) ∙ ap (λ (m : ℕ). number_total (further_number minus n) (signed minus m)) (pieces_sum n)

further_count : (minus : Bool) (n k : ℕ) → n ≤ k * limit → count_of (further_items minus n) ≤ k
further_count minus n k fits = omega (arith, numbers_count minus (pieces n), pieces_few n k fits)

module _ (c : Context) (spot : Spot) (a : Syntax RawAtom) where
  number_read : (minus : Bool) (n : ℕ) → n ≤ limit → IsReadable c spot a (number_item minus n)
  unfolding syntax.mono syntax.numbered
  number_read minus n small at holds =
      let number = number_written n at (omega arith) in
      record {
        text = on_left (behind_part number.text (absent (at + 1)));
        gives = refl;
        total = ap (signed minus) number.same;
        same = ap (facts_of c.written) (number_fits false (syntax.number.make number.text.derivation) (omega (arith, number.same)));
        few = omega arith;
      }

  numbers_read : (minus : Bool) (ns : List ℕ) → AllByRecursion IsPiece ns → AllByRecursion (IsReadable c spot a) (number_items minus ns)
  numbers_read minus [] small = tt
  numbers_read minus (n ∷ ns) small = (number_read minus n small.0, numbers_read minus ns small.1)

  further_read : (minus : Bool) (n : ℕ) → AllByRecursion (IsReadable c spot a) (further_items minus n)
  further_read minus n = numbers_read minus (pieces n) (pieces_small n)

  -- ---- the monomials of the source

  abbrev item_of : RawMono → Mono → Item
  item_of mono given = record {
    minus = is_negative given.coef;
    words = mono_words (shown_in c) (vars_in c) given;
    given = given ∷ [];
    number = pos 0;
    facts = facts_of c.texts (mono_notes spot c.scope mono);
    count = length (mono_monomials mono);
  }

  -- a monomial of the source is a number
  pub record IsAlone (minus : Bool) (mono : RawMono) : Type 0 where
    pub none : monos_of c.texts (names_in c) c.scope minus mono ≡ []
    pub small : unsigned_abs (alone_of minus mono) ≤ limit
    pub untold : facts_of c.texts (mono_notes spot c.scope mono) ≡ []
    pub counts : 1 ≤ length (mono_monomials mono)

  -- it has an atom, and its words mean it again
  pub record IsAgain (minus : Bool) (mono : RawMono) : Type 0 where
    pub given : Mono
    pub gives : monos_of c.texts (names_in c) c.scope minus mono ≡ given ∷ []
    pub no_number : alone_of minus mono ≡ pos 0
    pub reads : IsReadable c spot a (item_of mono given)

  abbrev pub IsSource : Bool → RawMono → Type 0
  IsSource minus mono = IsAlone minus mono ⊎ IsAgain minus mono

  abbrev pub AreSources : List RawStep → Type 0
  AreSources steps = AllByRecursion (λ (step : RawStep). IsSource (is_some step.minus) step.mono) steps

  abbrev all_monos : List RawStep → List Mono
  all_monos steps = flat_map (step_monos c.texts (names_in c) c.scope) steps

  abbrev all_notes : List RawStep → List Note
  all_notes steps = flat_map (step_notes spot c.scope) steps

  abbrev all_facts : List RawStep → List Fact
  all_facts steps = facts_of c.texts (all_notes steps)

  abbrev all_monomials : List RawStep → List Token
  all_monomials steps = flat_map step_monomials steps

  abbrev items_of : List (RawMono × Mono) → List Item
  items_of found = map (λ x. item_of x.0 x.1) found

  -- these are the monomials with atoms, and so many are numbers
  record IsFound (steps : List RawStep) : Type 0 where
    found : List (RawMono × Mono)
    alones : ℕ
    readable : AllByRecursion (IsReadable c spot a) (items_of found)
    monos : map (λ x. x.1) found ≡ all_monos steps
    facts : (total (items_of found)).facts ≡ all_facts steps
    counted : count_of (items_of found) + alones ≤ length (all_monomials steps)
    some : length steps ≤ length found + alones
    within : (start : ℤ) (n : ℕ) → unsigned_abs start ≤ n * limit → unsigned_abs (total_of start steps) ≤ (n + alones) * limit

  found_in : (steps : List RawStep) → AreSources steps → IsFound steps
  found_in [] each = record { found = []; alones = 0; readable = tt; monos = refl; facts = refl; counted = omega arith; some = omega arith; within = λ start n fits. omega (arith, fits) }
  found_in (step ∷ steps) each = by each.0 (found_in steps each.1) where
    here : List Note
    here = step_notes spot c.scope step

    by : IsSource (is_some step.minus) step.mono → IsFound steps → IsFound (step ∷ steps)
    by (inl alone) rest = record {
      found = rest.found;
      alones = rest.alones + 1;
      readable = rest.readable;
      monos = rest.monos ∙ (λ i. sym alone.none i ++ all_monos steps);
      facts = rest.facts ∙ sym (facts_append c.texts here (all_notes steps) ∙ ap (λ (facts : List Fact). facts ++ all_facts steps) alone.untold);
      counted = omega (arith, rest.counted, length-append (step_monomials step) (all_monomials steps), alone.counts);
      some = omega (arith, rest.some);
      within = λ start n fits. omega (arith, rest.within (start +ℤ alone_of (is_some step.minus) step.mono) (n + 1) (omega (arith, ints, fits, alone.small)));
    }
    by (inr one) rest = record {
      found = (step.mono, one.given) ∷ rest.found;
      alones = rest.alones;
      readable = (one.reads, rest.readable);
      monos = λ i. sym one.gives i ++ rest.monos i;
      facts = ap (λ (facts : List Fact). facts_of c.texts here ++ facts) rest.facts ∙ sym (facts_append c.texts here (all_notes steps));
      counted = omega (arith, rest.counted, length-append (step_monomials step) (all_monomials steps));
      some = omega (arith, rest.some);
      within = λ start n fits. rest.within (start +ℤ alone_of (is_some step.minus) step.mono) n (omega (arith, ints, fits, one.no_number));
    }

  abbrev given_in : List (RawMono × Mono) → List Mono
  given_in found = map (λ x. x.1) found

  abbrev further_words : List Mono → List (List ℕ)
  further_words monos = flat_map (further_mono (shown_in c) (vars_in c)) monos

  found_total : (found : List (RawMono × Mono)) → total (items_of found) ≡ record { words = further_words (given_in found); given = given_in found; number = pos 0; facts = (total (items_of found)).facts }
  found_total [] = refl
  found_total (x ∷ found) = ap (first_added (item_of x.0 x.1)) (found_total found)

  -- ---- the sum

  -- a row of items whose further ones give this, told by the words that are printed, and by what the sum means
  printed_row : (x : Item) (xs : List Item) (t : Total) → total xs ≡ t → IsReadable c spot a x → AllByRecursion (IsReadable c spot a) xs → (monos : List Mono) (z : ℤ) (words : List (List ℕ)) (facts : List Fact) (count : ℕ)
      → (lead_words x.minus ++ x.words) ++ t.words ≡ words → x.given ++ t.given ≡ monos → wrap (x.number +ℤ t.number) ≡ z → x.facts ++ t.facts ≡ facts → x.count + count_of xs ≤ count
      → (at : ℕ) → Holds c.written at words → IsWrittenInside c (syntax.sum a) (sum_as c spot) (roll-Term (record { monos = monos; constant = z })) words facts count at
  printed_row x xs t is readable each monos z words facts count same_words same_monos same_number same_facts few at holds =
      let line = ap (λ (t : Total). (lead_words x.minus ++ x.words) ++ t.words) is ∙ same_words in
      let part = ap (λ (t : Total). roll-Term (record { monos = x.given ++ t.given; constant = wrap (x.number +ℤ t.number) })) is ∙ (λ i. roll-Term (record { monos = same_monos i; constant = same_number i })) in
      told_as part line (ap (λ (t : Total). x.facts ++ t.facts) is ∙ same_facts) few (row_read c spot a x xs readable each at (subst (Holds c.written at) (sym line) holds))

  sum_printed_again : (found : List (RawMono × Mono)) → AllByRecursion (IsReadable c spot a) (items_of found) → (alones : ℕ) (z : ℤ) (facts : List Fact) (count : ℕ) → wrap z ≡ z → (total (items_of found)).facts ≡ facts
      → count_of (items_of found) + alones ≤ count → 1 ≤ length found + alones → unsigned_abs z ≤ alones * limit → (at : ℕ) → Holds c.written at (sum_printed (shown_in c) (vars_in c) (given_in found) z)
      → IsWrittenInside c (syntax.sum a) (sum_as c spot) (roll-Term (record { monos = given_in found; constant = z })) (sum_printed (shown_in c) (vars_in c) (given_in found) z) facts count at
  sum_printed_again [] each alones z facts count wrapped same counted some within at =
      let minus = is_negative z in
      let first = min (unsigned_abs z) limit in
      let rest = unsigned_abs z - limit in
      let both : first + rest ≡ unsigned_abs z = omega arith in
      let few = further_count minus rest (alones - 1) (omega (arith, within, some)) in
      printed_row (number_item minus first) (further_items minus rest) (number_total (further_number minus rest) (signed minus rest)) (further_total minus rest)
      (number_read minus first (omega arith)) (further_read minus rest) [] z (only_number z) facts count
      (append_assoc (lead_words minus) (decimal first ∷ []) (further_number minus rest)) refl
      (ap wrap (sym (signed_sum minus first rest) ∙ (ap (signed minus) both ∙ signed_back z)) ∙ wrapped) same (omega (arith, few, counted, some)) at
  sum_printed_again (x ∷ found) each alones z facts count wrapped same counted some within at =
      let minus = is_negative z in
      let constant = unsigned_abs z in
      let item = item_of x.0 x.1 in
      let more = items_of found in
      let digits = further_items minus constant in
      let sum : pos 0 +ℤ (pos 0 +ℤ signed minus constant) ≡ z = omega (arith, ints, signed_back z) in
      printed_row item (more ++ digits) (both_totals (record { words = further_words (given_in found); given = given_in found; number = pos 0; facts = (total more).facts }) (number_total (further_number minus constant) (signed minus constant)))
      (total_append more digits ∙ (λ i. both_totals (found_total found i) (further_total minus constant i)))
      each.0 (join_each (IsReadable c spot a) more digits each.1 (further_read minus constant)) (given_in (x ∷ found)) z (sum_printed (shown_in c) (vars_in c) (given_in (x ∷ found)) z) facts count
      (sym (append_assoc (lead_words item.minus ++ item.words) (further_words (given_in found)) (further_number minus constant)))
      (ap (λ (monos : List Mono). x.1 ∷ monos) (append-nil (given_in found)))
      (ap wrap sum ∙ wrapped)
      (ap (λ (facts : List Fact). item.facts ++ facts) (append-nil (total more).facts) ∙ same)
      (omega (arith, counted, count_append more digits, further_count minus constant alones within)) at

  -- a sum of such monomials is written again
  pub sum_again : (steps : List RawStep) → AreSources steps → 1 ≤ length steps → (at : ℕ) → Holds c.written at (term_words (shown_in c) (vars_in c) (term_of c.texts (names_in c) c.scope (made_of steps)))
      → IsAgainInside c (syntax.sum a) (sum_as c spot) (made_of steps) at
  sum_again steps each some at holds =
      let total = total_of (pos 0) steps in
      let z = wrap total in
      let f = found_in steps each in
      let shows = out-roll-Term (record { monos = given_in f.found; constant = z }) in
      let part : Term = roll-Term (record { monos = given_in f.found; constant = z }) in
      let same : part ≡ term_of c.texts (names_in c) c.scope (made_of steps) = (λ i. roll-Term (record { monos = f.monos i; constant = z })) ∙ sym (made_term c.texts (names_in c) c.scope steps) in
      let printed : sum_printed (shown_in c) (vars_in c) (given_in f.found) z ≡ term_words (shown_in c) (vars_in c) part =
      sym (term_words_are (shown_in c) (vars_in c) part ∙ (λ i. sum_printed (shown_in c) (vars_in c) (shows i).monos (shows i).constant)) in
      let words = printed ∙ ap (term_words (shown_in c) (vars_in c)) same in
      let within = f.within (pos 0) 0 (omega (arith, ints)) in
      told_as {count = length (all_monomials steps)} same words (sym (ap (facts_of c.texts) (made_notes spot c.scope steps))) (omega (arith, ap length (made_monomials steps)))
      (sum_printed_again f.found f.readable f.alones z (all_facts steps) (length (all_monomials steps)) (wrap_twice total) f.facts f.counted (omega (arith, some, f.some)) (omega (arith, within, wrap_no_larger total)) at (subst (Holds c.written at) (sym words) holds))
