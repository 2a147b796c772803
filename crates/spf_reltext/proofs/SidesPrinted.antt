-- A side of a constraint is printed as a term with no negative number, and the sides together have the value of the constraint's term.
use Rattle.std.proofs.Common.{◌≡◌, ℕ, ℤ, pos, negsuc, ◌+ℤ◌, ◌*ℤ◌, neg_ℤ, ◌+◌, ◌==◌, Bool, true, false, not, ◌&&◌, if◌then◌else◌, List, [], ◌∷◌, ◌++◌, codes, decimal, unsigned_abs, refl, ap, sym, ◌∙◌, subst, true≢false, arith}
use Rattle.std.proofs.lemmas.Bool.Decides.{nat_tests}
use Rattle.std.proofs.lemmas.Int.{ints}
use Rattle.std.specs.Int.{is_negative}
use Rattle.std.specs.List.{AllByRecursion}
use Rattle.spf_rel.proofs.Kept.{in_term, of_sum}
use Rattle.spf_rel.specs.Renumbering.{AtomVariables, Variables}
use Rattle.spf_reltext.proofs.PrintEquations.{term_text_is}
use Rattle.spf_reltext.proofs.TermsMeant.{turned}
use Rattle.spf_reltext.specs.Printed.{Naming, amount, constant_text, is_on, lead, mono_text, side_from, side_text, sum_from, term_text}
use Rattle.spf_reltext.specs.RoundTrip.{AreNamed, AtomIsNamed, IsNamed, IsShort}
use Rattle.spf_reltext.specs.declared.names.RelNames.{RelNames}
use Rattle.spf_reltext.specs.declared.print_sides.Side.{Side}
use Rattle.spf_reltext.specs.declared.print_sides.Side.TheVariants.{Left, Right}
use Rattle.spf_term.proofs.Weights.{weighed}
use Rattle.spf_term.specs.declared.term.Atom.{Atom}
use Rattle.spf_term.specs.declared.term.Mono.{Mono}
use Rattle.spf_term.specs.declared.term.Term.{Term, Term', roll-Term, out-roll-Term, Row_of-Mono, end_of-Mono, more_of-Mono, items-the_row-Mono, items_shown-the_row-Mono-0}
unfoldable use Rattle.spf_term.specs.declared.term.Term.{out-Term}

abbrev pub side_monos : Side → List Mono → List Mono
side_monos side [] = []
side_monos side (mono ∷ monos) = if is_on side mono.coef then record { coef = pos (unsigned_abs mono.coef); atom = mono.atom } ∷ side_monos side monos else side_monos side monos

abbrev pub side_term : Side → Term → Term
side_term side term = roll-Term (record { monos = side_monos side (out-Term term).monos; constant = pos (amount side (out-Term term).constant) })

-- ---- the text

not_negative : (n : ℕ) → is_negative (pos n) ≡ false
not_negative n = grind (arith, nat_tests)

module _ (naming : Naming) (side : Side) where
  constant_is : (n a : ℕ) → (if not (n == 0) && (a == 0) then [] else lead [] (codes " + ") n ++ decimal a) ≡ constant_text n (pos a)
  constant_is n a = rw (not_negative a) refl

  from_is : (n : ℕ) (monos : List Mono) (c : ℤ) → side_from naming side n monos c ≡ sum_from naming n (side_monos side monos) (pos (amount side c))
  from_is n [] c = constant_is n (amount side c)
  from_is n (mono ∷ monos) c = by (is_on side mono.coef) (λ n. from_is n monos c) where
    by : (b : Bool) → ((n : ℕ) → side_from naming side n monos c ≡ sum_from naming n (side_monos side monos) (pos (amount side c)))
        → (if b then lead [] (codes " + ") n ++ mono_text naming mono ++ side_from naming side (n + 1) monos c else side_from naming side n monos c)
        ≡ sum_from naming n (if b then record { coef = pos (unsigned_abs mono.coef); atom = mono.atom } ∷ side_monos side monos else side_monos side monos) (pos (amount side c))
    by true others = rw (not_negative (unsigned_abs mono.coef)) (ap (λ (text : List ℕ). lead [] (codes " + ") n ++ mono_text naming mono ++ text) (others (n + 1)))
    by false others = others n

  pub side_text_is : (term : Term) → side_text naming side term ≡ term_text naming (side_term side term)
  side_text_is term =
      from_is 0 (out-Term term).monos (out-Term term).constant
      ∙ sym (term_text_is naming (side_term side term) ∙ ap (λ term. sum_from naming 0 term.monos term.constant) (out-roll-Term (record { monos = side_monos side (out-Term term).monos; constant = pos (amount side (out-Term term).constant) })))

-- ---- the value

on_left : (c : ℤ) → is_on Left c ≡ true → pos (unsigned_abs c) ≡ c
on_left (pos n) e = refl
on_left (negsuc n) e = absurd cc

on_right : (c : ℤ) → is_on Left c ≡ false → neg_ℤ (pos (unsigned_abs c)) ≡ c
on_right (pos n) e = omega (arith, ints, by (is_negative (pos n)) (n == 0) refl (not_negative n) e) where
  by : (minus zero' : Bool) → (n == 0) ≡ zero' → minus ≡ false → (not minus && not zero') ≡ false → n ≡ 0
  by true zero' same e none = absurd (true≢false e)
  by false true same e none = grind (arith, nat_tests)
  by false false same e none = absurd cc
on_right (negsuc n) e = refl

module _ (of : Atom → ℤ) where
  first_moved : (a b c r : ℤ) → b +ℤ c ≡ r → (a +ℤ b) +ℤ c ≡ a +ℤ r
  first_moved a b c r e = omega (arith, ints, e)

  second_moved : (a b c r : ℤ) → b +ℤ c ≡ r → b +ℤ (a +ℤ c) ≡ a +ℤ r
  second_moved a b c r e = omega (arith, ints, e)

  pub sides_weigh : (monos : List Mono) → weighed of (side_monos Left monos) +ℤ weighed of (turned true (side_monos Right monos)) ≡ weighed of monos
  sides_weigh [] = omega (arith, ints)
  sides_weigh (mono ∷ monos) = by (is_on Left mono.coef) refl (sides_weigh monos) where
    more : ℤ → List Mono → List Mono
    more coef monos = record { coef = coef; atom = mono.atom } ∷ monos

    by : (b : Bool) → is_on Left mono.coef ≡ b → weighed of (side_monos Left monos) +ℤ weighed of (turned true (side_monos Right monos)) ≡ weighed of monos
        → weighed of (if b then record { coef = pos (unsigned_abs mono.coef); atom = mono.atom } ∷ side_monos Left monos else side_monos Left monos)
        +ℤ weighed of (turned true (if not b then record { coef = pos (unsigned_abs mono.coef); atom = mono.atom } ∷ side_monos Right monos else side_monos Right monos)) ≡ weighed of (mono ∷ monos)
    by true e rest =
        first_moved (pos (unsigned_abs mono.coef) *ℤ of mono.atom) (weighed of (side_monos Left monos)) (weighed of (turned true (side_monos Right monos))) (weighed of monos) rest
        ∙ ap (λ (c : ℤ). (c *ℤ of mono.atom) +ℤ weighed of monos) (on_left mono.coef e)
    by false e rest =
        second_moved (neg_ℤ (pos (unsigned_abs mono.coef)) *ℤ of mono.atom) (weighed of (side_monos Left monos)) (weighed of (turned true (side_monos Right monos))) (weighed of monos) rest
        ∙ ap (λ (c : ℤ). (c *ℤ of mono.atom) +ℤ weighed of monos) (on_right mono.coef e)

pub amounts_back : (c : ℤ) → pos (amount Left c) +ℤ neg_ℤ (pos (amount Right c)) ≡ c
amounts_back c = by (is_on Left c) refl where
  by : (b : Bool) → is_on Left c ≡ b → pos (if b then unsigned_abs c else 0) +ℤ neg_ℤ (pos (if not b then unsigned_abs c else 0)) ≡ c
  by true e = omega (arith, ints, on_left c e)
  by false e = omega (arith, ints, on_right c e)

-- ---- what a side has of its term

pub side_monos_are : (side : Side) (term : Term) → (out-Term (side_term side term)).monos ≡ side_monos side (out-Term term).monos
side_monos_are side term = ap (λ term. term.monos) (out-roll-Term (record { monos = side_monos side (out-Term term).monos; constant = pos (amount side (out-Term term).constant) }))

pub side_constant_is : (side : Side) (term : Term) → (out-Term (side_term side term)).constant ≡ pos (amount side (out-Term term).constant)
side_constant_is side term = ap (λ term. term.constant) (out-roll-Term (record { monos = side_monos side (out-Term term).monos; constant = pos (amount side (out-Term term).constant) }))

pub constant_short : (names : RelNames) (term : Term) → IsNamed names term → IsShort (out-Term term).constant
unfolding out-Term denote.Hole.Carrier.out
constant_short names (Term' shape monos constant) h = h.1

amount_short : (side : Side) (c : ℤ) → IsShort c → IsShort (pos (amount side c))
amount_short side c short = by (is_on side c) where
  by : (b : Bool) → IsShort (pos (if b then unsigned_abs c else 0))
  by true = short
  by false = omega arith

side_each : (P : Mono → Type 0) → ((mono : Mono) → P mono → P (record { coef = pos (unsigned_abs mono.coef); atom = mono.atom })) → (side : Side) (monos : List Mono) → AllByRecursion P monos → AllByRecursion P (side_monos side monos)
side_each P stays side [] h = tt
side_each P stays side (mono ∷ monos) h = by (is_on side mono.coef) (side_each P stays side monos h.1) where
  by : (b : Bool) → AllByRecursion P (side_monos side monos) → AllByRecursion P (if b then record { coef = pos (unsigned_abs mono.coef); atom = mono.atom } ∷ side_monos side monos else side_monos side monos)
  by true others = (stays mono h.0, others)
  by false others = others

pub side_known : (P : ℕ → Type 0) (side : Side) (term : Term) → Variables P term → Variables P (side_term side term)
side_known P side term h =
    of_sum P (side_monos side (out-Term term).monos) (pos (amount side (out-Term term).constant)) (side_each (λ mono. AtomVariables P mono.atom) (λ mono known. known) side (out-Term term).monos (in_term P term h))

module _ (names : RelNames) (side : Side) where
  abbrev MonoIsNamed : Mono → Type 0
  MonoIsNamed mono = IsShort mono.coef × AtomIsNamed names mono.atom

  abbrev Named : List Mono → ℤ → Type 0
  Named monos constant = AllByRecursion MonoIsNamed monos × IsShort constant

  to_list : {n : _} (row : Row_of-Mono n) → AreNamed names row → AllByRecursion MonoIsNamed (items-the_row-Mono n row)
  to_list end_of-Mono h = tt
  to_list (more_of-Mono coef atom others) h = ((h.0, h.1), to_list others h.2)

  to_row : {n : _} (row : Row_of-Mono n) → AllByRecursion MonoIsNamed (items-the_row-Mono n row) → AreNamed names row
  to_row end_of-Mono h = tt
  to_row (more_of-Mono coef atom others) h = (h.0.0, h.0.1, to_row others h.1)

  named_list : (term : Term) → IsNamed names term → Named (out-Term term).monos (out-Term term).constant
  unfolding out-Term denote.Hole.Carrier.out
  named_list (Term' shape monos constant) h = (subst (AllByRecursion MonoIsNamed) (sym (items_shown-the_row-Mono-0 shape monos)) (to_list monos h.0), h.1)

  named_term : (term : Term) → Named (out-Term term).monos (out-Term term).constant → IsNamed names term
  unfolding out-Term denote.Hole.Carrier.out
  named_term (Term' shape monos constant) h = (to_row monos (subst (AllByRecursion MonoIsNamed) (items_shown-the_row-Mono-0 shape monos) h.0), h.1)

  pub side_named : (term : Term) → IsNamed names term → IsNamed names (side_term side term)
  side_named term h =
      let list = named_list term h in
      named_term (side_term side term)
      (subst (λ (term : _). Named term.monos term.constant) (sym (out-roll-Term (record { monos = side_monos side (out-Term term).monos; constant = pos (amount side (out-Term term).constant) })))
      (side_each MonoIsNamed (λ mono named. named) side (out-Term term).monos list.0, amount_short side (out-Term term).constant list.1))
