-- The raw term of a printed term means that term, with its sign or with the opposite one, and uses no new name.
use Rattle.std.proofs.Common.{◌≡◌, ℕ, ℤ, pos, negsuc, ◌+ℤ◌, neg_ℤ, ◌<◌, ◌==◌, Bool, true, false, not, ◌&&◌, if◌then◌else◌, List, [], ◌∷◌, ◌++◌, length, map, flat_map, fold, None, unsigned_abs, refl, ap, sym, ◌∙◌, subst, w64, true≢false, arith}
use Rattle.std.proofs.lemmas.Bool.Decides.{nat_tests}
use Rattle.std.proofs.lemmas.Int.{int_wrap_fits, fits_signed_from_abs, ints}
use Rattle.std.specs.Int.{is_negative}
use Rattle.std.specs.List.{AllByRecursion, list_any}
use Rattle.std.specs.Str.{bytes_eq}
unfoldable use Rattle.spf_base.specs.Wrap.{wrap}
use Rattle.spf_lex.proofs.Leaves.{join_each}
use Rattle.spf_rel.specs.Renumbering.{AtomVariables, SumVariables, Variables}
use Rattle.spf_reltext.proofs.FactEquations.{ix_facts_are, mono_facts}
use Rattle.spf_reltext.proofs.PrintedRaws.{is_left_out, raw_atom, raw_constant, raw_row, raw_term}
use Rattle.spf_reltext.proofs.TermEquations.{ix_monos_are, raw_monos, term_is}
use Rattle.spf_reltext.specs.Facts.{atom_facts, ix_facts}
use Rattle.spf_reltext.specs.Names.{fact_names, noted, number_of}
use Rattle.spf_reltext.specs.Printed.{Naming, name_at}
use Rattle.spf_reltext.specs.Productions.{product, signed as raw_signed}
use Rattle.spf_reltext.specs.Resolved.{constant_of, ix_monos, mono_of, monomial, opposite, part_of, part_with, plain_atom, signed, term_of}
use Rattle.spf_reltext.specs.Rules.{is_bracketed}
use Rattle.spf_reltext.specs.RoundTrip.{AreNamed, AtomIsNamed, IsNamed, IsShort}
use Rattle.spf_reltext.specs.declared.fact.Fact.{Fact}
use Rattle.spf_reltext.specs.declared.fact.Role.{Role}
use Rattle.spf_reltext.specs.declared.names.RelNames.{RelNames}
use Rattle.spf_reltext.specs.declared.raw.RawIx.{roll-RawIx, out-roll-RawIx}
use Rattle.spf_reltext.specs.declared.raw.RawMono.{RawMono}
use Rattle.spf_term.specs.declared.term.Atom.{Atom}
use Rattle.spf_term.specs.declared.term.Mono.{Mono}
use Rattle.spf_term.specs.declared.term.Term.{Term, Term', roll-Term, roll-out-Term, Row_of-Mono, end_of-Mono, more_of-Mono, items-the_row-Mono, items_shown-the_row-Mono-0}
unfoldable use Rattle.spf_term.specs.declared.term.Term.{out-Term}

-- ---- numbers

-- the number, or its opposite
abbrev pub turn : Bool → ℤ → ℤ
turn flips c = if flips then neg_ℤ c else c

abbrev pub turned : Bool → List Mono → List Mono
turned flips monos = map (λ (mono : Mono). record { coef = turn flips mono.coef; atom = mono.atom }) monos

pub turned_not : (monos : List Mono) → turned false monos ≡ monos
turned_not [] = refl
turned_not (mono ∷ monos) = ap (λ (others : List Mono). mono ∷ others) (turned_not monos)

pub wrap_short : (z : ℤ) → IsShort z → wrap z ≡ z
unfolding wrap
wrap_short z short = int_wrap_fits w64 z (fits_signed_from_abs w64 z short)

signed_back : (c : ℤ) → signed (is_negative c) (unsigned_abs c) ≡ c
signed_back (pos n) = by (is_negative (pos n)) (grind (arith, nat_tests)) where
  by : (minus : Bool) → minus ≡ false → signed minus n ≡ pos n
  by true e = absurd (true≢false e)
  by false e = refl
signed_back (negsuc n) = refl

signed_turned : (flips minus : Bool) (n : ℕ) → signed (opposite flips minus) n ≡ turn flips (signed minus n)
signed_turned true true n = omega (arith, ints)
signed_turned true false n = refl
signed_turned false minus n = refl

turned_back : (flips : Bool) (c : ℤ) → signed (opposite flips (is_negative c)) (unsigned_abs c) ≡ turn flips c
turned_back flips c = signed_turned flips (is_negative c) (unsigned_abs c) ∙ ap (turn flips) (signed_back c)

turned_short : (flips : Bool) (c : ℤ) → IsShort c → IsShort (turn flips c)
turned_short true c short = omega (arith, ints, short)
turned_short false c short = short

coef_back : (flips : Bool) (c : ℤ) → IsShort c → wrap (signed (opposite flips (is_negative c)) (unsigned_abs c)) ≡ turn flips c
coef_back flips c short = ap wrap (turned_back flips c) ∙ wrap_short (turn flips c) (turned_short flips c short)

-- ---- names

module _ (vars : List (List ℕ)) (names : RelNames) (variable : ℕ → List ℕ) (Known : ℕ → Type 0) where
  -- each name that is printed is found at its number
  pub record AreFound : Type 0 where
    pub variables : (n : ℕ) → Known n → (list_any (bytes_eq (variable n)) vars ≡ true) × (number_of vars (variable n) ≡ n)
    pub params : (n : ℕ) → n < length names.params → (list_any (bytes_eq (name_at names.params n)) vars ≡ false) × (list_any (bytes_eq (name_at names.params n)) names.params ≡ true) × (number_of names.params (name_at names.params n) ≡ n)
    pub funs : (n : ℕ) → n < length names.funs → (list_any (bytes_eq (name_at names.funs n)) vars ≡ false) × (list_any (bytes_eq (name_at names.funs n)) names.funs ≡ true) × (number_of names.funs (name_at names.funs n) ≡ n)

  abbrev naming : Naming
  naming = record { variable = variable; param = name_at names.params; fun = name_at names.funs }

  -- the fact uses no new name, and no variable has brackets there
  abbrev pub IsKept : Fact → Type 0
  IsKept fact = (noted vars names fact.role ≡ names) × (is_bracketed vars fact.role ≡ false)

  abbrev pub AreKept : List Fact → Type 0
  AreKept facts = AllByRecursion IsKept facts

  pub names_kept : (facts : List Fact) → AreKept facts → fact_names vars names facts ≡ names
  names_kept [] kept = refl
  names_kept (fact ∷ facts) kept = ap (λ (names : RelNames). fact_names vars names facts) kept.0.0 ∙ names_kept facts kept.1

  pub none_bracketed : (facts : List Fact) → AreKept facts → list_any (λ (fact : Fact). is_bracketed vars fact.role) facts ≡ false
  none_bracketed [] kept = refl
  none_bracketed (fact ∷ facts) kept = rw kept.0.1 (none_bracketed facts kept.1)

  module _ (found : AreFound) where
    variable_means : (n : ℕ) → Known n → plain_atom vars names (variable n) ≡ Atom.Var n
    variable_means n known = let is = found.variables n known in rw is.0 (ap Atom.Var is.1)

    param_means : (n : ℕ) → n < length names.params → plain_atom vars names (name_at names.params n) ≡ Atom.Param n
    param_means n inside = let is = found.params n inside in rw is.0 (ap Atom.Param is.2)

    variable_kept : (n : ℕ) → Known n → noted vars names (Role.Plain (variable n)) ≡ names
    variable_kept n known = let is = found.variables n known in rw is.0 refl

    param_kept : (n : ℕ) → n < length names.params → noted vars names (Role.Plain (name_at names.params n)) ≡ names
    param_kept n inside = let is = found.params n inside in rw (is.0, is.1) refl

    fun_kept : (n : ℕ) → n < length names.funs → noted vars names (Role.Entry (name_at names.funs n)) ≡ names
    fun_kept n inside = let is = found.funs n inside in rw is.1 refl

    -- ---- the facts

    constant_kept : (first : Bool) (c : ℤ) → AreKept (flat_map mono_facts (raw_constant first c))
    constant_kept first c = by (is_left_out first c) where
      by : (b : Bool) → AreKept (flat_map mono_facts (if b then [] else raw_signed (is_negative c) (product (unsigned_abs c) None) ∷ []))
      by true = tt
      by false = ((refl, refl), tt)

    mutual
      pub term_kept : (term : Term) → Variables Known term → IsNamed names term → AreKept (ix_facts (raw_term naming term))
      term_kept (Term' shape monos constant) known named =
          let raw = raw_row naming true monos constant in
          subst AreKept (sym (ix_facts_are (roll-RawIx (record { monos = raw })) ∙ ap (λ ix. flat_map mono_facts ix.monos) (out-roll-RawIx (record { monos = raw })))) (row_kept true monos constant known named.0)

      row_kept : {n : _} (first : Bool) (row : Row_of-Mono n) (constant : ℤ) → SumVariables Known row → AreNamed names row → AreKept (flat_map mono_facts (raw_row naming first row constant))
      row_kept first end_of-Mono constant known named = constant_kept first constant
      row_kept first (more_of-Mono coef atom others) constant known named =
          join_each IsKept (atom_facts (unsigned_abs coef) (raw_atom naming atom)) (flat_map mono_facts (raw_row naming false others constant)) (atom_kept (unsigned_abs coef) atom known.0 named.1) (row_kept false others constant known.1 named.2)

      atom_kept : (number : ℕ) (atom : Atom) → AtomVariables Known atom → AtomIsNamed names atom → AreKept (atom_facts number (raw_atom naming atom))
      atom_kept number (Atom.Var n) known named = ((variable_kept n known, refl), tt)
      atom_kept number (Atom.Param n) known named = ((param_kept n named, refl), tt)
      atom_kept number (Atom.App fun arg) known named = ((fun_kept fun named.0, (found.funs fun named.0).0), term_kept arg known named.1)

    -- ---- the meaning

    constant_means : (flips first : Bool) (c : ℤ) → flat_map (raw_monos vars names flips) (raw_constant first c) ≡ []
    constant_means flips first c = by (is_left_out first c) where
      by : (b : Bool) → flat_map (raw_monos vars names flips) (if b then [] else raw_signed (is_negative c) (product (unsigned_abs c) None) ∷ []) ≡ []
      by true = refl
      by false = refl

    -- numbers that stand alone
    abbrev alone : Bool → ℤ → List RawMono → ℤ
    alone flips start monos = fold (λ total (mono : RawMono). total +ℤ part_of flips mono) start monos

    left_out_zero : (first : Bool) (k : ℕ) → (not first && (k == 0)) ≡ true → k ≡ 0
    left_out_zero true k e = absurd cc
    left_out_zero false k e = grind (arith, nat_tests)

    turned_zero : (flips : Bool) (z c : ℤ) → unsigned_abs c ≡ 0 → z ≡ z +ℤ turn flips c
    turned_zero true z c e = omega (arith, ints, e)
    turned_zero false z c e = omega (arith, ints, e)

    constant_alone : (flips first : Bool) (c z : ℤ) → alone flips z (raw_constant first c) ≡ z +ℤ turn flips c
    constant_alone flips first c z = by (is_left_out first c) refl where
      by : (b : Bool) → is_left_out first c ≡ b → alone flips z (if b then [] else raw_signed (is_negative c) (product (unsigned_abs c) None) ∷ []) ≡ z +ℤ turn flips c
      by true e = turned_zero flips z c (left_out_zero first (unsigned_abs c) e)
      by false e = ap (λ (n : ℤ). z +ℤ n) (turned_back flips c)

    none_alone : (minus : Bool) (number : ℕ) (atom : Atom) (z : ℤ) → z +ℤ part_with minus number (raw_atom naming atom) ≡ z
    none_alone minus number (Atom.Var n) z = omega (arith, ints)
    none_alone minus number (Atom.Param n) z = omega (arith, ints)
    none_alone minus number (Atom.App fun arg) z = omega (arith, ints)

    row_alone : {n : _} (flips first : Bool) (row : Row_of-Mono n) (c z : ℤ) → alone flips z (raw_row naming first row c) ≡ z +ℤ turn flips c
    row_alone flips first end_of-Mono c z = constant_alone flips first c z
    row_alone flips first (more_of-Mono coef atom others) c z =
        ap (λ (z : ℤ). alone flips z (raw_row naming false others c)) (none_alone (opposite flips (is_negative coef)) (unsigned_abs coef) atom z) ∙ row_alone flips false others c z

    pub constant_is : (flips : Bool) (term : Term) → constant_of flips (raw_term naming term) ≡ turn flips (out-Term term).constant
    unfolding out-Term denote.Hole.Carrier.out
    constant_is flips (Term' shape monos constant) =
        let raw = raw_row naming true monos constant in
        ap (λ ix. alone flips (pos 0) ix.monos) (out-roll-RawIx (record { monos = raw })) ∙ row_alone flips true monos constant (pos 0) ∙ omega (arith, ints)

    abbrev raws_mean : Bool → List RawMono → List Mono
    raws_mean flips monos = flat_map (raw_monos vars names flips) monos

    mono_means : (flips : Bool) (coef : ℤ) (atom meant : Atom) → IsShort coef → meant ≡ atom → monomial (opposite flips (is_negative coef)) (unsigned_abs coef) meant ≡ record { coef = turn flips coef; atom = atom } ∷ []
    mono_means flips coef atom meant short e = λ i. record { coef = coef_back flips coef short i; atom = e i } ∷ []

    ix_means_by : (flips : Bool) (raw : List RawMono) → ix_monos vars names flips (roll-RawIx (record { monos = raw })) ≡ raws_mean flips raw
    ix_means_by flips raw = ix_monos_are vars names flips (roll-RawIx (record { monos = raw })) ∙ ap (λ ix. raws_mean flips ix.monos) (out-roll-RawIx (record { monos = raw }))

    -- told of the monomials as a list
    term_from : (raw : List RawMono) (monos : List Mono) (constant : ℤ) → IsShort constant → raws_mean false raw ≡ turned false monos → alone false (pos 0) raw ≡ pos 0 +ℤ constant
        → term_of vars names (roll-RawIx (record { monos = raw })) ≡ roll-Term (record { monos = monos; constant = constant })
    term_from raw monos constant short means number =
        let ix = roll-RawIx (record { monos = raw }) in
        let all : ix_monos vars names false ix ≡ monos = ix_means_by false raw ∙ means ∙ turned_not monos in
        let sum : constant_of false ix ≡ constant = ap (λ ix. alone false (pos 0) ix.monos) (out-roll-RawIx (record { monos = raw })) ∙ number ∙ omega (arith, ints) in
        term_is vars names ix ∙ (λ i. roll-Term (record { monos = all i; constant = (ap wrap sum ∙ wrap_short constant short) i }))

    rolled : (shape : _) (monos : Row_of-Mono _) (constant : ℤ) → roll-Term (record { monos = items-the_row-Mono _ monos; constant = constant }) ≡ Term' shape monos constant
    unfolding out-Term denote.Hole.Carrier.out
    rolled shape monos constant = ap (λ (of : List Mono). roll-Term (record { monos = of; constant = constant })) (sym (items_shown-the_row-Mono-0 shape monos)) ∙ roll-out-Term (Term' shape monos constant)

    mutual
      pub term_means : (term : Term) → Variables Known term → IsNamed names term → term_of vars names (raw_term naming term) ≡ term
      term_means (Term' shape monos constant) known named =
          term_from (raw_row naming true monos constant) (items-the_row-Mono _ monos) constant named.1 (row_means false true monos constant known named.0) (row_alone false true monos constant (pos 0))
          ∙ rolled shape monos constant

      row_means : {n : _} (flips first : Bool) (row : Row_of-Mono n) (constant : ℤ) → SumVariables Known row → AreNamed names row → raws_mean flips (raw_row naming first row constant) ≡ turned flips (items-the_row-Mono n row)
      row_means flips first end_of-Mono constant known named = constant_means flips first constant
      row_means flips first (more_of-Mono coef atom others) constant known named =
          let here = atom_means flips coef atom known.0 named.1 named.0 in
          let behind = row_means flips false others constant known.1 named.2 in
          λ i. here i ++ behind i

      atom_means : (flips : Bool) (coef : ℤ) (atom : Atom) → AtomVariables Known atom → AtomIsNamed names atom → IsShort coef
          → mono_of vars names (opposite flips (is_negative coef)) (unsigned_abs coef) (raw_atom naming atom) ≡ record { coef = turn flips coef; atom = atom } ∷ []
      atom_means flips coef (Atom.Var n) known named short = mono_means flips coef (Atom.Var n) _ short (variable_means n known)
      atom_means flips coef (Atom.Param n) known named short = mono_means flips coef (Atom.Param n) _ short (param_means n named)
      atom_means flips coef (Atom.App fun arg) known named short =
          mono_means flips coef (Atom.App fun arg) _ short (λ i. Atom.App ((found.funs fun named.0).2 i) (term_means arg known named.1 i))

    pub monos_mean : (flips : Bool) (term : Term) → Variables Known term → IsNamed names term → ix_monos vars names flips (raw_term naming term) ≡ turned flips (out-Term term).monos
    unfolding out-Term denote.Hole.Carrier.out
    monos_mean flips (Term' shape monos constant) known named =
        ix_means_by flips (raw_row naming true monos constant) ∙ row_means flips true monos constant known named.0 ∙ ap (turned flips) (sym (items_shown-the_row-Mono-0 shape monos))
