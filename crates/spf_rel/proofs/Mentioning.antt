-- Where a variable that isn't an input occurs, said of monomials as lists.
use Rattle.std.proofs.Common.{◌≡◌, ℕ, ◌+◌, ◌<◌, ◌≤◌, ℤ, pos, List, [], ◌∷◌, Bool, true, false, if◌then◌else◌, nat_lt, length, get_or, drop, refl, ap, sym, ◌∙◌, arith}
use Rattle.std.proofs.lemmas.Bool.Decides.{nat_tests}
use Rattle.std.proofs.lemmas.List.{drop_all}
use Rattle.spf_term.specs.declared.term.Atom.{Atom, Var, Param, App}
use Rattle.spf_term.specs.declared.term.Mono.{Mono}
use Rattle.spf_term.specs.declared.term.Term.{Term, Term', out-Term, Row_of-Mono, end_of-Mono, more_of-Mono, items-the_row-Mono, items_shown-the_row-Mono-0}
use Rattle.spf_term.proofs.Monos.{drop_next}
use Rattle.spf_rel.specs.Function.{atom_mentions_from, mentions_from, sum_mentions_from}
use Rattle.spf_rel.specs.Renumbering.{AtomVariables, SumVariables, Variables}

module _ (low : ℕ) where
  abbrev pub some_mention : List Mono → Bool
  some_mention [] = false
  some_mention (mono ∷ monos) = if atom_mentions_from low mono.atom then true else some_mention monos

  row_mentions : {n : _} (row : Row_of-Mono n) → sum_mentions_from low row ≡ some_mention (items-the_row-Mono n row)
  row_mentions end_of-Mono = refl
  row_mentions (more_of-Mono coef atom others) = ap (λ later. if atom_mentions_from low atom then true else later) (row_mentions others)

  pub mentions_are : (term : Term) → mentions_from low term ≡ some_mention (out-Term term).monos
  unfolding out-Term denote.Hole.Carrier.out
  mentions_are (Term' shape monos constant) = row_mentions monos ∙ ap some_mention (sym (items_shown-the_row-Mono-0 shape monos))

  module _ (monos : List Mono) (index : ℕ) (mono : Mono) (inside : index < length monos) (at : mono ≡ get_or monos index mono) where
    pub mention_here : atom_mentions_from low mono.atom ≡ true → some_mention (drop index monos) ≡ true
    mention_here is = ap some_mention (drop_next monos index mono inside at) ∙ ap (λ here. if here then true else some_mention (drop (index + 1) monos)) is

    pub mention_later : atom_mentions_from low mono.atom ≡ false → some_mention (drop index monos) ≡ some_mention (drop (index + 1) monos)
    mention_later is = ap some_mention (drop_next monos index mono inside at) ∙ ap (λ here. if here then true else some_mention (drop (index + 1) monos)) is

  pub mention_end : (monos : List Mono) (index : ℕ) → length monos ≤ index → some_mention (drop index monos) ≡ false
  mention_end monos index past = ap some_mention (drop_all index monos past)

  -- ---- variables of a term that mentions none from there on

  either_false : (first second : Bool) → (if first then true else second) ≡ false → (first ≡ false) × (second ≡ false)
  either_false true second is = cc
  either_false false second is = (refl, is)

  below_by : (number : ℕ) (test : Bool) → nat_lt number low ≡ test → (if test then false else true) ≡ false → number < low
  below_by number true at is = grind (arith, nat_tests)
  below_by number false at is = cc

  mutual
    atom_below : (atom : Atom) → atom_mentions_from low atom ≡ false → AtomVariables (λ number. number < low) atom
    atom_below (Var number) none = below_by number (nat_lt number low) refl none
    atom_below (Param number) none = tt
    atom_below (App fun arg) none = all_below arg none

    row_below : {n : _} (row : Row_of-Mono n) → sum_mentions_from low row ≡ false → SumVariables (λ number. number < low) row
    row_below end_of-Mono none = tt
    row_below (more_of-Mono coef atom others) none =
        let parts = either_false (atom_mentions_from low atom) (sum_mentions_from low others) none in
        (atom_below atom parts.0, row_below others parts.1)

    pub all_below : (term : Term) → mentions_from low term ≡ false → Variables (λ number. number < low) term
    all_below (Term' shape monos constant) none = row_below monos none

  -- ---- a term with lower variables alone mentions none from there on

  mutual
    atom_none : (atom : Atom) → AtomVariables (λ number. number < low) atom → atom_mentions_from low atom ≡ false
    atom_none (Var number) less = let test : nat_lt number low ≡ true = grind (arith, nat_tests) in ap (λ is. if is then false else true) test
    atom_none (Param number) h = refl
    atom_none (App fun arg) h = none_from arg h

    row_none : {n : _} (row : Row_of-Mono n) → SumVariables (λ number. number < low) row → sum_mentions_from low row ≡ false
    row_none end_of-Mono h = refl
    row_none (more_of-Mono coef atom others) h = ap (λ here. if here then true else sum_mentions_from low others) (atom_none atom h.0) ∙ row_none others h.1

    pub none_from : (term : Term) → Variables (λ number. number < low) term → mentions_from low term ≡ false
    none_from (Term' shape monos constant) h = row_none monos h
