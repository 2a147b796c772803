-- Printed terms, told of their monomials as a list; lists of numbers.
use Rattle.std.proofs.Common.{◌≡◌, ℕ, suc, ◌+◌, ◌-◌, ◌<◌, ℤ, List, ◌∷◌, ◌++◌, codes, refl, ap, ◌∙◌, sym, arith}
use Rattle.std.specs.Int.{is_negative}
use Rattle.std.specs.List.{range_with_len}
use Rattle.spf_reltext.specs.Printed.{Naming, atom_text, factor_text, lead, monos_text, numbered, parts_from, sign_text, sum_from, term_text}
use Rattle.spf_term.specs.declared.term.Mono.{Mono}
use Rattle.spf_term.specs.declared.term.Term.{Term, Term', Row_of-Mono, end_of-Mono, more_of-Mono, items-the_row-Mono, items_shown-the_row-Mono-0}
unfoldable use Rattle.spf_term.specs.declared.term.Term.{out-Term}

module _ (naming : Naming) where
  monos_are : {n : _} (at : ℕ) (row : Row_of-Mono n) (constant : ℤ) → monos_text naming at row constant ≡ sum_from naming at (items-the_row-Mono n row) constant
  monos_are at end_of-Mono constant = refl
  monos_are at (more_of-Mono coef atom others) constant =
      ap (λ (text : List ℕ). sign_text at (is_negative coef) ++ (factor_text coef ++ atom_text naming atom) ++ text) (monos_are (at + 1) others constant)

  pub term_text_is : (term : Term) → term_text naming term ≡ sum_from naming 0 (out-Term term).monos (out-Term term).constant
  unfolding out-Term denote.Hole.Carrier.out
  term_text_is (Term' shape monos constant) =
      monos_are 0 monos constant ∙ ap (λ (list : List Mono). sum_from naming 0 list constant) (sym (items_shown-the_row-Mono-0 shape monos))

-- the numbers from n up to a count above it
range_next : (n count : ℕ) → n < count → range_with_len n (count - n) ≡ n ∷ range_with_len (n + 1) (count - (n + 1))
range_next n count above = by (count - n) (omega arith) where
  by : (left : ℕ) → left ≡ suc (count - (n + 1)) → range_with_len n left ≡ n ∷ range_with_len (n + 1) (count - (n + 1))
  by left e = rw e refl

-- one more variable
pub variables_next : (opening letter : List ℕ) (n count : ℕ) → n < count → parts_from opening (codes ", ") (numbered letter) n (range_with_len n (count - n))
    ≡ lead opening (codes ", ") n ++ numbered letter n ++ parts_from opening (codes ", ") (numbered letter) (n + 1) (range_with_len (n + 1) (count - (n + 1)))
variables_next opening letter n count above = ap (parts_from opening (codes ", ") (numbered letter) n) (range_next n count above)
