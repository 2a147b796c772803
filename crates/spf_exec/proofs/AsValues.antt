-- Terms as values: they have the term's value, and change and access nothing.
use Rattle.std.proofs.Common.{◌≡◌, ℕ, suc, ◌+◌, ◌*◌, ℤ, pos, negsuc, neg_ℤ, ◌+ℤ◌, ◌*ℤ◌, List, [], ◌∷◌, map, refl, ap, sym, ◌∙◌, subst, arith}
use Rattle.std.specs.Prelude.{unsigned_abs, ⊤}
use Rattle.std.specs.List.{AllByRecursion}
use Rattle.std.proofs.lemmas.Int.{ints}
use Rattle.std.proofs.Math.IntN.{pos-*ℤ-pos, negsuc-*ℤ-pos, pos-*ℤ-negsuc, neg_ℤ-neg_ℤ, negsuc-*ℤ-negsuc}
use Rattle.spf_term.specs.Environment.{Environment}
use Rattle.spf_term.specs.Value as term
use Rattle.spf_term.specs.Value.{atom_value}
use Rattle.spf_term.specs.declared.term.Atom.{Atom, Var, Param, App}
use Rattle.spf_term.specs.declared.term.Mono.{Mono}
use Rattle.spf_term.specs.declared.term.Term.{Term, out-Term}
use Rattle.spf_term.proofs.Monos as monos
use Rattle.spf_kernel.specs.BodySites.{fact_sites, facts_sites}
use Rattle.spf_kernel.specs.Kept.{Property, KeepsValue, KeepProds, KeepFactors, KeepsFactor}
use Rattle.spf_kernel.specs.declared.tree.Value.{Value, Value', out-roll-Value, Row_of-Prod, end_of-Prod, more_of-Prod, Row_of-Factor, end_of-Factor, more_of-Factor}
use Rattle.spf_kernel.specs.declared.tree.Factor.{Factor}
use Rattle.spf_kernel.specs.declared.tree.Factor.TheVariants as factor_is
use Rattle.spf_store.specs.Effect as effect
use Rattle.spf_store.specs.Effect.{fact_value, facts_value, prods_value, signed}
use Rattle.spf_store.specs.Products.{sum}
use Rattle.spf_store.specs.Event.{Read}
use Rattle.spf_store.specs.Trace.{fact_trace, facts_trace, prods_trace, term_trace, value_trace}
use Rattle.spf_store.proofs.Rows.{KeepsInTurn, value_is, value_keeps}
use Rattle.spf_exec.specs.Rewritten.{as_value, factor_of, is_negative, products_of}
use Rattle.spf_exec.proofs.Alike.{Silent, both_silent, reads_silent}

-- a term as a value keeps what numbers and its atoms as factors keep
module _ (p : Property) (number : (n : ℕ) → p.leaf (factor_is.Number n)) where
  products_kept : (monos : List Mono) (constant : ℤ) → AllByRecursion (λ (mono : Mono). KeepsFactor p (factor_of mono.atom)) monos → AllByRecursion (KeepsInTurn p) (products_of monos constant)
  products_kept [] constant each = ((number (unsigned_abs constant), tt), tt)
  products_kept (mono ∷ monos) constant each = ((number (unsigned_abs mono.coef), (each.0, tt)), products_kept monos constant each.1)

  pub term_kept : (term : Term) → AllByRecursion (λ (mono : Mono). KeepsFactor p (factor_of mono.atom)) (out-Term term).monos → KeepsValue p (as_value term)
  term_kept term each =
      let prods = products_of (out-Term term).monos (out-Term term).constant in
      subst (λ (keeps : Type 0). keeps) (sym (value_keeps p (as_value term) ∙ ap (λ value. AllByRecursion (KeepsInTurn p) value.prods) (out-roll-Value (record { prods = prods }))))
      (products_kept (out-Term term).monos (out-Term term).constant each)

-- ---- traces

-- any factor but an element of a data array
abbrev IsPlain : Factor → Type 0
IsPlain (factor_is.Cell array sub) = ⊥
IsPlain fact = ⊤

abbrev plain : Property
plain = record { ix = λ term. ⊤; leaf = IsPlain; array = λ number. ⊤ }

module _ (env : Environment) (starts : List ℕ) (variables : List ℤ) where
  mutual
    value_silent : (site : ℕ) (value : Value) → KeepsValue plain value → Silent env starts (value_trace env variables site value)
    value_silent site (Value' shape prods) kept = prods_silent site prods kept

    prods_silent : {n : _} (site : ℕ) (row : Row_of-Prod n) → KeepProds plain row → Silent env starts (prods_trace env variables site row)
    prods_silent site end_of-Prod kept = reads_silent env starts []
    prods_silent site (more_of-Prod minus shape facts others) kept =
        both_silent env starts (facts_trace env variables site facts) (prods_trace env variables (site + facts_sites facts) others) (facts_silent site facts kept.0) (prods_silent (site + facts_sites facts) others kept.1)

    facts_silent : {n : _} (site : ℕ) (row : Row_of-Factor n) → KeepFactors plain row → Silent env starts (facts_trace env variables site row)
    facts_silent site end_of-Factor kept = reads_silent env starts []
    facts_silent site (more_of-Factor fact others) kept =
        both_silent env starts (fact_trace env variables site fact) (facts_trace env variables (site + fact_sites fact) others) (fact_silent site fact kept.0) (facts_silent (site + fact_sites fact) others kept.1)

    fact_silent : (site : ℕ) (fact : Factor) → KeepsFactor plain fact → Silent env starts (fact_trace env variables site fact)
    fact_silent site (factor_is.Number number) kept = reads_silent env starts []
    fact_silent site (factor_is.Paren inside) kept = value_silent site inside kept
    fact_silent site (factor_is.Param number) kept = reads_silent env starts []
    fact_silent site (factor_is.Var number) kept = reads_silent env starts []
    fact_silent site (factor_is.Index array sub) kept =
        both_silent env starts (term_trace env variables (site + 1) sub) (map Read (record { site = site; table = array; place = term.value env variables sub } ∷ []))
        (reads_silent env starts (term.entries env variables (site + 1) sub)) (reads_silent env starts (record { site = site; table = array; place = term.value env variables sub } ∷ []))
    fact_silent site (factor_is.Cell array sub) kept = absurd kept

  plain_atom : (atom : Atom) → KeepsFactor plain (factor_of atom)
  plain_atom (Var number) = tt
  plain_atom (Param number) = tt
  plain_atom (App fun arg) = tt

  plain_monos : (monos : List Mono) → AllByRecursion (λ (mono : Mono). KeepsFactor plain (factor_of mono.atom)) monos
  plain_monos [] = tt
  plain_monos (mono ∷ monos) = (plain_atom mono.atom, plain_monos monos)

  -- a term as a value changes and accesses nothing
  pub term_silent : (site : ℕ) (term : Term) → Silent env starts (value_trace env variables site (as_value term))
  term_silent site term = value_silent site (as_value term) (term_kept plain (λ n. tt) term (plain_monos (out-Term term).monos))

-- ---- values

opposite : (n : ℕ) (number : ℤ) → neg_ℤ (pos (suc n) *ℤ number) ≡ negsuc n *ℤ number
opposite n (pos m) = ap neg_ℤ (pos-*ℤ-pos (suc n) m) ∙ sym (negsuc-*ℤ-pos n m)
opposite n (negsuc m) = ap neg_ℤ (pos-*ℤ-negsuc (suc n) m) ∙ neg_ℤ-neg_ℤ (pos (suc n * suc m)) ∙ sym (negsuc-*ℤ-negsuc n m)

signed_is : (coef number : ℤ) → signed (is_negative coef) (pos (unsigned_abs coef) *ℤ number) ≡ coef *ℤ number
signed_is (pos n) number = refl
signed_is (negsuc n) number = opposite n number

times_one : (number : ℤ) → number *ℤ pos 1 ≡ number
times_one number = omega (arith, ints)

module _ (env : Environment) (starts : List ℕ) (variables : List ℤ) (cells : ℕ → ℤ) where
  atom_is : (atom : Atom) → fact_value env starts variables cells (factor_of atom) ≡ atom_value env variables atom
  atom_is (Var number) = refl
  atom_is (Param number) = refl
  atom_is (App fun arg) = refl

  products_are : (terms : List Mono) (constant : ℤ) → sum env starts variables cells (products_of terms constant) ≡ monos.list_value env variables terms +ℤ constant
  products_are [] constant =
      let first : signed (is_negative constant) (pos (unsigned_abs constant) *ℤ pos 1) ≡ constant = signed_is constant (pos 1) ∙ times_one constant in
      omega (arith, ints, first)
  products_are (mono ∷ terms) constant =
      let number = atom_value env variables mono.atom in
      let factor : fact_value env starts variables cells (factor_of mono.atom) *ℤ pos 1 ≡ number = times_one (fact_value env starts variables cells (factor_of mono.atom)) ∙ atom_is mono.atom in
      let first : signed (is_negative mono.coef) (pos (unsigned_abs mono.coef) *ℤ (fact_value env starts variables cells (factor_of mono.atom) *ℤ pos 1)) ≡ mono.coef *ℤ number =
      signed_is mono.coef (fact_value env starts variables cells (factor_of mono.atom) *ℤ pos 1) ∙ ap (λ z. mono.coef *ℤ z) factor in
      let rest = products_are terms constant in
      omega (arith, ints, first, rest)

  -- a term as a value has its value
  pub term_value : (of : Term) → effect.value env starts variables cells (as_value of) ≡ term.value env variables of
  term_value of =
      let prods = products_of (out-Term of).monos (out-Term of).constant in
      value_is env starts variables cells (as_value of) ∙ ap (λ value. sum env starts variables cells value.prods) (out-roll-Value (record { prods = prods }))
      ∙ products_are (out-Term of).monos (out-Term of).constant ∙ sym (monos.value_is env variables of)
