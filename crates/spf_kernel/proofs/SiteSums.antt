-- The sites of terms and values, told of their parts as lists, and sums over the front of a list.
use Rattle.spf_kernel.proofs.Common.{◌≡◌, ℕ, ◌+◌, List, refl, ap, sym, ◌∙◌, sum_by-cons, sum_by, ℤ, Term, Term', roll-Term, out-roll-Term, Row_of-Mono, end_of-Mono, more_of-Mono, items-the_row-Mono, items_shown-the_row-Mono-0, Mono, Value, Value', roll-Value, out-roll-Value, Row_of-Prod, end_of-Prod, more_of-Prod, items-the_row-Prod, items_shown-the_row-Prod-1, Row_of-Factor, end_of-Factor, more_of-Factor, items-the_row-Factor, items_shown-the_row-Factor-0, Prod, applications, sum_applications, atom_applications, out-Term, out-Value, shown-the_row-Factor-0, ◌<◌, ◌≤◌, [], ◌∷◌, ◌++◌, length, take, get_or, arith, take_more, sum_by_push, value_sites, fact_sites, prod_sites, sum_by-take-le, prods_sites, facts_sites, Weights, Cond, cond_sites, of_data}

-- one element more of the front of a list
module _ {A : Type 0} (f : A → ℕ) (xs : List A) (n : ℕ) (x : A) (inside : n < length xs) (at : x ≡ get_or xs n x) where
  sum_more : sum_by f (take (n + 1) xs) ≡ sum_by f (take n xs) + f x
  sum_more = ap (sum_by f) (take_more xs n x inside ∙ ap (λ (y : A). take n xs ++ y ∷ []) (sym at)) ∙ sum_by_push f (take n xs) x

  pub sum_within : sum_by f (take n xs) + f x ≤ sum_by f xs
  sum_within = omega (arith, sum_more, sum_by-take-le f xs (n + 1))

-- ---- terms

abbrev pub mono_applications : Mono → ℕ
mono_applications mono = atom_applications mono.atom

row_applications : {n : _} (row : Row_of-Mono n) → sum_applications row ≡ sum_by mono_applications (items-the_row-Mono n row)
row_applications end_of-Mono = refl
row_applications (more_of-Mono coef atom others) =
    ap (λ more. atom_applications atom + more) (row_applications others) ∙ sym (sum_by-cons mono_applications (record { coef = coef; atom = atom }) (items-the_row-Mono _ others))

applications_are : (term : Term) → applications term ≡ sum_by mono_applications (out-Term term).monos
unfolding out-Term denote.Hole.Carrier.out
applications_are (Term' shape monos constant) = row_applications monos ∙ ap (sum_by mono_applications) (sym (items_shown-the_row-Mono-0 shape monos))

pub rolled_term : (monos : List Mono) (constant : ℤ) → applications (roll-Term (record { monos = monos; constant = constant })) ≡ sum_by mono_applications monos
rolled_term monos constant =
    applications_are (roll-Term (record { monos = monos; constant = constant }))
    ∙ ap (λ term. sum_by mono_applications term.monos) (out-roll-Term (record { monos = monos; constant = constant }))

-- ---- values

module _ (weights : Weights) where
  facts_are : {n : _} (row : Row_of-Factor n) → facts_sites weights row ≡ sum_by (fact_sites weights) (items-the_row-Factor n row)
  facts_are end_of-Factor = refl
  facts_are (more_of-Factor fact others) = ap (λ more. fact_sites weights fact + more) (facts_are others) ∙ sym (sum_by-cons (fact_sites weights) fact (items-the_row-Factor _ others))

  prods_are : {n : _} (row : Row_of-Prod n) → prods_sites weights row ≡ sum_by (prod_sites weights) (items-the_row-Prod n row)
  prods_are end_of-Prod = refl
  prods_are (more_of-Prod minus shape facts others) =
      let here = facts_are facts ∙ ap (sum_by (fact_sites weights)) (sym (items_shown-the_row-Factor-0 shape facts)) in
      let more = prods_are others in
      (λ i. here i + more i) ∙ sym (sum_by-cons (prod_sites weights) (record { minus = minus; facts = shown-the_row-Factor-0 shape facts }) (items-the_row-Prod _ others))

  pub value_sites_are : (value : Value) → value_sites weights value ≡ sum_by (prod_sites weights) (out-Value value).prods
  unfolding out-Value denote.Hole.Carrier.out
  value_sites_are (Value' shape prods) = prods_are prods ∙ ap (sum_by (prod_sites weights)) (sym (items_shown-the_row-Prod-1 shape prods))

  pub rolled_value : (prods : List Prod) → value_sites weights (roll-Value (record { prods = prods })) ≡ sum_by (prod_sites weights) prods
  rolled_value prods = value_sites_are (roll-Value (record { prods = prods })) ∙ ap (λ value. sum_by (prod_sites weights) value.prods) (out-roll-Value (record { prods = prods }))

-- conditions have no data sites
pub no_conds : (conds : List Cond) → sum_by (cond_sites of_data) conds ≡ 0
no_conds [] = refl
no_conds (cond ∷ conds) = omega (arith, sum_by-cons (cond_sites of_data) cond conds, no_conds conds)
