-- Values, told of their products and factors as lists.
use Rattle.std.proofs.Common.{◌≡◌, ℕ, ◌+◌, ◌<◌, ◌^◌, ℤ, length, get_or, drop, List, ◌∷◌, ◌++◌, All, refl, sym, ap, ◌∙◌, subst, arith}
use Rattle.std.proofs.lemmas.List.{drop_more}
use Rattle.std.proofs.lemmas.List.Sums.{sum_by-cons}
use Rattle.std.specs.List.{sum_by}
use Rattle.spf_term.specs.Environment.{Environment}
use Rattle.spf_kernel.specs.declared.tree.Prod.{Prod}
use Rattle.spf_kernel.specs.declared.tree.Value.{Value, Value', out-Value, Row_of-Prod, end_of-Prod, more_of-Prod, items-the_row-Prod, items_shown-the_row-Prod-1, Row_of-Factor, end_of-Factor, more_of-Factor, items-the_row-Factor, items_shown-the_row-Factor-0}
use Rattle.spf_kernel.specs.declared.tree.Factor.TheBlock.{shown-the_row-Factor-0}
use Rattle.spf_kernel.specs.BodySites.{fact_sites, facts_sites, prod_sites, value_sites}
use Rattle.spf_store.specs.Event.{Event}
use Rattle.spf_store.specs.Small.{IsSmallFactor, IsSmallValue, small}
use Rattle.spf_store.specs.Trace.{fact_trace, facts_trace, one_by_one, prods_trace, value_trace}
use Rattle.spf_store.proofs.Rows.{KeepsProd, value_kept}
use Rattle.spf_store.proofs.SiteCounts.{facts_are, value_sites_are}
use Rattle.spf_access.specs.ValueTrace.{prod_trace}

-- the sites of a piece that a loop has come to have small numbers
pub piece_numbered : {A : Type 0} (sites : A → ℕ) (pieces : List A) (index : ℕ) (piece : A) (site next : ℕ) → index < length pieces → piece ≡ get_or pieces index piece →
    next + sum_by sites (drop index pieces) ≡ site + sum_by sites pieces → site + sum_by sites pieces < 2 ^ 32 → next + sites piece < 2 ^ 32
piece_numbered {A = A} sites pieces index piece site next inside at number low =
    let ahead : drop index pieces ≡ piece ∷ drop (index + 1) pieces = drop_more pieces index piece inside ∙ ap (λ (first : A). first ∷ drop (index + 1) pieces) (sym at) in
    omega (arith, ap (sum_by sites) ahead, sum_by-cons sites piece (drop (index + 1) pieces), number, low)

module _ (env : Environment) (variables : List ℤ) where
  facts_trace_are : {n : _} (site : ℕ) (row : Row_of-Factor n) → facts_trace env variables site row ≡ one_by_one fact_sites (fact_trace env variables) site (items-the_row-Factor n row)
  facts_trace_are site end_of-Factor = refl
  facts_trace_are site (more_of-Factor fact others) = ap (λ (more : List Event). fact_trace env variables site fact ++ more) (facts_trace_are (site + fact_sites fact) others)

  prods_trace_are : {n : _} (site : ℕ) (row : Row_of-Prod n) → prods_trace env variables site row ≡ one_by_one prod_sites (prod_trace env variables) site (items-the_row-Prod n row)
  prods_trace_are site end_of-Prod = refl
  prods_trace_are site (more_of-Prod minus shape facts others) =
      let items = items_shown-the_row-Factor-0 shape facts in
      let here = facts_trace_are site facts ∙ ap (one_by_one fact_sites (fact_trace env variables) site) (sym items) in
      let count : site + facts_sites facts ≡ site + prod_sites (record { minus = minus; facts = shown-the_row-Factor-0 shape facts }) = ap (λ n. site + n) (facts_are facts ∙ ap (sum_by fact_sites) (sym items)) in
      let more = prods_trace_are (site + facts_sites facts) others ∙ ap (λ n. one_by_one prod_sites (prod_trace env variables) n (items-the_row-Prod _ others)) count in
      λ i. here i ++ more i

  pub value_trace_are : (site : ℕ) (value : Value) → value_trace env variables site value ≡ one_by_one prod_sites (prod_trace env variables) site (out-Value value).prods
  unfolding out-Value denote.Hole.Carrier.out
  value_trace_are site (Value' shape prods) = prods_trace_are site prods ∙ ap (one_by_one prod_sites (prod_trace env variables) site) (sym (items_shown-the_row-Prod-1 shape prods))

-- the same of the list that a loop goes over
module _ (env : Environment) (variables : List ℤ) (value : Value) (items : List Prod) (same : items ≡ (out-Value value).prods) where
  pub items_trace : (site : ℕ) → one_by_one prod_sites (prod_trace env variables) site items ≡ value_trace env variables site value
  items_trace site = ap (one_by_one prod_sites (prod_trace env variables) site) same ∙ sym (value_trace_are env variables site value)

  pub items_sites : sum_by prod_sites items ≡ value_sites value
  items_sites = ap (sum_by prod_sites) same ∙ sym (value_sites_are value)

  pub items_small : IsSmallValue env variables value → All (λ (prod : Prod). All (IsSmallFactor env variables) prod.facts) items
  items_small kept = subst (All (KeepsProd (small env variables))) (sym same) (value_kept (small env variables) value kept)
