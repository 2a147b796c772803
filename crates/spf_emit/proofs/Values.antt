-- The places and the text of a value, told of its products as a list.
use Rattle.std.proofs.Common.{◌≡◌, ℕ, ◌+◌, Bool, List, ◌∷◌, ◌++◌, refl, ap, ◌∙◌, sym}
use Rattle.std.proofs.lemmas.List.Sums.{sum_by-cons}
use Rattle.std.specs.List.{sum_by}
use Rattle.spf_reltext.specs.Printed.{sign_text}
use Rattle.spf_kernel.specs.declared.tree.Value.{Value, Value', out-Value, Row_of-Prod, end_of-Prod, more_of-Prod, items-the_row-Prod, items_shown-the_row-Prod-1, Row_of-Factor, end_of-Factor, more_of-Factor, items-the_row-Factor, items_shown-the_row-Factor-0}
use Rattle.spf_kernel.specs.declared.tree.Factor.{Factor}
use Rattle.spf_kernel.specs.declared.tree.Prod.{Prod}
use Rattle.spf_emit.specs.Places.{fact_places, facts_places, prod_places, prods_places, value_places}
use Rattle.spf_emit.specs.Text.{Placed, fact_part, facts_text, parts_text, prod_part, prods_text, value_text}
use Rattle.spf_emit.specs.declared.names.Names.{Names}

facts_counted : {n : _} (row : Row_of-Factor n) → facts_places row ≡ sum_by fact_places (items-the_row-Factor n row)
facts_counted end_of-Factor = refl
facts_counted (more_of-Factor fact others) = ap (λ more. fact_places fact + more) (facts_counted others) ∙ sym (sum_by-cons fact_places fact (items-the_row-Factor _ others))

prods_more : (minus : Bool) {facts shown : List Factor} (others : List Prod) {here more : ℕ} → shown ≡ facts → here ≡ sum_by fact_places facts → more ≡ sum_by prod_places others →
    here + more ≡ sum_by prod_places (record { minus = minus; facts = shown } ∷ others)
prods_more minus {facts} {shown} others is here more =
    (λ i. here i + more i) ∙ ap (λ count. count + sum_by prod_places others) (ap (sum_by fact_places) (sym is)) ∙ sym (sum_by-cons prod_places (record { minus = minus; facts = shown }) others)

prods_counted : {n : _} (row : Row_of-Prod n) → prods_places row ≡ sum_by prod_places (items-the_row-Prod n row)
prods_counted end_of-Prod = refl
prods_counted (more_of-Prod minus shape facts others) = prods_more minus (items-the_row-Prod _ others) (items_shown-the_row-Factor-0 shape facts) (facts_counted facts) (prods_counted others)

pub value_counted : (value : Value) → value_places value ≡ sum_by prod_places (out-Value value).prods
unfolding out-Value denote.Hole.Carrier.out
value_counted (Value' shape prods) = prods_counted prods ∙ ap (sum_by prod_places) (sym (items_shown-the_row-Prod-1 shape prods))

module _ (names : Names) (placed : Placed) where
  facts_written : {n : _} (k at : ℕ) (row : Row_of-Factor n) → facts_text names placed k at row ≡ parts_text fact_places (fact_part names placed) k at (items-the_row-Factor n row)
  facts_written k at end_of-Factor = refl
  facts_written k at (more_of-Factor fact others) = ap (λ (text : List ℕ). fact_part names placed k at fact ++ text) (facts_written (k + 1) (at + fact_places fact) others)

  prods_written : {n : _} (k at : ℕ) (row : Row_of-Prod n) → prods_text names placed k at row ≡ parts_text prod_places (prod_part names placed) k at (items-the_row-Prod n row)
  prods_written k at end_of-Prod = refl
  prods_written k at (more_of-Prod minus shape facts others) =
      let here = facts_written 0 at facts ∙ ap (parts_text fact_places (fact_part names placed) 0 at) (sym (items_shown-the_row-Factor-0 shape facts)) in
      let count = facts_counted facts ∙ ap (sum_by fact_places) (sym (items_shown-the_row-Factor-0 shape facts)) in
      let more = prods_written (k + 1) (at + facts_places facts) others ∙ ap (λ (places : ℕ). parts_text prod_places (prod_part names placed) (k + 1) (at + places) (items-the_row-Prod _ others)) count in
      λ i. (sign_text k minus ++ here i) ++ more i

  pub value_written : (at : ℕ) (value : Value) → value_text names placed at value ≡ parts_text prod_places (prod_part names placed) 0 at (out-Value value).prods
  unfolding out-Value denote.Hole.Carrier.out
  value_written at (Value' shape prods) = prods_written 0 at prods ∙ ap (parts_text prod_places (prod_part names placed) 0 at) (sym (items_shown-the_row-Prod-1 shape prods))
