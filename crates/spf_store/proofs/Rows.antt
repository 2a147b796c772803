-- Values, told of their products and factors as lists.
use Rattle.std.proofs.Common.{◌≡◌, ℕ, ◌+◌, ◌<◌, ℤ, pos, ◌+ℤ◌, ◌*ℤ◌, FitsSigned, w64, List, ◌∷◌, All, length, drop, get_or, refl, ap, sym, ◌∙◌, ◌≤◌, subst, arith}
use Rattle.std.proofs.lemmas.Int.{ints}
use Rattle.std.proofs.lemmas.List.{drop_all, drop_more}
use Rattle.std.specs.List.{AllByRecursion}
use Rattle.std.proofs.lemmas.List.Elements.{All-from_recursion, All-weaker}
use Rattle.spf_base.specs.Wrap.{wrap}
use Rattle.spf_term.specs.Environment.{Environment}
use Rattle.spf_kernel.specs.Kept.{Property, KeepsValue, KeepProds, KeepFactors, KeepsFactor}
use Rattle.spf_kernel.specs.declared.tree.Value.{Value, Value', out-Value, Row_of-Prod, end_of-Prod, more_of-Prod, items-the_row-Prod, items_shown-the_row-Prod-1, Row_of-Factor, end_of-Factor, more_of-Factor, items-the_row-Factor, items_shown-the_row-Factor-0}
use Rattle.spf_kernel.specs.declared.tree.Factor.{Factor}
use Rattle.spf_kernel.specs.declared.tree.Prod.{Prod}
use Rattle.spf_store.specs.Effect.{fact_value, facts_value, prods_value, signed}
use Rattle.spf_store.specs.Effect as effect
use Rattle.spf_store.specs.Products.{product, sum}
use Rattle.spf_store.proofs.Wrapped.{plus_step, times_step, wrap_small}

module _ (env : Environment) (starts : List ℕ) (variables : List ℤ) (cells : ℕ → ℤ) where
  facts_are : {n : _} (row : Row_of-Factor n) → facts_value env starts variables cells row ≡ product env starts variables cells (items-the_row-Factor n row)
  facts_are end_of-Factor = refl
  facts_are (more_of-Factor fact others) = ap (λ rest. fact_value env starts variables cells fact *ℤ rest) (facts_are others)

  prods_are : {n : _} (row : Row_of-Prod n) → prods_value env starts variables cells row ≡ sum env starts variables cells (items-the_row-Prod n row)
  prods_are end_of-Prod = refl
  prods_are (more_of-Prod minus shape facts others) =
      let here = facts_are facts ∙ ap (product env starts variables cells) (sym (items_shown-the_row-Factor-0 shape facts)) in
      let more = prods_are others in
      λ i. signed minus (here i) +ℤ more i

  pub value_is : (value : Value) → effect.value env starts variables cells value ≡ sum env starts variables cells (out-Value value).prods
  unfolding out-Value denote.Hole.Carrier.out
  value_is (Value' shape prods) = prods_are prods ∙ ap (sum env starts variables cells) (sym (items_shown-the_row-Prod-1 shape prods))

  pub times_first : {items facts : List Factor} → items ≡ facts → wrap (pos 1 *ℤ product env starts variables cells items) ≡ wrap (product env starts variables cells facts)
  times_first {items = items} same =
      let one : pos 1 *ℤ product env starts variables cells items ≡ product env starts variables cells items = omega (arith, ints) in
      ap wrap (one ∙ ap (product env starts variables cells) same)

  pub plus_first : (value : Value) (items : List Prod) → items ≡ (out-Value value).prods →
      wrap (pos 0 +ℤ sum env starts variables cells items) ≡ wrap (effect.value env starts variables cells value)
  plus_first value items same =
      let none : pos 0 +ℤ sum env starts variables cells items ≡ sum env starts variables cells items = omega (arith, ints) in
      ap wrap (none ∙ ap (sum env starts variables cells) same ∙ sym (value_is value))

  -- one factor more
  module _ (factors : List Factor) (index : ℕ) (factor : Factor) (inside : index < length factors) (at : factor ≡ get_or factors index factor) where
    pub times_on : (so_far next after total : ℤ) → next ≡ wrap (fact_value env starts variables cells factor) → after ≡ wrap (so_far *ℤ next) →
        wrap (so_far *ℤ product env starts variables cells (drop index factors)) ≡ total → wrap (after *ℤ product env starts variables cells (drop (index + 1) factors)) ≡ total
    times_on so_far next after total is_next is_after is_total =
        let rest = product env starts variables cells (drop (index + 1) factors) in
        let front : drop index factors ≡ factor ∷ drop (index + 1) factors = drop_more factors index factor inside ∙ ap (λ (first : Factor). first ∷ drop (index + 1) factors) (sym at) in
        ap (λ z. wrap (z *ℤ rest)) (is_after ∙ ap (λ z. wrap (so_far *ℤ z)) is_next) ∙ times_step so_far (fact_value env starts variables cells factor) rest
        ∙ ap (λ left. wrap (so_far *ℤ product env starts variables cells left)) (sym front) ∙ is_total

  pub times_all : (factors : List Factor) (index : ℕ) (so_far total : ℤ) → length factors ≤ index → FitsSigned w64 so_far →
      wrap (so_far *ℤ product env starts variables cells (drop index factors)) ≡ total → so_far ≡ total
  times_all factors index so_far total past fits is =
      let one : so_far *ℤ pos 1 ≡ so_far = omega (arith, ints) in
      sym (ap wrap one ∙ wrap_small so_far fits) ∙ ap (λ left. wrap (so_far *ℤ product env starts variables cells left)) (sym (drop_all index factors past)) ∙ is

  -- one product more
  module _ (prods : List Prod) (index : ℕ) (prod : Prod) (inside : index < length prods) (at : prod ≡ get_or prods index prod) where
    pub plus_on : (so_far next after total : ℤ) → next ≡ wrap (product env starts variables cells prod.facts) → after ≡ wrap (so_far +ℤ signed prod.minus next) →
        wrap (so_far +ℤ sum env starts variables cells (drop index prods)) ≡ total → wrap (after +ℤ sum env starts variables cells (drop (index + 1) prods)) ≡ total
    plus_on so_far next after total is_next is_after is_total =
        let rest = sum env starts variables cells (drop (index + 1) prods) in
        let front : drop index prods ≡ prod ∷ drop (index + 1) prods = drop_more prods index prod inside ∙ ap (λ (first : Prod). first ∷ drop (index + 1) prods) (sym at) in
        ap (λ z. wrap (z +ℤ rest)) (is_after ∙ ap (λ z. wrap (so_far +ℤ signed prod.minus z)) is_next) ∙ plus_step so_far (product env starts variables cells prod.facts) rest prod.minus
        ∙ ap (λ left. wrap (so_far +ℤ sum env starts variables cells left)) (sym front) ∙ is_total

  pub plus_all : (prods : List Prod) (index : ℕ) (so_far total : ℤ) → length prods ≤ index → FitsSigned w64 so_far →
      wrap (so_far +ℤ sum env starts variables cells (drop index prods)) ≡ total → so_far ≡ total
  plus_all prods index so_far total past fits is =
      let same : so_far +ℤ pos 0 ≡ so_far = omega (arith, ints) in
      sym (ap wrap same ∙ wrap_small so_far fits) ∙ ap (λ left. wrap (so_far +ℤ sum env starts variables cells left)) (sym (drop_all index prods past)) ∙ is

-- ---- what is kept

module _ (p : Property) where
  abbrev pub KeepsProd : Prod → Type 0
  KeepsProd prod = All (KeepsFactor p) prod.facts

  abbrev pub KeepsInTurn : Prod → Type 0
  KeepsInTurn prod = AllByRecursion (KeepsFactor p) prod.facts

  factors_keep : {n : _} (row : Row_of-Factor n) → KeepFactors p row ≡ AllByRecursion (KeepsFactor p) (items-the_row-Factor n row)
  factors_keep end_of-Factor = refl
  factors_keep (more_of-Factor factor others) = let more = factors_keep others in λ i. KeepsFactor p factor × more i

  prods_keep : {n : _} (row : Row_of-Prod n) → KeepProds p row ≡ AllByRecursion KeepsInTurn (items-the_row-Prod n row)
  prods_keep end_of-Prod = refl
  prods_keep (more_of-Prod minus shape facts others) =
      let here = factors_keep facts ∙ ap (AllByRecursion (KeepsFactor p)) (sym (items_shown-the_row-Factor-0 shape facts)) in
      let more = prods_keep others in
      λ i. here i × more i

  -- a value keeps what the factors of its products do
  pub value_keeps : (value : Value) → KeepsValue p value ≡ AllByRecursion KeepsInTurn (out-Value value).prods
  unfolding out-Value denote.Hole.Carrier.out
  value_keeps (Value' shape prods) = prods_keep prods ∙ ap (AllByRecursion KeepsInTurn) (sym (items_shown-the_row-Prod-1 shape prods))

  pub value_kept : (value : Value) → KeepsValue p value → All KeepsProd (out-Value value).prods
  value_kept value kept =
      let prods = (out-Value value).prods in
      All-weaker KeepsInTurn KeepsProd (λ prod. All-from_recursion (KeepsFactor p) prod.facts) prods (All-from_recursion KeepsInTurn prods (subst (λ (keeps : Type 0). keeps) (value_keeps value) kept))

  pub prod_kept : (value : Value) (items : List Prod) (index : ℕ) (prod : Prod) → items ≡ (out-Value value).prods → index < length items → prod ≡ get_or items index prod →
      KeepsValue p value → KeepsProd prod
  prod_kept value items index prod same inside at kept =
      subst KeepsProd (sym at) (subst (All KeepsProd) (sym same) (value_kept value kept) index prod inside)
