-- What a printed term or value is, over the lists that its rows are.
use Rattle.spf_kernel.proofs.Common.{◌≡◌, ℕ, ◌-◌, ◌<◌, ◌≤◌, ℤ, List, [], ◌∷◌, ◌++◌, codes, length, take, drop, get_or, flat_map, unsigned_abs, refl, ap, ◌∙◌, sym, arith, append-nil, take_all, take_more, common_steps, Bool, ◌+◌, is_negative, Term, Term', Row_of-Mono, end_of-Mono, more_of-Mono, items-the_row-Mono, items_shown-the_row-Mono-0, Mono, TreeNames, Value, Value', Row_of-Prod, end_of-Prod, more_of-Prod, items-the_row-Prod, items_shown-the_row-Prod-1, Row_of-Factor, end_of-Factor, more_of-Factor, items-the_row-Factor, items_shown-the_row-Factor-0, Prod, value_words, fact_words, prod_words, sign_word, lead_words, only_number, further_number, term_words, mono_words, further_mono, length-take-le, out-Term, out-Value}
use Rattle.spf_kernel.specs.printing.Printed.{prods_words, further_prods, facts_words, further_facts, separator, sign_at, separated, signed, sum_words, monos_words}

-- a list with a first element, as a pattern of a slice sees it
pub split_first : {A : Type 0} (xs : List A) (x : A) → 0 < length xs → x ≡ get_or xs 0 x → xs ≡ x ∷ take (length xs - 1) (drop 1 xs)
split_first [] x some at = absurd (omega arith)
split_first {A} (y ∷ ys) x some at =
    let n : length (y ∷ ys) - 1 ≡ length ys = omega arith in
    let fits : length ys ≤ length ys = omega arith in
    rw n (ap (λ (z : A). z ∷ ys) (sym at) ∙ ap (λ (zs : List A). x ∷ zs) (sym (take_all (length ys) ys fits)))

-- ---- one more part of a list

separated_push : {A : Type 0} (between : List ℕ) (print : A → List (List ℕ)) (xs : List A) (x : A) → separated between print (xs ++ x ∷ []) ≡ separated between print xs ++ separator between (length xs) ++ print x
separated_push between print [] x = append-nil (print x)
separated_push between print (y ∷ ys) x = grind (arith, common_steps)

signed_push : {A : Type 0} (is_minus : A → Bool) (print : A → List (List ℕ)) (xs : List A) (x : A) → signed is_minus print (xs ++ x ∷ []) ≡ signed is_minus print xs ++ sign_at (length xs) (is_minus x) ++ print x
signed_push is_minus print [] x = append-nil (lead_words (is_minus x) ++ print x)
signed_push is_minus print (y ∷ ys) x = grind (arith, common_steps)

module _ {A : Type 0} (xs : List A) (n : ℕ) (x : A) (inside : n < length xs) (at : x ≡ get_or xs n x) where
  one_more : take (n + 1) xs ≡ take n xs ++ x ∷ []
  one_more = take_more xs n x inside ∙ ap (λ (y : A). take n xs ++ y ∷ []) (sym at)

  count : length (take n xs) ≡ n
  count = length-take-le n xs (omega arith)

  pub separated_more : (between : List ℕ) (print : A → List (List ℕ)) → separated between print (take (n + 1) xs) ≡ separated between print (take n xs) ++ separator between n ++ print x
  separated_more between print =
      ap (separated between print) one_more ∙ separated_push between print (take n xs) x
      ∙ ap (λ k. separated between print (take n xs) ++ separator between k ++ print x) count

  pub signed_more : (is_minus : A → Bool) (print : A → List (List ℕ)) → signed is_minus print (take (n + 1) xs) ≡ signed is_minus print (take n xs) ++ sign_at n (is_minus x) ++ print x
  signed_more is_minus print =
      ap (signed is_minus print) one_more ∙ signed_push is_minus print (take n xs) x
      ∙ ap (λ k. signed is_minus print (take n xs) ++ sign_at k (is_minus x) ++ print x) count

module _ (names : TreeNames) (vars : List (List ℕ)) where
  monos_are : {n : _} (row : Row_of-Mono n) → monos_words names vars row ≡ flat_map (further_mono names vars) (items-the_row-Mono n row)
  monos_are end_of-Mono = refl
  monos_are (more_of-Mono coef atom others) =
      ap (λ (words : List (List ℕ)). further_mono names vars (record { coef = coef; atom = atom }) ++ words) (monos_are others)

  -- a sum of these monomials and this constant
  abbrev pub sum_printed : List Mono → ℤ → List (List ℕ)
  sum_printed [] constant = only_number constant
  sum_printed (first ∷ others) constant =
      lead_words (is_negative first.coef) ++ mono_words names vars first ++ flat_map (further_mono names vars) others
      ++ further_number (is_negative constant) (unsigned_abs constant)

  sum_is : {n : _} (row : Row_of-Mono n) (constant : ℤ) → sum_words names vars row constant ≡ sum_printed (items-the_row-Mono n row) constant
  sum_is end_of-Mono constant = refl
  sum_is (more_of-Mono coef atom others) constant =
      ap (λ (words : List (List ℕ)). lead_words (is_negative coef) ++ mono_words names vars (record { coef = coef; atom = atom }) ++ words ++ further_number (is_negative constant) (unsigned_abs constant)) (monos_are others)

  pub term_words_are : (term : Term) → term_words names vars term ≡ sum_printed (out-Term term).monos (out-Term term).constant
  unfolding out-Term denote.Hole.Carrier.out
  term_words_are (Term' shape monos constant) =
      sum_is monos constant ∙ ap (λ (items : List Mono). sum_printed items constant) (sym (items_shown-the_row-Mono-0 shape monos))

  -- a term with a first monomial
  pub term_begins : (term : Term) (monos : List Mono) (first : Mono) → 0 < length monos → first ≡ get_or monos 0 first → monos ≡ (out-Term term).monos
      → term_words names vars term ≡ sum_printed (first ∷ take (length monos - 1) (drop 1 monos)) (out-Term term).constant
  term_begins term monos first some at is =
      term_words_are term ∙ ap (λ (items : List Mono). sum_printed items (out-Term term).constant) (sym is ∙ split_first monos first some at)

  -- ---- values

  facts_are : {n : _} (row : Row_of-Factor n) → further_facts names vars row ≡ flat_map (λ fact. codes "*" ∷ fact_words names vars fact) (items-the_row-Factor n row)
  facts_are end_of-Factor = refl
  facts_are (more_of-Factor fact others) = ap (λ (words : List (List ℕ)). (codes "*" ∷ fact_words names vars fact) ++ words) (facts_are others)

  prod_is : {n : _} (row : Row_of-Factor n) → facts_words names vars row ≡ separated (codes "*") (fact_words names vars) (items-the_row-Factor n row)
  prod_is end_of-Factor = refl
  prod_is (more_of-Factor fact others) = ap (λ (words : List (List ℕ)). fact_words names vars fact ++ words) (facts_are others)

  prods_are : {n : _} (row : Row_of-Prod n) → further_prods names vars row ≡ flat_map (λ (prod : Prod). sign_word prod.minus ∷ prod_words names vars prod) (items-the_row-Prod n row)
  prods_are end_of-Prod = refl
  prods_are (more_of-Prod minus shape facts others) =
      let here = prod_is facts ∙ ap (separated (codes "*") (fact_words names vars)) (sym (items_shown-the_row-Factor-0 shape facts)) in
      let more = prods_are others in cc

  value_is : {n : _} (row : Row_of-Prod n) → prods_words names vars row ≡ signed (λ (prod : Prod). prod.minus) (prod_words names vars) (items-the_row-Prod n row)
  value_is end_of-Prod = refl
  value_is (more_of-Prod minus shape facts others) =
      let here = prod_is facts ∙ ap (separated (codes "*") (fact_words names vars)) (sym (items_shown-the_row-Factor-0 shape facts)) in
      let more = prods_are others in
      cc

  pub value_words_are : (value : Value) → value_words names vars value ≡ signed (λ (prod : Prod). prod.minus) (prod_words names vars) (out-Value value).prods
  unfolding out-Value denote.Hole.Carrier.out
  value_words_are (Value' shape prods) =
      value_is prods ∙ ap (signed (λ (prod : Prod). prod.minus) (prod_words names vars)) (sym (items_shown-the_row-Prod-1 shape prods))
