-- The names that the declarations of a tree give are those that its notes declare.
use Rattle.spf_kernel.proofs.Common.{◌≡◌, ℕ, Bool, true, false, List, [], ◌∷◌, ◌++◌, map, filter, flat_map, refl, ap, sym, ◌∙◌, append-nil, true≢false, ⊎_elim, if◌then◌else◌, map-append, Token, RawSized, RawItem, RawLoop, RawDecl, RawKernel, Note, Says, Declared, Variable, Decl, DataDecl, Fact, fact_of, facts_of, text_of, Names, note, decl_of, data_decl_of, is_param, is_table, is_data, is_naming, names_that, nothing, within, arrays_of, Params, Index, Values, Sort, kernel_notes, params_of, tables_of}
use Rattle.spf_kernel.proofs.Adding.{names_append}
use Rattle.spf_kernel.proofs.GivenNames.{decl_given, item_given, loop_given, kernel_giving, giving}
use Rattle.spf_kernel.proofs.Unbroken.{naming}

module _ (texts : List (List ℕ)) (test : Says → Bool) where
  abbrev found : List Note → List (List ℕ)
  found notes = names_that test (facts_of texts notes)

  found_append : (a b : List Note) → found (a ++ b) ≡ found a ++ found b
  found_append a b = ap (names_that test) (map-append (fact_of texts) a b) ∙ names_append test (facts_of texts a) (facts_of texts b)

  abbrev facts_that : List Note → List Fact
  facts_that notes = filter (λ (x : Fact). test x.says) (facts_of texts notes)

  -- with one note in front, which has this role or hasn't
  led : {b : Bool} (n : Note) (notes : List Note) → test n.says ≡ b → found (n ∷ notes) ≡ map (λ (x : Fact). x.name) (if b then fact_of texts n ∷ facts_that notes else facts_that notes)
  led n notes e = ap (λ (b : Bool). map (λ (x : Fact). x.name) (if b then fact_of texts n ∷ facts_that notes else facts_that notes)) e

  -- each token is declared in this role, or none is
  marked : {A : Type 0} (sort : Sort) (token : A → Token) → test (Declared sort) ≡ true → (xs : List A) → found (map (λ x. note (token x) (Declared sort) nothing) xs) ≡ map (λ x. text_of texts (token x)) xs
  marked sort token is [] = refl
  marked sort token is (x ∷ xs) =
      led (note (token x) (Declared sort) nothing) (map (λ x. note (token x) (Declared sort) nothing) xs) is ∙ ap (λ (ns : List (List ℕ)). text_of texts (token x) ∷ ns) (marked sort token is xs)

  unmarked : {A : Type 0} (sort : Sort) (token : A → Token) → test (Declared sort) ≡ false → (xs : List A) → found (map (λ x. note (token x) (Declared sort) nothing) xs) ≡ []
  unmarked sort token is_not [] = refl
  unmarked sort token is_not (x ∷ xs) = led (note (token x) (Declared sort) nothing) (map (λ x. note (token x) (Declared sort) nothing) xs) is_not ∙ unmarked sort token is_not xs

  -- where declarations give these names in this role, and no loop and no variable has it, so does a kernel
  module _ (names : Names) (part : Decl → List (List ℕ)) (none : (says : Says) → is_naming says ≡ false → test says ≡ false) (each : (x : RawDecl) → found (decl_given x) ≡ part (decl_of texts names x))
      (loop : test (Declared Sort.Loop) ≡ false) (variable : test Variable ≡ false) where
    found_giving : (notes : List Note) → found notes ≡ found (giving notes)
    found_giving [] = refl
    found_giving (n ∷ notes) = by (is_naming n.says) refl (found_giving notes) where
      by : (b : Bool) → is_naming n.says ≡ b → found notes ≡ found (giving notes) → found (n ∷ notes) ≡ found (if b then n ∷ giving notes else giving notes)
      by true e others = found_append (n ∷ []) notes ∙ ap (λ (ns : List (List ℕ)). found (n ∷ []) ++ ns) others ∙ sym (found_append (n ∷ []) (giving notes))
      by false e others = led n notes (none n.says e) ∙ others

    decls_found : (xs : List RawDecl) → found (flat_map decl_given xs) ≡ flat_map part (map (decl_of texts names) xs)
    decls_found [] = refl
    decls_found (x ∷ xs) = found_append (decl_given x) (flat_map decl_given xs) ∙ (λ i. each x i ++ decls_found xs i)

    items_found : (outer : Token) (xs : List RawItem) → found (flat_map (item_given outer) xs) ≡ []
    items_found outer [] = refl
    items_found outer (RawItem.Part part ∷ xs) = items_found outer xs
    items_found outer (RawItem.Inner range parts ∷ xs) = led (note range.var Variable (within outer)) (flat_map (item_given outer) xs) variable ∙ items_found outer xs

    loops_found : (xs : List RawLoop) → found (flat_map loop_given xs) ≡ []
    loops_found [] = refl
    loops_found (x ∷ xs) =
        let items = flat_map (item_given x.range.var) x.items in
        let var = note x.range.var Variable nothing in
        found_append (loop_given x) (flat_map loop_given xs)
        ∙ (λ i. (led (note x.name (Declared Sort.Loop) nothing) (var ∷ items) loop ∙ led var items variable ∙ items_found x.range.var x.items) i ++ loops_found xs i)

    kernel_found : (x : RawKernel) → found (kernel_notes x) ≡ flat_map part (map (decl_of texts names) x.decls)
    kernel_found x =
        found_giving (kernel_notes x)
        ∙ ap found (kernel_giving x)
        ∙ found_append (flat_map decl_given x.decls) (flat_map loop_given x.loops)
        ∙ (λ i. decls_found x.decls i ++ loops_found x.loops i)
        ∙ append-nil (flat_map part (map (decl_of texts names) x.decls))

not_declared : (says : Says) → is_naming says ≡ false → (is_param says ≡ false) × (is_table says ≡ false) × (is_data says ≡ false)
not_declared says e = ⊎_elim (λ names. absurd (true≢false (sym names ∙ e))) (λ none. none) (naming says)

module _ (texts : List (List ℕ)) (names : Names) where
  abbrev name_of : RawSized → Token
  name_of array = array.name

  params_each : (x : RawDecl) → names_that is_param (facts_of texts (decl_given x)) ≡ params_of (decl_of texts names x)
  params_each (Params params) = marked texts is_param Sort.Param (λ (token : Token). token) refl params
  params_each (Index array low high trend) = refl
  params_each (Values arrays) = unmarked texts is_param Sort.Data name_of refl arrays

  tables_each : (x : RawDecl) → names_that is_table (facts_of texts (decl_given x)) ≡ tables_of (decl_of texts names x)
  tables_each (Params params) = unmarked texts is_table Sort.Param (λ (token : Token). token) refl params
  tables_each (Index array low high trend) = refl
  tables_each (Values arrays) = unmarked texts is_table Sort.Data name_of refl arrays

  their_names : (xs : List RawSized) → map (λ (array : RawSized). text_of texts array.name) xs ≡ map (λ (array : DataDecl). array.name) (map (data_decl_of texts names) xs)
  their_names [] = refl
  their_names (x ∷ xs) = ap (λ (ns : List (List ℕ)). text_of texts x.name ∷ ns) (their_names xs)

  arrays_each : (x : RawDecl) → names_that is_data (facts_of texts (decl_given x)) ≡ arrays_of (decl_of texts names x)
  arrays_each (Params params) = unmarked texts is_data Sort.Param (λ (token : Token). token) refl params
  arrays_each (Index array low high trend) = refl
  arrays_each (Values arrays) = marked texts is_data Sort.Data name_of refl arrays ∙ their_names arrays

  module _ (raw : RawKernel) where
    pub params_found : names_that is_param (facts_of texts (kernel_notes raw)) ≡ flat_map params_of (map (decl_of texts names) raw.decls)
    params_found = kernel_found texts is_param names params_of (λ says e. (not_declared says e).0) params_each refl refl raw

    pub tables_found : names_that is_table (facts_of texts (kernel_notes raw)) ≡ flat_map tables_of (map (decl_of texts names) raw.decls)
    tables_found = kernel_found texts is_table names tables_of (λ says e. (not_declared says e).1) tables_each refl refl raw

    pub arrays_found : names_that is_data (facts_of texts (kernel_notes raw)) ≡ flat_map arrays_of (map (decl_of texts names) raw.decls)
    arrays_found = kernel_found texts is_data names arrays_of (λ says e. (not_declared says e).2) arrays_each refl refl raw
