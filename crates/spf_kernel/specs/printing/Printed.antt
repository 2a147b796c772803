-- The words that a tree is printed as, one case for each production.
use Rattle.std.specs.Prelude.{ℕ, ℤ, ◌-◌, ◌/◌, ◌%◌, min, Bool, true, false, ◌==◌, if◌then◌else◌, List, [], ◌∷◌, ◌++◌, flat_map, replicate, codes, decimal, unsigned_abs}
use Rattle.std.specs.Int.{is_negative}
use Rattle.spf_kernel.specs.Types.{Term, Term', Row_of-Mono, end_of-Mono, more_of-Mono, Mono, Var, Param, App, Value, Value', Row_of-Prod, end_of-Prod, more_of-Prod, Row_of-Factor, end_of-Factor, more_of-Factor, Prod, Factor, Assign, Compare, Trend, Cond, Guard, Part, Item, Loop, DataDecl, Decl, Tree, TreeNames}
use Rattle.spf_term.specs.declared.term.Atom.{Atom}
use Rattle.spf_kernel.specs.Signs.{becomes_word}
use Rattle.spf_kernel.specs.TreeNames.{name_at, names_in}

-- ---- lists

-- the parts of a list, with this word between two
abbrev pub separated : {A : Type 0} → List ℕ → (A → List (List ℕ)) → List A → List (List ℕ)
separated between print [] = []
separated between print (x ∷ xs) = print x ++ flat_map (λ y. between ∷ print y) xs

-- what stands in front of part n of such a list
abbrev pub separator : List ℕ → ℕ → List (List ℕ)
separator between n = if n == 0 then [] else between ∷ []

-- the parts of a list between braces
abbrev pub block : {A : Type 0} → (A → List (List ℕ)) → List A → List (List ℕ)
block print xs = codes "{" ∷ (flat_map print xs ++ codes "}" ∷ [])

-- ---- signs and numbers

-- the sign in front of a further part of a sum
abbrev pub sign_word : Bool → List ℕ
sign_word true = codes "-"
sign_word false = codes "+"

-- what stands in front of the first part of a sum
abbrev pub lead_words : Bool → List (List ℕ)
lead_words true = codes "-" ∷ []
lead_words false = []

-- the sign in front of part n of a sum
abbrev pub sign_at : ℕ → Bool → List (List ℕ)
sign_at n minus = if n == 0 then lead_words minus else sign_word minus ∷ []

-- the parts of a sum, each with its sign
abbrev pub signed : {A : Type 0} → (A → Bool) → (A → List (List ℕ)) → List A → List (List ℕ)
signed is_minus print [] = []
signed is_minus print (x ∷ xs) = (lead_words (is_minus x) ++ print x) ++ flat_map (λ y. sign_word (is_minus y) ∷ print y) xs

-- the largest number of an index expression that stands in front of no `*`
abbrev pub limit : ℕ
limit = 4194304

-- as few numbers within the limit as can be, whose sum this is
abbrev pub pieces : ℕ → List ℕ
pieces n = replicate (n / limit) limit ++ (if n % limit == 0 then [] else n % limit ∷ [])

-- a further part of a sum, which is so large
abbrev pub further_number : Bool → ℕ → List (List ℕ)
further_number minus n = flat_map (λ piece. sign_word minus ∷ decimal piece ∷ []) (pieces n)

-- a sum that is a number alone
abbrev pub only_number : ℤ → List (List ℕ)
only_number c = lead_words (is_negative c) ++ decimal (min (unsigned_abs c) limit) ∷ further_number (is_negative c) (unsigned_abs c - limit)

-- ---- words of their own

abbrev pub compare_word : Compare → List ℕ
compare_word Compare.Equal = codes "=="
compare_word Compare.Unequal = codes "!="
compare_word Compare.Less = codes "<"
compare_word Compare.AtMost = codes "<="
compare_word Compare.Greater = codes ">"
compare_word Compare.AtLeast = codes ">="

abbrev pub trend_words : Trend → List (List ℕ)
trend_words Trend.Free = []
trend_words Trend.Monotone = codes "monotone" ∷ []
trend_words Trend.Strict = codes "strict" ∷ []

-- ---- index expressions

-- what stands in front of an atom: a coefficient other than 1, whose sign stands elsewhere
abbrev pub coefficient_words : ℤ → List (List ℕ)
coefficient_words c = if unsigned_abs c == 1 then [] else decimal (unsigned_abs c) ∷ codes "*" ∷ []

module _ (names : TreeNames) (vars : List (List ℕ)) where
  abbrev mutual
    pub term_words : Term → List (List ℕ)
    term_words (Term' shape monos constant) = sum_words monos constant

    -- a sum with these monomials and this constant
    pub sum_words : {n : _} → Row_of-Mono n → ℤ → List (List ℕ)
    sum_words end_of-Mono constant = only_number constant
    sum_words (more_of-Mono coef atom others) constant =
        lead_words (is_negative coef) ++ (coefficient_words coef ++ atom_words atom) ++ monos_words others
        ++ further_number (is_negative constant) (unsigned_abs constant)

    -- further monomials
    pub monos_words : {n : _} → Row_of-Mono n → List (List ℕ)
    monos_words end_of-Mono = []
    monos_words (more_of-Mono coef atom others) = sign_word (is_negative coef) ∷ (coefficient_words coef ++ atom_words atom) ++ monos_words others

    pub atom_words : Atom → List (List ℕ)
    atom_words (Var number) = name_at vars number ∷ []
    atom_words (Param number) = name_at names.params number ∷ []
    atom_words (App fun arg) = name_at names.tables fun ∷ codes "[" ∷ term_words arg ++ codes "]" ∷ []

  abbrev pub mono_words : Mono → List (List ℕ)
  mono_words mono = coefficient_words mono.coef ++ atom_words mono.atom

  abbrev pub further_mono : Mono → List (List ℕ)
  further_mono mono = sign_word (is_negative mono.coef) ∷ mono_words mono

  -- ---- values

  -- an entry of an array
  abbrev pub entry_words : List (List ℕ) → ℕ → Term → List (List ℕ)
  entry_words arrays array sub = name_at arrays array ∷ codes "[" ∷ term_words sub ++ codes "]" ∷ []

  abbrev mutual
    pub value_words : Value → List (List ℕ)
    value_words (Value' shape prods) = prods_words prods

    pub prods_words : {n : _} → Row_of-Prod n → List (List ℕ)
    prods_words end_of-Prod = []
    prods_words (more_of-Prod minus shape facts others) = (lead_words minus ++ facts_words facts) ++ further_prods others

    pub further_prods : {n : _} → Row_of-Prod n → List (List ℕ)
    further_prods end_of-Prod = []
    further_prods (more_of-Prod minus shape facts others) = (sign_word minus ∷ facts_words facts) ++ further_prods others

    pub facts_words : {n : _} → Row_of-Factor n → List (List ℕ)
    facts_words end_of-Factor = []
    facts_words (more_of-Factor fact others) = fact_words fact ++ further_facts others

    pub further_facts : {n : _} → Row_of-Factor n → List (List ℕ)
    further_facts end_of-Factor = []
    further_facts (more_of-Factor fact others) = (codes "*" ∷ fact_words fact) ++ further_facts others

    pub fact_words : Factor → List (List ℕ)
    fact_words (Factor.Number number) = decimal number ∷ []
    fact_words (Factor.Paren value) = codes "(" ∷ value_words value ++ codes ")" ∷ []
    fact_words (Factor.Param number) = name_at names.params number ∷ []
    fact_words (Factor.Var number) = name_at vars number ∷ []
    fact_words (Factor.Index array sub) = entry_words names.tables array sub
    fact_words (Factor.Cell array sub) = entry_words names.arrays array sub

  abbrev pub prod_words : Prod → List (List ℕ)
  prod_words prod = separated (codes "*") fact_words prod.facts

  -- ---- statements

  abbrev pub assign_words : Assign → List (List ℕ)
  assign_words assign = entry_words names.arrays assign.array assign.sub ++ (becomes_word assign.sign ∷ (value_words assign.value ++ codes ";" ∷ []))

  abbrev pub cond_words : Cond → List (List ℕ)
  cond_words cond = term_words cond.left ++ compare_word cond.sign ∷ term_words cond.right

  abbrev pub guard_words : Guard → List (List ℕ)
  guard_words guard = codes "if" ∷ separated (codes "and") cond_words guard.conds ++ block assign_words guard.body

  abbrev pub part_words : Part → List (List ℕ)
  part_words (Part.Assign assign) = assign_words assign
  part_words (Part.Branch guard) = guard_words guard

  -- a variable and its bounds
  abbrev pub range_words : List ℕ → Term → Term → List (List ℕ)
  range_words var low high = var ∷ codes "in" ∷ term_words low ++ codes ".." ∷ term_words high

module _ (names : TreeNames) where
  abbrev pub item_words : List (List ℕ) → Item → List (List ℕ)
  item_words vars (Item.Assign assign) = assign_words names vars assign
  item_words vars (Item.Branch guard) = guard_words names vars guard
  item_words vars (Item.Inner var low high parts) =
      codes "for" ∷ range_words names vars var low high ++ block (part_words names (vars ++ var ∷ [])) parts

  abbrev pub loop_words : Loop → List (List ℕ)
  loop_words loop =
      codes "loop" ∷ loop.name ∷ codes "(" ∷ range_words names [] loop.var loop.low loop.high ++ codes ")" ∷ [] ++ block (item_words (loop.var ∷ [])) loop.items

  -- ---- declarations

  -- an array and its size
  abbrev pub sized_words : List ℕ → Term → List (List ℕ)
  sized_words name size = name ∷ codes "[" ∷ term_words names [] size ++ codes "]" ∷ []

  abbrev pub array_words : DataDecl → List (List ℕ)
  array_words array = sized_words array.name array.size

  abbrev pub decl_words : Decl → List (List ℕ)
  decl_words (Decl.Params params) = codes "param" ∷ separated (codes ",") (λ name. name ∷ []) params ++ codes ";" ∷ []
  decl_words (Decl.Index name size low high trend) =
      codes "index" ∷ (sized_words name size ++ (codes "in" ∷ (term_words names [] low ++ (codes ".." ∷ (term_words names [] high ++ (trend_words trend ++ codes ";" ∷ []))))))
  decl_words (Decl.Values arrays) = codes "data" ∷ separated (codes ",") array_words arrays ++ codes ";" ∷ []

-- the words of a kernel, where names are printed so
abbrev pub words_with : TreeNames → Tree → List (List ℕ)
words_with names tree =
    codes "kernel" ∷ codes "{" ∷ (flat_map (decl_words names) tree.decls ++ (codes "steps" ∷ (term_words names [] tree.steps ++ (codes ";"
    ∷ (flat_map (loop_words names) tree.loops ++ codes "}" ∷ [])))))

-- with the names that it declares
abbrev pub words_of : Tree → List (List ℕ)
words_of tree = words_with (names_in tree.decls) tree
