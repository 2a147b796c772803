-- The number of a declared name is below the number of declared names, and the name of that number is the name. A name that fits
-- where it is used is a variable in scope, or its number is the number of a declared name.
use Rattle.spf_kernel.proofs.Common.{◌≡◌, ℕ, suc, ◌+◌, ◌<◌, Bool, true, false, not, ◌||◌, List, [], ◌∷◌, length, refl, ap, sym, ◌∙◌, true≢false, arith, list_any, bytes_eq, bytes_eq-Decides, Says, Fact, number_of, declares, names_that, name_at, ◌&&◌, Option, None, Some, subst, option_map, unwrap_or, if◌then◌else◌, Spot, Names, names_of, variable_of, is_param, is_table, is_data, takes_data, takes_table, fits, is_in_scope, cond}
use Rattle.spf_kernel.proofs.Adding.{more}

-- the number of a name among others
pub record IsNumberOf (names : List (List ℕ)) (name : List ℕ) (number : ℕ) : Type 0 where
  pub below : number < length names
  pub named : name_at names number ≡ name

pub one_behind : (first : List ℕ) (names : List (List ℕ)) (name : List ℕ) (number : ℕ) → IsNumberOf names name number → IsNumberOf (first ∷ names) name (1 + number)
one_behind first names name number is =
    let next : 1 + number ≡ suc number = omega arith in
    record { below = omega (arith, is.below); named = ap (name_at (first ∷ names)) next ∙ is.named }

pub number_found : (names : List (List ℕ)) (name : List ℕ) → list_any (bytes_eq name) names ≡ true → IsNumberOf names name (number_of names name)
number_found [] name found = absurd (true≢false (sym found))
number_found (first ∷ names) name found = by (bytes_eq name first) refl (number_found names name) found where
  by : (b : Bool) → bytes_eq name first ≡ b → (list_any (bytes_eq name) names ≡ true → IsNumberOf names name (number_of names name)) → b || list_any (bytes_eq name) names ≡ true
      → IsNumberOf (first ∷ names) name (cond (not b) (1 + number_of names name) 0)
  by true same more found = record { below = omega arith; named = sym ((bytes_eq-Decides name first).0 same) }
  by false same more found = one_behind first names name (number_of names name) (more found)

-- a name that some fact declares in this role
pub number_declared : (test : Says → Bool) (facts : List Fact) (name : List ℕ) → declares test facts name ≡ true → IsNumberOf (names_that test facts) name (number_of (names_that test facts) name)
number_declared test facts name declared = number_found (names_that test facts) name declared

-- a name of which no variable in scope has the number is none of them
none_in_scope : (variables : List (List ℕ)) (name : List ℕ) → variable_of variables name ≡ None → is_in_scope variables name ≡ false
none_in_scope [] name = λ none. refl
none_in_scope (variable ∷ others) name = by (bytes_eq name variable) (variable_of others name) (none_in_scope others name) where
  by : (b : Bool) (found : Option ℕ) → (found ≡ None → is_in_scope others name ≡ false) → (if b then Some 0 else option_map (λ n. 1 + n) found) ≡ None → b || is_in_scope others name ≡ false
  by true found rest none = absurd cc
  by false None rest none = rest refl
  by false (Some number) rest none = absurd cc

-- the number of a variable is that of its name
pub variable_named : (variables : List (List ℕ)) (name : List ℕ) (number : ℕ) → variable_of variables name ≡ Some number → IsNumberOf variables name number
variable_named [] name = λ number found. absurd cc
variable_named (variable ∷ others) name = by (bytes_eq name variable) refl (variable_of others name) (variable_named others name) where
  by : (b : Bool) → bytes_eq name variable ≡ b → (rest : Option ℕ) → ((number : ℕ) → rest ≡ Some number → IsNumberOf others name number) → (number : ℕ) → (if b then Some 0 else option_map (λ n. 1 + n) rest) ≡ Some number
      → IsNumberOf (variable ∷ others) name number
  by true same rest more number found = subst (IsNumberOf (variable ∷ others) name) (ap (λ (o : Option ℕ). unwrap_or o 0) found) (record { below = omega arith; named = sym ((bytes_eq-Decides name variable).0 same) })
  by false same None more number found = absurd cc
  by false same (Some n) more number found = subst (IsNumberOf (variable ∷ others) name) (ap (λ (o : Option ℕ). unwrap_or o 0) found) (one_behind variable others name n (more n refl))

module _ (facts : List Fact) where
  abbrev names : Names
  names = names_of facts

  -- ---- a name without brackets

  -- a variable of which this holds, or else a parameter
  abbrev pub IsBare : (ℕ → Type 0) → List ℕ → Option ℕ → Type 0
  IsBare OfVariable name (Some variable) = OfVariable variable
  IsBare OfVariable name None = IsNumberOf names.params name (number_of names.params name)

  pub bare_fits : (OfVariable : ℕ → Type 0) (spot : Spot) (variables : List (List ℕ)) (name : List ℕ) → fits facts variables name false spot ≡ true
      → ((variable : ℕ) → variable_of variables name ≡ Some variable → OfVariable variable) → IsBare OfVariable name (variable_of variables name)
  bare_fits OfVariable spot variables name fit each = by (variable_of variables name) (none_in_scope variables name) each where
    other : (scope param : Bool) → scope || param ≡ true → scope ≡ false → param ≡ true
    other scope param fit none = grind arith

    by : (found : Option ℕ) → (found ≡ None → is_in_scope variables name ≡ false) → ((variable : ℕ) → found ≡ Some variable → OfVariable variable) → IsBare OfVariable name found
    by (Some variable) none each = each variable refl
    by None none each = number_declared is_param facts name (other (is_in_scope variables name) (declares is_param facts name) fit (none refl))

  -- ---- a name with brackets

  -- where no data array may stand it is a table
  pub table_fits : (spot : Spot) → takes_data spot ≡ false → (variables : List (List ℕ)) (name : List ℕ) → fits facts variables name true spot ≡ true → IsNumberOf names.tables name (number_of names.tables name)
  table_fits spot no_data variables name fit =
      number_declared is_table facts name (by (takes_table spot) (declares is_table facts name) (takes_data spot) (declares is_data facts name) no_data fit) where
        by : (takes_t t takes_d d : Bool) → takes_d ≡ false → (takes_t && t) || (takes_d && d) ≡ true → t ≡ true
        by takes_t t takes_d d none fit = grind arith

  -- a data array, if it is declared as one, or else a table
  abbrev pub IsEntry : List ℕ → Bool → Type 0
  IsEntry name true = IsNumberOf names.data_arrays name (number_of names.data_arrays name)
  IsEntry name false = IsNumberOf names.tables name (number_of names.tables name)

  pub entry_fits : (variables : List (List ℕ)) (name : List ℕ) → fits facts variables name true Spot.Factor ≡ true → IsEntry name (declares is_data facts name)
  entry_fits variables name fit = by (declares is_data facts name) refl where
    left : (t d : Bool) → t || d ≡ true → d ≡ false → t ≡ true
    left t d fit none = grind arith

    by : (b : Bool) → declares is_data facts name ≡ b → IsEntry name b
    by true is = number_found names.data_arrays name is
    by false is = number_declared is_table facts name (left (declares is_table facts name) (declares is_data facts name) fit is)
