-- The public tree that a raw tree means, one case for each production.
use Rattle.std.specs.Prelude.{ℕ, ◌+◌, Bool, true, false, if◌then◌else◌, List, [], ◌∷◌, ◌++◌, Option, None, Some, is_some, fold, map, All, ℤ, pos, neg_ℤ, ◌+ℤ◌}
use Rattle.std.specs.List.{list_any}
use Rattle.std.specs.Option.{option_map}
use Rattle.std.specs.Str.{bytes_eq}
use Rattle.spf_base.specs.Word.{IsName}
use Rattle.spf_base.specs.Wrap.{wrap}
use Rattle.spf_kernel.specs.Types.{Term, roll-Term, Mono, roll-Mono, Token, Scope, RawIx, RawIx', out-RawIx, Row_of-RawStep, end_of-RawStep, more_of-RawStep, RawStep, RawMono, Number', RawMono-Number-1-None', RawMono-Number-1-Some', RawAtom, out-RawAtom, RawAtom', RawAtom-at-None', RawAtom-at-Some', end_of-RawIx, more_of-RawIx, RawValue, RawValue', Row_of-RawFactor, end_of-RawFactor, more_of-RawFactor, Row_of-RawSummand, end_of-RawSummand, more_of-RawSummand, RawFactor, Paren', end_of-RawValue, more_of-RawValue, RawAssign, RawCond, RawGuard, RawPart, RawItem, RawLoop, RawSized, RawDecl, RawKernel, Note, Value, roll-Value, Prod, roll-Prod, Factor, Assign, Cond, Guard, Part, Item, Loop, DataDecl, Decl, Trend, Tree}
use Rattle.spf_term.specs.declared.term.Atom.{Atom}
use Rattle.spf_kernel.specs.Facts.{text_of, variables_in}
use Rattle.spf_kernel.specs.Names.{Names, number_of}
use Rattle.spf_kernel.specs.Rules.{tokens_that, is_naming}
use Rattle.spf_kernel.specs.Scopes.{nothing, within, inside}

-- ---- monomials that are numbers

-- a number with the sign in front of it
abbrev pub signed : Bool → ℕ → ℤ
signed false n = pos n
signed true n = neg_ℤ (pos n)

-- a monomial that is a number, with its sign
abbrev pub alone_of : Bool → RawMono → ℤ
alone_of minus (Number' number RawMono-Number-1-None') = signed minus number.value
alone_of minus mono = pos 0

-- the sum of the monomials that are numbers
abbrev pub constant_of : RawIx → ℤ
constant_of ix = fold (λ total (step : RawStep). total +ℤ alone_of (is_some step.minus) step.mono) (pos 0) (out-RawIx ix).steps

-- ---- names

-- the number of the variable in scope that a name is, if it is one
abbrev pub variable_of : List (List ℕ) → List ℕ → Option ℕ
variable_of [] name = None
variable_of (variable ∷ others) name = if bytes_eq name variable then Some 0 else option_map (λ n. 1 + n) (variable_of others name)

module _ (texts : List (List ℕ)) (names : Names) where
  abbrev pub param_of : Token → ℕ
  param_of name = number_of names.params (text_of texts name)

  abbrev pub table_of : Token → ℕ
  table_of name = number_of names.tables (text_of texts name)

  abbrev pub data_array_of : Token → ℕ
  data_array_of name = number_of names.data_arrays (text_of texts name)

  abbrev pub is_data_array : Token → Bool
  is_data_array name = list_any (bytes_eq (text_of texts name)) names.data_arrays

  -- a name without brackets, given the variable that it is
  abbrev pub bare_atom : Option ℕ → Token → Atom
  bare_atom (Some variable) name = Atom.Var variable
  bare_atom None name = Atom.Param (param_of name)

  abbrev pub bare_factor : Option ℕ → Token → Factor
  bare_factor (Some variable) name = Factor.Var variable
  bare_factor None name = Factor.Param (param_of name)

abbrev pub monomial : Bool → ℕ → Atom → List Mono
monomial minus number atom = roll-Mono (record { coef = wrap (signed minus number); atom = atom }) ∷ []

abbrev pub product : Bool → List Factor → Prod
product minus facts = roll-Prod (record { minus = minus; facts = facts })

module _ (texts : List (List ℕ)) (names : Names) (scope : Scope) where
  -- ---- index expressions

  abbrev mutual
    pub term_of : RawIx → Term
    term_of (RawIx' shape steps) = roll-Term (record { monos = more_monos steps; constant = wrap (constant_of (RawIx' shape steps)) })

    pub more_monos : {n : _} → Row_of-RawStep n → List Mono
    more_monos end_of-RawStep = []
    more_monos (more_of-RawStep minus mono others) = monos_of (is_some minus) mono ++ more_monos others

    -- the monomial, where it has an atom
    pub monos_of : Bool → RawMono → List Mono
    monos_of minus (Number' number RawMono-Number-1-None') = []
    monos_of minus (Number' number (RawMono-Number-1-Some' atom)) = monomial minus number.value (atom_of atom)
    monos_of minus (RawMono.Atom atom) = monomial minus 1 (atom_of atom)

    pub atom_of : RawAtom → Atom
    atom_of (RawAtom' name RawAtom-at-None') = bare_atom texts names (variable_of (variables_in texts scope) (text_of texts name)) name
    atom_of (RawAtom' name (RawAtom-at-Some' shape (more_of-RawIx ix end_of-RawIx))) = Atom.App (table_of texts names name) (term_of ix)

  -- ---- values

  -- a name, and what stands in the brackets behind it
  abbrev pub factor_at : Token → Option RawIx → Factor
  factor_at name None = bare_factor texts names (variable_of (variables_in texts scope) (text_of texts name)) name
  factor_at name (Some ix) =
      if is_data_array texts names name then Factor.Cell (data_array_of texts names name) (term_of ix) else Factor.Index (table_of texts names name) (term_of ix)

  abbrev pub name_factor : RawAtom → Factor
  name_factor atom = factor_at (out-RawAtom atom).name (out-RawAtom atom).at

  abbrev mutual
    pub value_of : RawValue → Value
    value_of (RawValue' shape summands) = roll-Value (record { prods = more_prods summands })

    pub more_prods : {n : _} → Row_of-RawSummand n → List Prod
    more_prods end_of-RawSummand = []
    more_prods (more_of-RawSummand minus shape facts others) = product minus (more_factors facts) ∷ more_prods others

    pub more_factors : {n : _} → Row_of-RawFactor n → List Factor
    more_factors end_of-RawFactor = []
    more_factors (more_of-RawFactor fact others) = factor_of fact ∷ more_factors others

    pub factor_of : RawFactor → Factor
    factor_of (RawFactor.Number number) = Factor.Number number.value
    factor_of (Paren' shape (more_of-RawValue inside end_of-RawValue)) = Factor.Paren (value_of inside)
    factor_of (RawFactor.Name name) = name_factor name

  -- ---- statements

  abbrev pub assign_of : RawAssign → Assign
  assign_of assign = record {
    array = data_array_of texts names assign.array;
    sub = term_of assign.at;
    sign = assign.sign;
    value = value_of assign.value;
  }

  abbrev pub cond_of : RawCond → Cond
  cond_of cond = record { left = term_of cond.left; sign = cond.sign; right = term_of cond.right }

  abbrev pub guard_of : RawGuard → Guard
  guard_of guard = record { conds = map cond_of guard.conds; body = map assign_of guard.body }

  abbrev pub part_of : RawPart → Part
  part_of (RawPart.Assign assign) = Part.Assign (assign_of assign)
  part_of (RawPart.Guard guard) = Part.Branch (guard_of guard)

-- ---- loops and declarations

module _ (texts : List (List ℕ)) (names : Names) where
  -- a part of the body of a loop, given its variable
  abbrev pub item_of : Token → RawItem → Item
  item_of outer (RawItem.Part (RawPart.Assign assign)) = Item.Assign (assign_of texts names (within outer) assign)
  item_of outer (RawItem.Part (RawPart.Guard guard)) = Item.Branch (guard_of texts names (within outer) guard)
  item_of outer (RawItem.Inner range parts) =
      Item.Inner (text_of texts range.var) (term_of texts names (within outer) range.low) (term_of texts names (within outer) range.high)
      (map (part_of texts names (inside outer range.var)) parts)

  -- an index expression with no variable in scope
  abbrev pub head_of : RawIx → Term
  head_of = term_of texts names nothing

  abbrev pub loop_of : RawLoop → Loop
  loop_of loop = record {
    name = text_of texts loop.name;
    var = text_of texts loop.range.var;
    low = head_of loop.range.low;
    high = head_of loop.range.high;
    items = map (item_of loop.range.var) loop.items;
  }

  abbrev pub data_decl_of : RawSized → DataDecl
  data_decl_of array = record { name = text_of texts array.name; size = head_of array.size }

  abbrev pub table_decl_of : RawSized → RawIx → RawIx → Trend → Decl
  table_decl_of array low high trend = Decl.Index (text_of texts array.name) (head_of array.size) (head_of low) (head_of high) trend

  abbrev pub decl_of : RawDecl → Decl
  decl_of (RawDecl.Params names) = Decl.Params (map (text_of texts) names)
  decl_of (RawDecl.Index array low high trend) = table_decl_of array low high trend
  decl_of (RawDecl.Values arrays) = Decl.Values (map data_decl_of arrays)

  -- the tree that a kernel means
  abbrev pub tree_of : RawKernel → Tree
  tree_of kernel = record { decls = map decl_of kernel.decls; steps = head_of kernel.steps; loops = map loop_of kernel.loops }

-- each declared name and each variable is one that can be kept
abbrev pub AreNames : List (List ℕ) → List Note → Type 0
AreNames texts notes = All (λ token. IsName (text_of texts token)) (tokens_that is_naming notes)
