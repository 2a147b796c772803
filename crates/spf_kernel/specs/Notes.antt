-- The notes of a raw tree, in the order of its text.
use Rattle.std.specs.Prelude.{ℕ, Bool, true, false, nat_lt, if◌then◌else◌, List, [], ◌∷◌, ◌++◌, Option, None, Some, is_some, map, flat_map, drop}
use Rattle.std.specs.Option.{unwrap_or}
use Rattle.spf_kernel.specs.Types.{Sort, Token, RawIx, RawIx', out-RawIx, Row_of-RawStep, end_of-RawStep, more_of-RawStep, RawStep, RawMono, Number', RawMono-Number-1-None', RawMono-Number-1-Some', RawAtom, out-RawAtom, RawAtom', RawAtom-at-None', RawAtom-at-Some', Row_of-RawIx, end_of-RawIx, more_of-RawIx, RawValue, RawValue', Row_of-RawFactor, end_of-RawFactor, more_of-RawFactor, Row_of-RawSummand, end_of-RawSummand, more_of-RawSummand, RawFactor, Paren', Row_of-RawValue, end_of-RawValue, more_of-RawValue, RawAssign, RawCond, RawGuard, RawPart, RawItem, RawLoop, RawSized, RawDecl, RawKernel, Note, Says, Spot, Scope}
use Rattle.spf_kernel.specs.declared.raw.RawMono.{Atom}
use Rattle.spf_kernel.specs.Scopes.{nothing, within, inside}

abbrev pub note : Token → Says → Scope → Note
note token says scope = record { token = token; says = says; scope = scope }

-- of a role that is not that of a name
abbrev pub mark : Token → Says → Note
mark token says = note token says nothing

-- ---- index expressions

-- the first token of a monomial
abbrev pub mono_head : RawMono → Token
mono_head (Number' number times) = number
mono_head (Atom atom) = (out-RawAtom atom).name

-- the first token of an index expression, which has a step and may begin with `-`
abbrev steps_head : List RawStep → Token
steps_head [] = record { at = 0; value = 0 }
steps_head (step ∷ steps) = unwrap_or step.minus (mono_head step.mono)

abbrev pub ix_head : RawIx → Token
ix_head ix = steps_head (out-RawIx ix).steps

-- how large a number may be, in front of `*` or not
abbrev pub number_limit : Bool → ℕ
number_limit true = 1048576
number_limit false = 4194304

-- a number that passes its limit
abbrev pub number_notes : Bool → Token → List Note
number_notes times number = if nat_lt (number_limit times) number.value then mark number Says.Large ∷ [] else []

-- the first tokens of all monomials, nested ones too
abbrev mutual
  pub ix_monomials : RawIx → List Token
  ix_monomials (RawIx' shape steps) = steps_monomials steps

  pub steps_monomials : {n : _} → Row_of-RawStep n → List Token
  steps_monomials end_of-RawStep = []
  steps_monomials (more_of-RawStep minus mono others) = mono_monomials mono ++ steps_monomials others

  pub mono_monomials : RawMono → List Token
  mono_monomials (Number' number RawMono-Number-1-None') = number ∷ []
  mono_monomials (Number' number (RawMono-Number-1-Some' atom)) = number ∷ atom_monomials atom
  mono_monomials (Atom atom) = (out-RawAtom atom).name ∷ atom_monomials atom

  pub atom_monomials : RawAtom → List Token
  atom_monomials (RawAtom' name RawAtom-at-None') = []
  atom_monomials (RawAtom' name (RawAtom-at-Some' shape at)) = nested_monomials at

  pub nested_monomials : {n : _} → Row_of-RawIx n → List Token
  nested_monomials end_of-RawIx = []
  nested_monomials (more_of-RawIx ix others) = ix_monomials ix ++ nested_monomials others

-- how many monomials an index expression may have
abbrev pub monomial_limit : Spot → ℕ
monomial_limit Spot.Bound = 8
monomial_limit spot = 64

-- the monomials behind so many
abbrev pub excess_notes : ℕ → List Token → List Note
excess_notes room tokens = map (λ token. mark token Says.Excess) (drop room tokens)

module _ (spot : Spot) (scope : Scope) where
  abbrev mutual
    pub ix_notes : RawIx → List Note
    ix_notes (RawIx' shape steps) = steps_notes steps

    pub steps_notes : {n : _} → Row_of-RawStep n → List Note
    steps_notes end_of-RawStep = []
    steps_notes (more_of-RawStep minus mono others) = mono_notes mono ++ steps_notes others

    pub mono_notes : RawMono → List Note
    mono_notes (Number' number RawMono-Number-1-None') = number_notes false number
    mono_notes (Number' number (RawMono-Number-1-Some' atom)) = number_notes true number ++ atom_notes atom
    mono_notes (Atom atom) = atom_notes atom

    pub atom_notes : RawAtom → List Note
    atom_notes (RawAtom' name RawAtom-at-None') = note name (Says.Used false spot) scope ∷ []
    atom_notes (RawAtom' name (RawAtom-at-Some' shape at)) = note name (Says.Used true spot) scope ∷ nested_notes at

    pub nested_notes : {n : _} → Row_of-RawIx n → List Note
    nested_notes end_of-RawIx = []
    nested_notes (more_of-RawIx ix others) = ix_notes ix ++ nested_notes others

  -- an index expression that stands in no other one
  abbrev pub expression_notes : RawIx → List Note
  expression_notes ix = excess_notes (monomial_limit spot) (ix_monomials ix) ++ ix_notes ix

-- the first token of the conditions of an `if`, which has one
abbrev pub conds_head : List RawCond → Token
conds_head [] = record { at = 0; value = 0 }
conds_head (cond ∷ conds) = ix_head cond.left

-- ---- values and statements, where these variables are in scope

module _ (scope : Scope) where
  abbrev pub body_notes : RawIx → List Note
  body_notes ix = expression_notes Spot.Body scope ix

  -- what stands in the brackets behind a name
  abbrev pub subscript_notes : Option RawIx → List Note
  subscript_notes None = []
  subscript_notes (Some ix) = body_notes ix

  -- a name as a factor
  abbrev pub read_notes : RawAtom → List Note
  read_notes atom =
      mark (out-RawAtom atom).name Says.Factor ∷ note (out-RawAtom atom).name (Says.Used (is_some (out-RawAtom atom).at) Spot.Factor) scope
      ∷ subscript_notes (out-RawAtom atom).at

  abbrev mutual
    pub value_notes : RawValue → List Note
    value_notes (RawValue' shape summands) = summands_notes summands

    pub summands_notes : {n : _} → Row_of-RawSummand n → List Note
    summands_notes end_of-RawSummand = []
    summands_notes (more_of-RawSummand minus shape facts others) = facts_notes facts ++ summands_notes others

    pub facts_notes : {n : _} → Row_of-RawFactor n → List Note
    facts_notes end_of-RawFactor = []
    facts_notes (more_of-RawFactor fact others) = fact_notes fact ++ facts_notes others

    pub fact_notes : RawFactor → List Note
    fact_notes (RawFactor.Number number) = mark number Says.Factor ∷ []
    fact_notes (Paren' shape inside) = inside_notes inside
    fact_notes (RawFactor.Name atom) = read_notes atom

    pub inside_notes : {n : _} → Row_of-RawValue n → List Note
    inside_notes end_of-RawValue = []
    inside_notes (more_of-RawValue value others) = value_notes value ++ inside_notes others

  abbrev pub assign_notes : RawAssign → List Note
  assign_notes assign = note assign.array (Says.Used true Spot.Target) scope ∷ body_notes assign.at ++ value_notes assign.value

  abbrev pub cond_notes : RawCond → List Note
  cond_notes cond = mark (ix_head cond.left) Says.Condition ∷ body_notes cond.left ++ body_notes cond.right

  abbrev pub guard_notes : RawGuard → List Note
  guard_notes guard = mark (conds_head guard.conds) Says.Guard ∷ flat_map cond_notes guard.conds ++ flat_map assign_notes guard.body

  abbrev pub part_notes : RawPart → List Note
  part_notes (RawPart.Assign assign) = assign_notes assign
  part_notes (RawPart.Guard guard) = guard_notes guard

-- ---- loops

-- the body of a loop, given its variable
abbrev pub item_notes : Token → RawItem → List Note
item_notes outer (RawItem.Part part) = part_notes (within outer) part
item_notes outer (RawItem.Inner range parts) =
    note range.var Says.Variable (within outer) ∷ body_notes (within outer) range.low ++ body_notes (within outer) range.high
    ++ flat_map (part_notes (inside outer range.var)) parts

abbrev pub bound_notes : RawIx → List Note
bound_notes = expression_notes Spot.Bound nothing

unfoldable pub loop_notes : RawLoop → List Note
loop_notes loop =
    note loop.name (Says.Declared Sort.Loop) nothing ∷ note loop.range.var Says.Variable nothing ∷ bound_notes loop.range.low ++ bound_notes loop.range.high
    ++ flat_map (item_notes loop.range.var) loop.items

-- ---- declarations

abbrev pub head_notes : RawIx → List Note
head_notes = expression_notes Spot.Head nothing

abbrev pub param_note : Token → Note
param_note name = note name (Says.Declared Sort.Param) nothing

abbrev pub cells_notes : RawSized → List Note
cells_notes array = note array.name (Says.Declared Sort.Data) nothing ∷ head_notes array.size

abbrev pub decl_notes : RawDecl → List Note
decl_notes (RawDecl.Params names) = map param_note names
decl_notes (RawDecl.Index array low high trend) = note array.name (Says.Declared Sort.Index) nothing ∷ head_notes array.size ++ head_notes low ++ head_notes high
decl_notes (RawDecl.Values arrays) = flat_map cells_notes arrays

-- the notes of a kernel
unfoldable pub kernel_notes : RawKernel → List Note
kernel_notes kernel = flat_map decl_notes kernel.decls ++ head_notes kernel.steps ++ flat_map loop_notes kernel.loops
