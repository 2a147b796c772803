-- The notes of a kernel that give a name: those of its declarations, and those of its loops and their variables.
use Rattle.spf_kernel.proofs.Common.{◌≡◌, nat_lt, Bool, true, false, List, [], ◌∷◌, ◌++◌, map, filter, flat_map, drop, Option, None, Some, refl, ap, ◌∙◌, if◌then◌else◌, Token, Large, Excess, RawIx, RawIx', Row_of-RawStep, end_of-RawStep, more_of-RawStep, RawMono, Number', RawMono-Number-1-None', RawMono-Number-1-Some', RawAtom, RawAtom', RawAtom-at-None', RawAtom-at-Some', end_of-RawIx, more_of-RawIx, RawValue, RawValue', Row_of-RawFactor, end_of-RawFactor, more_of-RawFactor, Row_of-RawSummand, end_of-RawSummand, more_of-RawSummand, RawFactor, Paren', Row_of-RawValue, end_of-RawValue, more_of-RawValue, RawAssign, RawCond, RawPart, Note, Spot, Scope, ix_notes, steps_notes, mono_notes, atom_notes, expression_notes, value_notes, facts_notes, summands_notes, fact_notes, subscript_notes, assign_notes, cond_notes, part_notes, ix_monomials, mark, monomial_limit, number_limit, number_notes, is_naming, filter-append, out-RawAtom, Row_of-RawIx, nested_notes, inside_notes, Sort, append-nil, RawSized, RawItem, RawLoop, RawDecl, RawKernel, Declared, Variable, note, param_note, bound_notes, head_notes, item_notes, cells_notes, decl_notes, nothing, within, inside, Params, Index, Values, loop_notes, kernel_notes}
use Rattle.spf_kernel.specs.declared.raw.RawMono.{Atom}

-- the notes that give a name
abbrev pub giving : List Note → List Note
giving notes = filter (λ note. is_naming note.says) notes

pub giving_append : (a b : List Note) → giving (a ++ b) ≡ giving a ++ giving b
giving_append = filter-append (λ note. is_naming note.says)

-- none of these gives one
pub record AreNameless (notes : List Note) : Type 0 where
  pub none : giving notes ≡ []

no_notes : AreNameless []
no_notes = record { none = refl }

led : {n : Note} {notes : List Note} → is_naming n.says ≡ false → AreNameless notes → AreNameless (n ∷ notes)
led {n} {notes} e others = record { none = ap (λ (b : Bool). if b then n ∷ giving notes else giving notes) e ∙ others.none }

infixl 10 ◌&◌
pub ◌&◌ : {a b : List Note} → AreNameless a → AreNameless b → AreNameless (a ++ b)
◌&◌ {a} {b} x y = record { none = giving_append a b ∙ (λ i. x.none i ++ y.none i) }

pub each_nameless : {A : Type 0} {notes : A → List Note} → ((x : A) → AreNameless (notes x)) → (xs : List A) → AreNameless (flat_map notes xs)
each_nameless one [] = no_notes
each_nameless one (x ∷ xs) = one x & each_nameless one xs

-- ---- index expressions

number_each : (times : Bool) (number : Token) → AreNameless (number_notes times number)
number_each times number = by (nat_lt (number_limit times) number.value) where
  by : (b : Bool) → AreNameless (if b then mark number Large ∷ [] else [])
  by true = led refl no_notes
  by false = no_notes

excess_each : (tokens : List Token) → AreNameless (map (λ token. mark token Excess) tokens)
excess_each [] = no_notes
excess_each (token ∷ tokens) = led refl (excess_each tokens)

module _ (spot : Spot) (scope : Scope) where
  mutual
    ix_each : (x : RawIx) → AreNameless (ix_notes spot scope x)
    ix_each (RawIx' shape steps) = steps_each steps

    steps_each : {n : _} (row : Row_of-RawStep n) → AreNameless (steps_notes spot scope row)
    steps_each end_of-RawStep = no_notes
    steps_each (more_of-RawStep minus mono others) = mono_each mono & steps_each others

    mono_each : (x : RawMono) → AreNameless (mono_notes spot scope x)
    mono_each (Number' number RawMono-Number-1-None') = number_each false number
    mono_each (Number' number (RawMono-Number-1-Some' atom)) = number_each true number & atom_each atom
    mono_each (Atom atom) = atom_each atom

    atom_each : (x : RawAtom) → AreNameless (atom_notes spot scope x)
    atom_each (RawAtom' name RawAtom-at-None') = led refl no_notes
    atom_each (RawAtom' name (RawAtom-at-Some' shape at)) = led refl (nested_each at)

    nested_each : {n : _} (row : Row_of-RawIx n) → AreNameless (nested_notes spot scope row)
    nested_each end_of-RawIx = no_notes
    nested_each (more_of-RawIx x others) = ix_each x & nested_each others

  pub expression_each : (x : RawIx) → AreNameless (expression_notes spot scope x)
  expression_each x = excess_each (drop (monomial_limit spot) (ix_monomials x)) & ix_each x

-- ---- values and statements

module _ (scope : Scope) where
  subscript_each : (at : Option RawIx) → AreNameless (subscript_notes scope at)
  subscript_each None = no_notes
  subscript_each (Some x) = expression_each Spot.Body scope x

  mutual
    value_each : (x : RawValue) → AreNameless (value_notes scope x)
    value_each (RawValue' shape summands) = summands_each summands

    facts_each : {n : _} (row : Row_of-RawFactor n) → AreNameless (facts_notes scope row)
    facts_each end_of-RawFactor = no_notes
    facts_each (more_of-RawFactor x others) = fact_each x & facts_each others

    summands_each : {n : _} (row : Row_of-RawSummand n) → AreNameless (summands_notes scope row)
    summands_each end_of-RawSummand = no_notes
    summands_each (more_of-RawSummand minus shape facts others) = facts_each facts & summands_each others

    fact_each : (x : RawFactor) → AreNameless (fact_notes scope x)
    fact_each (RawFactor.Number number) = led refl no_notes
    fact_each (Paren' shape inside) = inside_each inside
    fact_each (RawFactor.Name atom) = led refl (led refl (subscript_each (out-RawAtom atom).at))

    inside_each : {n : _} (row : Row_of-RawValue n) → AreNameless (inside_notes scope row)
    inside_each end_of-RawValue = no_notes
    inside_each (more_of-RawValue x others) = value_each x & inside_each others

  assign_each : (x : RawAssign) → AreNameless (assign_notes scope x)
  assign_each x = led refl (expression_each Spot.Body scope x.at & value_each x.value)

  cond_each : (x : RawCond) → AreNameless (cond_notes scope x)
  cond_each x = led refl (expression_each Spot.Body scope x.left & expression_each Spot.Body scope x.right)

  pub part_each : (x : RawPart) → AreNameless (part_notes scope x)
  part_each (RawPart.Assign x) = assign_each x
  part_each (RawPart.Guard x) = led refl (each_nameless cond_each x.conds & each_nameless assign_each x.body)

-- ---- which they are

abbrev pub data_note : RawSized → Note
data_note array = note array.name (Declared Sort.Data) nothing

abbrev pub decl_given : RawDecl → List Note
decl_given (Params names) = map param_note names
decl_given (Index array low high trend) = note array.name (Declared Sort.Index) nothing ∷ []
decl_given (Values arrays) = map data_note arrays

abbrev pub item_given : Token → RawItem → List Note
item_given outer (RawItem.Part part) = []
item_given outer (RawItem.Inner range parts) = note range.var Variable (within outer) ∷ []

abbrev pub loop_given : RawLoop → List Note
loop_given loop = note loop.name (Declared Sort.Loop) nothing ∷ note loop.range.var Variable nothing ∷ flat_map (item_given loop.range.var) loop.items

abbrev pub kernel_given : RawKernel → List Note
kernel_given kernel = flat_map decl_given kernel.decls ++ flat_map loop_given kernel.loops

-- ---- the others give none

giving_each : {A : Type 0} (notes given : A → List Note) → ((x : A) → giving (notes x) ≡ given x) → (xs : List A) → giving (flat_map notes xs) ≡ flat_map given xs
giving_each notes given one [] = refl
giving_each notes given one (x ∷ xs) = giving_append (notes x) (flat_map notes xs) ∙ (λ i. one x i ++ giving_each notes given one xs i)

head_each : (x : RawIx) → AreNameless (head_notes x)
head_each = expression_each Spot.Head nothing

params_giving : (names : List Token) → giving (map param_note names) ≡ map param_note names
params_giving [] = refl
params_giving (name ∷ names) = ap (λ (notes : List Note). param_note name ∷ notes) (params_giving names)

arrays_giving : (arrays : List RawSized) → giving (flat_map cells_notes arrays) ≡ map data_note arrays
arrays_giving [] = refl
arrays_giving (x ∷ xs) = giving_append (cells_notes x) (flat_map cells_notes xs) ∙ (λ i. (data_note x ∷ (head_each x.size).none i) ++ arrays_giving xs i)

decl_giving : (x : RawDecl) → giving (decl_notes x) ≡ decl_given x
decl_giving (Params names) = params_giving names
decl_giving (Index array low high trend) = ap (λ (notes : List Note). note array.name (Declared Sort.Index) nothing ∷ notes) (head_each array.size & head_each low & head_each high).none
decl_giving (Values arrays) = arrays_giving arrays

item_giving : (outer : Token) (x : RawItem) → giving (item_notes outer x) ≡ item_given outer x
item_giving outer (RawItem.Part part) = (part_each (within outer) part).none
item_giving outer (RawItem.Inner range parts) =
    let body = expression_each Spot.Body (within outer) in
    ap (λ (notes : List Note). note range.var Variable (within outer) ∷ notes) (body range.low & body range.high & each_nameless (part_each (inside outer range.var)) parts).none

loop_giving : (x : RawLoop) → giving (loop_notes x) ≡ loop_given x
unfolding loop_notes
loop_giving x =
    let bound = expression_each Spot.Bound nothing in
    ap (λ (notes : List Note). note x.name (Declared Sort.Loop) nothing ∷ note x.range.var Variable nothing ∷ notes)
    (giving_append (bound_notes x.range.low ++ bound_notes x.range.high) (flat_map (item_notes x.range.var) x.items)
    ∙ (λ i. (bound x.range.low & bound x.range.high).none i ++ giving_each (item_notes x.range.var) (item_given x.range.var) (item_giving x.range.var) x.items i))

pub kernel_giving : (x : RawKernel) → giving (kernel_notes x) ≡ kernel_given x
unfolding kernel_notes
kernel_giving x =
    giving_append (flat_map decl_notes x.decls ++ head_notes x.steps) (flat_map loop_notes x.loops)
    ∙ (λ i. giving_append (flat_map decl_notes x.decls) (head_notes x.steps) i ++ giving_each loop_notes loop_given loop_giving x.loops i)
    ∙ (λ i. (giving_each decl_notes decl_given decl_giving x.decls i ++ (head_each x.steps).none i) ++ flat_map loop_given x.loops)
    ∙ ap (λ (notes : List Note). notes ++ flat_map loop_given x.loops) (append-nil (flat_map decl_given x.decls))
