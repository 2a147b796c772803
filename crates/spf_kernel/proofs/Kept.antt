-- What a kernel means keeps a property, where its index expressions, its names as factors and its targets do.
use Rattle.spf_kernel.proofs.Common.{Factor, ◌≡◌, ℕ, true, false, List, [], ◌∷◌, ◌++◌, length, map, flat_map, All, Option, is_some, refl, subst, AllByRecursion, All-from_recursion, split_each, Token, Spot, Note, Scope, RawIx, RawAssign, RawCond, RawGuard, RawPart, RawItem, RawLoop, RawDecl, RawKernel, RawValue, RawValue', Row_of-RawFactor, end_of-RawFactor, more_of-RawFactor, Row_of-RawSummand, end_of-RawSummand, more_of-RawSummand, RawFactor, Paren', end_of-RawValue, more_of-RawValue, Value, Value', roll-Value, out-roll-Value, Row_of-Prod, end_of-Prod, more_of-Prod, items-the_row-Prod, items_shown-the_row-Prod-1, Row_of-Factor, end_of-Factor, more_of-Factor, items-the_row-Factor, items_shown-the_row-Factor-0, Prod, DataDecl, Fact, text_of, variables_in, Names, names_of, number_of, value_notes, facts_notes, summands_notes, fact_notes, subscript_notes, expression_notes, body_notes, bound_notes, head_notes, assign_notes, cond_notes, guard_notes, part_notes, item_notes, cells_notes, decl_notes, factor_at, more_factors, more_prods, factor_of, term_of, assign_of, cond_of, guard_of, part_of, item_of, loop_of, head_of, data_decl_of, decl_of, takes_data, fits, is_data, declares, nothing, within, inside, out-RawAtom, out-Value, Property, KeepsValue, KeepProds, KeepFactors, KeepsFactor, KeepsAssign, KeepsCond, KeepsGuard, KeepsPart, KeepsItem, KeepsLoop, KeepsDecl, loop_notes, kernel_notes, value_of}
use Rattle.spf_kernel.proofs.NamedUses.{IsFitting, AreFitting}

-- ---- values made of lists

module _ (p : Property) where
  abbrev KeepsProd : Prod → Type 0
  KeepsProd prod = AllByRecursion (KeepsFactor p) prod.facts

  factors_kept : {n : _} (row : Row_of-Factor n) → AllByRecursion (KeepsFactor p) (items-the_row-Factor n row) → KeepFactors p row
  factors_kept end_of-Factor each = tt
  factors_kept (more_of-Factor fact others) each = (each.0, factors_kept others each.1)

  prods_kept : {n : _} (row : Row_of-Prod n) → AllByRecursion KeepsProd (items-the_row-Prod n row) → KeepProds p row
  prods_kept end_of-Prod each = tt
  prods_kept (more_of-Prod minus shape facts others) each =
      (factors_kept facts (subst (AllByRecursion (KeepsFactor p)) (items_shown-the_row-Factor-0 shape facts) each.0), prods_kept others each.1)

  value_kept_by : (value : Value) → AllByRecursion KeepsProd (out-Value value).prods → KeepsValue p value
  unfolding out-Value denote.Hole.Carrier.out
  value_kept_by (Value' shape prods) each = prods_kept prods (subst (AllByRecursion KeepsProd) (items_shown-the_row-Prod-1 shape prods) each)

  rolled_value : (prods : List Prod) → AllByRecursion KeepsProd prods → KeepsValue p (roll-Value (record { prods = prods }))
  rolled_value prods each = value_kept_by (roll-Value (record { prods = prods })) (rw (out-roll-Value (record { prods = prods })) each)

module _ (texts : List (List ℕ)) (facts : List Fact) (p : ℕ → Property) where
  abbrev names : Names
  names = names_of facts

  -- of what is made of each part
  pub each_kept : {A B : Type 0} (P : B → Type 0) (notes_of : A → List Note) (make : A → B) → ((x : A) → AreFitting texts facts (notes_of x) → P (make x))
      → (xs : List A) → AreFitting texts facts (flat_map notes_of xs) → All P (map make xs)
  each_kept {A} P notes_of make one xs each = All-from_recursion P (map make xs) (by xs each) where
    by : (xs : List A) → AreFitting texts facts (flat_map notes_of xs) → AllByRecursion P (map make xs)
    by [] each = tt
    by (x ∷ xs) each = let parts = split_each (IsFitting texts facts) (notes_of x) (flat_map notes_of xs) each in (one x parts.0, by xs parts.1)

  -- the property where these variables are in scope
  abbrev pub scoped : Scope → Property
  scoped scope = p (length (variables_in texts scope))

  -- what the property asks of the leaves
  pub record AreKept : Type 0 where
    pub ix : (scope : Scope) (spot : Spot) → takes_data spot ≡ false → (x : RawIx) → AreFitting texts facts (expression_notes spot scope x) → (scoped scope).ix (term_of texts names scope x)
    pub number : (variables n : ℕ) → (p variables).leaf (Factor.Number n)
    pub name : (scope : Scope) (name : Token) (at : Option RawIx) → fits facts (variables_in texts scope) (text_of texts name) (is_some at) Spot.Factor ≡ true → AreFitting texts facts (subscript_notes scope at)
        → KeepsFactor (scoped scope) (factor_at texts names scope name at)
    pub array : (variables : ℕ) (name : List ℕ) → declares is_data facts name ≡ true → (p variables).array (number_of names.data_arrays name)

  module _ (leaves : AreKept) where
    module _ (scope : Scope) where
      -- ---- values

      mutual
        value_kept : (x : RawValue) → AreFitting texts facts (value_notes scope x) → KeepsValue (scoped scope) (value_of texts names scope x)
        value_kept (RawValue' shape summands) each = rolled_value (scoped scope) (more_prods texts names scope summands) (summands_kept summands each)

        facts_kept : {n : _} (row : Row_of-RawFactor n) → AreFitting texts facts (facts_notes scope row) → AllByRecursion (KeepsFactor (scoped scope)) (more_factors texts names scope row)
        facts_kept end_of-RawFactor each = tt
        facts_kept (more_of-RawFactor fact others) each =
            let parts = split_each (IsFitting texts facts) (fact_notes scope fact) (facts_notes scope others) each in
            (fact_kept fact parts.0, facts_kept others parts.1)

        summands_kept : {n : _} (row : Row_of-RawSummand n) → AreFitting texts facts (summands_notes scope row) → AllByRecursion (KeepsProd (scoped scope)) (more_prods texts names scope row)
        summands_kept end_of-RawSummand each = tt
        summands_kept (more_of-RawSummand minus shape row others) each =
            let parts = split_each (IsFitting texts facts) (facts_notes scope row) (summands_notes scope others) each in
            (facts_kept row parts.0, summands_kept others parts.1)

        fact_kept : (x : RawFactor) → AreFitting texts facts (fact_notes scope x) → KeepsFactor (scoped scope) (factor_of texts names scope x)
        fact_kept (RawFactor.Number number) each = leaves.number (length (variables_in texts scope)) number.value
        fact_kept (Paren' shape (more_of-RawValue inside end_of-RawValue)) each =
            let parts = split_each (IsFitting texts facts) (value_notes scope inside) [] each in
            value_kept inside parts.0
        fact_kept (RawFactor.Name atom) each = leaves.name scope (out-RawAtom atom).name (out-RawAtom atom).at each.1.0 each.1.1

      -- ---- statements

      ix_kept : (x : RawIx) → AreFitting texts facts (body_notes scope x) → (scoped scope).ix (term_of texts names scope x)
      ix_kept = leaves.ix scope Spot.Body refl

      assign_kept : (x : RawAssign) → AreFitting texts facts (assign_notes scope x) → KeepsAssign (scoped scope) (assign_of texts names scope x)
      assign_kept x each =
          let parts = split_each (IsFitting texts facts) (body_notes scope x.at) (value_notes scope x.value) each.1 in
          record { array = leaves.array (length (variables_in texts scope)) (text_of texts x.array) each.0; sub = ix_kept x.at parts.0; value = value_kept x.value parts.1 }

      cond_kept : (x : RawCond) → AreFitting texts facts (cond_notes scope x) → KeepsCond (scoped scope) (cond_of texts names scope x)
      cond_kept x each =
          let parts = split_each (IsFitting texts facts) (body_notes scope x.left) (body_notes scope x.right) each.1 in
          record { left = ix_kept x.left parts.0; right = ix_kept x.right parts.1 }

      guard_kept : (x : RawGuard) → AreFitting texts facts (guard_notes scope x) → KeepsGuard (scoped scope) (guard_of texts names scope x)
      guard_kept x each =
          let parts = split_each (IsFitting texts facts) (flat_map (cond_notes scope) x.conds) (flat_map (assign_notes scope) x.body) each.1 in
          record {
            conds = each_kept (KeepsCond (scoped scope)) (cond_notes scope) (cond_of texts names scope) cond_kept x.conds parts.0;
            body = each_kept (KeepsAssign (scoped scope)) (assign_notes scope) (assign_of texts names scope) assign_kept x.body parts.1;
          }

      part_kept : (x : RawPart) → AreFitting texts facts (part_notes scope x) → KeepsPart (scoped scope) (part_of texts names scope x)
      part_kept (RawPart.Assign x) each = assign_kept x each
      part_kept (RawPart.Guard x) each = guard_kept x each

    -- ---- loops

    item_kept : (outer : Token) (x : RawItem) → AreFitting texts facts (item_notes outer x) → KeepsItem p (item_of texts names outer x)
    item_kept outer (RawItem.Part (RawPart.Assign x)) each = assign_kept (within outer) x each
    item_kept outer (RawItem.Part (RawPart.Guard x)) each = guard_kept (within outer) x each
    item_kept outer (RawItem.Inner range parts) each =
        let scope = inside outer range.var in
        let split = split_each (IsFitting texts facts) (body_notes (within outer) range.low ++ body_notes (within outer) range.high) (flat_map (part_notes scope) parts) each.1 in
        let bounds = split_each (IsFitting texts facts) (body_notes (within outer) range.low) (body_notes (within outer) range.high) split.0 in (
          ix_kept (within outer) range.low bounds.0,
          ix_kept (within outer) range.high bounds.1,
          each_kept (KeepsPart (p 2)) (part_notes scope) (part_of texts names scope) (part_kept scope) parts split.1,
        )

    bound_kept : (x : RawIx) → AreFitting texts facts (bound_notes x) → (p 0).ix (head_of texts names x)
    bound_kept = leaves.ix nothing Spot.Bound refl

    pub loop_kept : (x : RawLoop) → AreFitting texts facts (loop_notes x) → KeepsLoop p (loop_of texts names x)
    unfolding loop_notes
    loop_kept x each =
        let outer = x.range.var in
        let split = split_each (IsFitting texts facts) (bound_notes x.range.low ++ bound_notes x.range.high) (flat_map (item_notes outer) x.items) each.1.1 in
        let bounds = split_each (IsFitting texts facts) (bound_notes x.range.low) (bound_notes x.range.high) split.0 in
        record {
          low = bound_kept x.range.low bounds.0;
          high = bound_kept x.range.high bounds.1;
          items = each_kept (KeepsItem p) (item_notes outer) (item_of texts names outer) (item_kept outer) x.items split.1;
        }

    -- ---- declarations

    pub head_kept : (x : RawIx) → AreFitting texts facts (head_notes x) → (p 0).ix (head_of texts names x)
    head_kept = leaves.ix nothing Spot.Head refl

    decl_kept : (x : RawDecl) → AreFitting texts facts (decl_notes x) → KeepsDecl p (decl_of texts names x)
    decl_kept (RawDecl.Params _) each = tt
    decl_kept (RawDecl.Index array low high trend) each =
        let split = split_each (IsFitting texts facts) (head_notes array.size ++ head_notes low) (head_notes high) each.1 in
        let front = split_each (IsFitting texts facts) (head_notes array.size) (head_notes low) split.0 in
        (head_kept array.size front.0, head_kept low front.1, head_kept high split.1)
    decl_kept (RawDecl.Values arrays) each =
        each_kept (λ (array : DataDecl). (p 0).ix array.size) cells_notes (data_decl_of texts names) (λ x cells. head_kept x.size cells.1) arrays each

    -- ---- the parts of a kernel

    pub record KeepsAll (x : RawKernel) : Type 0 where
      pub decls : All (KeepsDecl p) (map (decl_of texts names) x.decls)
      pub steps : (p 0).ix (head_of texts names x.steps)
      pub loops : AreFitting texts facts (flat_map loop_notes x.loops)

    pub all_kept : (x : RawKernel) → AreFitting texts facts (kernel_notes x) → KeepsAll x
    unfolding kernel_notes
    all_kept x each =
        let split = split_each (IsFitting texts facts) (flat_map decl_notes x.decls ++ head_notes x.steps) (flat_map loop_notes x.loops) each in
        let front = split_each (IsFitting texts facts) (flat_map decl_notes x.decls) (head_notes x.steps) split.0 in
        record { decls = each_kept (KeepsDecl p) decl_notes (decl_of texts names) decl_kept x.decls front.0; steps = head_kept x.steps front.1; loops = split.1 }
