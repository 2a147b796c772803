-- The sites of a body are names with brackets and bounds: at most as many as its notes tell names with brackets, and two for
-- each `for`. Of the data sites there are at most 256 where no rule is broken, since each is a name with brackets.
use Rattle.spf_kernel.proofs.Common.{roll-Mono, Spot, Says, Factor, ◌≡◌, ℕ, ◌+◌, ◌*◌, ◌≤◌, Bool, true, false, List, [], ◌∷◌, ◌++◌, length, map, flat_map, Option, None, Some, is_some, refl, append-nil, arith, length-append, sum_by-append, sum_by-cons, sum_by, if◌then◌else◌, Token, Scope, RawIx, RawIx', Row_of-RawStep, end_of-RawStep, more_of-RawStep, RawMono, Number', RawMono-Number-1-None', RawMono-Number-1-Some', RawAtom, RawAtom', RawAtom-at-None', RawAtom-at-Some', end_of-RawIx, more_of-RawIx, RawValue, RawValue', Row_of-RawFactor, end_of-RawFactor, more_of-RawFactor, Row_of-RawSummand, end_of-RawSummand, more_of-RawSummand, RawFactor, Paren', end_of-RawValue, more_of-RawValue, RawAssign, RawCond, RawGuard, RawPart, RawItem, RawLoop, Note, Used, text_of, variables_in, Names, note, mark, conds_head, ix_notes, steps_notes, mono_notes, atom_notes, number_notes, excess_notes, ix_monomials, body_notes, bound_notes, subscript_notes, value_notes, facts_notes, summands_notes, fact_notes, assign_notes, cond_notes, guard_notes, part_notes, item_notes, constant_of, variable_of, bare_atom, bare_factor, factor_at, is_data_array, data_array_of, table_of, product, term_of, more_monos, monos_of, atom_of, more_factors, more_prods, factor_of, assign_of, cond_of, guard_of, part_of, item_of, loop_of, is_site, within, inside, count_by-le-length, wrap, applications, atom_applications, Atom, out-RawAtom, ix_head, loop_notes, monomial, signed, value_of, Weights, Term, value_sites, fact_sites, prod_sites, assign_sites, cond_sites, guard_sites, part_sites, item_sites, Sort, ap, RawKernel, Variable, Declared, Tree, texts, facts_of, names_of, decl_notes, head_notes, IsParsed, tree_of, nothing, loop_sites, kernel_notes, data_sites, of_data}
use Rattle.spf_kernel.specs.BodySites.{of_body}
use Rattle.spf_kernel.proofs.SiteSums.{mono_applications, rolled_term, rolled_value}
use Rattle.spf_kernel.proofs.NoteCounts.{notes_that, both, join, behind, inside_last, counted, sums_within, same_facts}
use Rattle.spf_kernel.proofs.Unbroken.{few_sites, sound}

-- the names with brackets
abbrev pub sites : List Note → ℕ
sites = notes_that is_site

-- no entry has more than one site, and those that are nested in it
pub record AreSmall (weights : Weights) : Type 0 where
  pub nested : (term : Term) → weights.nested term ≤ applications term
  pub table : (sub : Term) → weights.table sub ≤ 1 + applications sub
  pub cell : (sub : Term) → weights.cell sub ≤ 1 + applications sub

module _ (texts : List (List ℕ)) (names : Names) where
  module _ (scope : Scope) where
    -- ---- index expressions

    bare_within : (variable : Option ℕ) (name : Token) (n : ℕ) → atom_applications (bare_atom texts names variable name) ≤ n
    bare_within None name n = omega arith
    bare_within (Some variable) name n = omega arith

    one_mono : (minus : Bool) (number : ℕ) (atom : Atom) → sum_by mono_applications (monomial minus number atom) ≡ atom_applications atom
    one_mono minus number atom = omega (arith, sum_by-cons mono_applications (roll-Mono (record { coef = wrap (signed minus number); atom = atom })) [])

    mutual
      term_within : (x : RawIx) → applications (term_of texts names scope x) ≤ sites (ix_notes Spot.Body scope x)
      term_within (RawIx' shape steps) = rw (rolled_term (more_monos texts names scope steps) (wrap (constant_of (RawIx' shape steps)))) (steps_within steps)

      steps_within : {n : _} (row : Row_of-RawStep n) → sum_by mono_applications (more_monos texts names scope row) ≤ sites (steps_notes Spot.Body scope row)
      steps_within end_of-RawStep = omega arith
      steps_within (more_of-RawStep minus mono others) =
          rw (sum_by-append mono_applications (monos_of texts names scope (is_some minus) mono) (more_monos texts names scope others))
          (join is_site (mono_notes Spot.Body scope mono) (steps_notes Spot.Body scope others) (mono_within (is_some minus) mono) (steps_within others))

      mono_within : (minus : Bool) (x : RawMono) → sum_by mono_applications (monos_of texts names scope minus x) ≤ sites (mono_notes Spot.Body scope x)
      mono_within minus (Number' number RawMono-Number-1-None') = omega arith
      mono_within minus (Number' number (RawMono-Number-1-Some' atom)) =
          rw (one_mono minus number.value (atom_of texts names scope atom)) (inside_last is_site (number_notes true number) (atom_notes Spot.Body scope atom) (atom_within atom))
      mono_within minus (RawMono.Atom atom) = rw (one_mono minus 1 (atom_of texts names scope atom)) (atom_within atom)

      atom_within : (x : RawAtom) → atom_applications (atom_of texts names scope x) ≤ sites (atom_notes Spot.Body scope x)
      atom_within (RawAtom' name RawAtom-at-None') = bare_within (variable_of (variables_in texts scope) (text_of texts name)) name _
      atom_within (RawAtom' name (RawAtom-at-Some' shape (more_of-RawIx ix end_of-RawIx))) =
          let inside = ix_notes Spot.Body scope ix in
          omega (arith, counted is_site (note name (Used true Spot.Body) scope) (inside ++ []) refl, both is_site inside [], term_within ix)

    body_within : (x : RawIx) → applications (term_of texts names scope x) ≤ sites (body_notes scope x)
    body_within x = inside_last is_site (excess_notes 64 (ix_monomials x)) (ix_notes Spot.Body scope x) (term_within x)

    module _ (weights : Weights) (small : AreSmall weights) where
      -- ---- values

      bare_none : (variable : Option ℕ) (name : Token) (n : ℕ) → fact_sites weights (bare_factor texts names variable name) ≤ n
      bare_none None name n = omega arith
      bare_none (Some variable) name n = omega arith

      named_within : (name : Token) (at : Option RawIx)
          → fact_sites weights (factor_at texts names scope name at) ≤ sites (mark name Says.Factor ∷ note name (Used (is_some at) Spot.Factor) scope ∷ subscript_notes scope at)
      named_within name None = bare_none (variable_of (variables_in texts scope) (text_of texts name)) name _
      named_within name (Some ix) =
          let sub = term_of texts names scope ix in
          let used = note name (Used true Spot.Factor) scope in
          omega (arith, of_entry sub (is_data_array texts names name), behind is_site (mark name Says.Factor) (used ∷ body_notes scope ix), counted is_site used (body_notes scope ix) refl, body_within ix)
        where
          of_entry : (sub : Term) (b : Bool) → fact_sites weights (if b then Factor.Cell (data_array_of texts names name) sub else Factor.Index (table_of texts names name) sub) ≤ 1 + applications sub
          of_entry sub true = small.cell sub
          of_entry sub false = small.table sub

      mutual
        value_within : (value : RawValue) → value_sites weights (value_of texts names scope value) ≤ sites (value_notes scope value)
        value_within (RawValue' shape summands) = rw (rolled_value weights (more_prods texts names scope summands)) (summands_within summands)

        facts_within : {n : _} (row : Row_of-RawFactor n) → sum_by (fact_sites weights) (more_factors texts names scope row) ≤ sites (facts_notes scope row)
        facts_within end_of-RawFactor = omega arith
        facts_within (more_of-RawFactor fact others) =
            rw (sum_by-cons (fact_sites weights) (factor_of texts names scope fact) (more_factors texts names scope others))
            (join is_site (fact_notes scope fact) (facts_notes scope others) (fact_within fact) (facts_within others))

        summands_within : {n : _} (row : Row_of-RawSummand n) → sum_by (prod_sites weights) (more_prods texts names scope row) ≤ sites (summands_notes scope row)
        summands_within end_of-RawSummand = omega arith
        summands_within (more_of-RawSummand minus shape facts others) =
            rw (sum_by-cons (prod_sites weights) (product minus (more_factors texts names scope facts)) (more_prods texts names scope others))
            (join is_site (facts_notes scope facts) (summands_notes scope others) (facts_within facts) (summands_within others))

        fact_within : (fact : RawFactor) → fact_sites weights (factor_of texts names scope fact) ≤ sites (fact_notes scope fact)
        fact_within (RawFactor.Number number) = omega arith
        fact_within (Paren' shape (more_of-RawValue value end_of-RawValue)) = rw (append-nil (value_notes scope value)) (value_within value)
        fact_within (RawFactor.Name atom) = named_within (out-RawAtom atom).name (out-RawAtom atom).at

      -- ---- statements

      pub assign_within : (assign : RawAssign) → assign_sites weights (assign_of texts names scope assign) ≤ sites (assign_notes scope assign)
      assign_within assign =
          let at = body_notes scope assign.at in
          let value = value_notes scope assign.value in
          omega (
            arith,
            small.cell (term_of texts names scope assign.at),
            counted is_site (note assign.array (Used true Spot.Target) scope) (at ++ value) refl,
            join is_site at value (body_within assign.at) (value_within assign.value),
          )

      cond_within : (cond : RawCond) → cond_sites weights (cond_of texts names scope cond) ≤ sites (cond_notes scope cond)
      cond_within cond =
          let few = join is_site (body_notes scope cond.left) (body_notes scope cond.right) (body_within cond.left) (body_within cond.right) in
          inside_last is_site (mark (ix_head cond.left) Says.Condition ∷ []) (body_notes scope cond.left ++ body_notes scope cond.right)
          (omega (arith, few, small.nested (term_of texts names scope cond.left), small.nested (term_of texts names scope cond.right)))

      pub guard_within : (guard : RawGuard) → guard_sites weights (guard_of texts names scope guard) ≤ sites (guard_notes scope guard)
      guard_within guard =
          let conds = flat_map (cond_notes scope) guard.conds in
          let body = flat_map (assign_notes scope) guard.body in
          inside_last is_site (mark (conds_head guard.conds) Says.Guard ∷ []) (conds ++ body)
          (join is_site conds body (sums_within is_site (cond_sites weights) (cond_of texts names scope) (cond_notes scope) cond_within guard.conds)
          (sums_within is_site (assign_sites weights) (assign_of texts names scope) (assign_notes scope) assign_within guard.body))

      part_within : (part : RawPart) → part_sites weights (part_of texts names scope part) ≤ sites (part_notes scope part)
      part_within (RawPart.Assign assign) = assign_within assign
      part_within (RawPart.Guard guard) = guard_within guard

      -- the body of a `for`
      pub parts_within : (parts : List RawPart) → sum_by (part_sites weights) (map (part_of texts names scope) parts) ≤ sites (flat_map (part_notes scope) parts)
      parts_within = sums_within is_site (part_sites weights) (part_of texts names scope) (part_notes scope) part_within

  -- ---- loops: two sites for each note

  body_small : AreSmall of_body
  body_small = record { nested = λ term. omega arith; table = λ sub. omega arith; cell = λ sub. omega arith }

  no_more : (notes : List Note) {n : ℕ} → n ≤ sites notes → n ≤ 2 * length notes
  no_more notes few = omega (arith, few, count_by-le-length (λ (note : Note). is_site note.says) notes)

  item_within : (outer : Token) (item : RawItem) → item_sites of_body (item_of texts names outer item) ≤ 2 * length (item_notes outer item)
  item_within outer (RawItem.Part (RawPart.Assign assign)) = no_more (assign_notes (within outer) assign) (assign_within (within outer) of_body body_small assign)
  item_within outer (RawItem.Part (RawPart.Guard guard)) = no_more (guard_notes (within outer) guard) (guard_within (within outer) of_body body_small guard)
  item_within outer (RawItem.Inner range parts) =
      let low = body_notes (within outer) range.low in
      let high = body_notes (within outer) range.high in
      let body = flat_map (part_notes (inside outer range.var)) parts in
      let few = no_more (low ++ high) (join is_site low high (body_within (within outer) range.low) (body_within (within outer) range.high)) in
      omega (arith, length-append (low ++ high) body, few, no_more body (parts_within (inside outer range.var) of_body body_small parts))

  items_within : (outer : Token) (items : List RawItem) → sum_by (item_sites of_body) (map (item_of texts names outer) items) ≤ 2 * length (flat_map (item_notes outer) items)
  items_within outer [] = omega arith
  items_within outer (x ∷ xs) =
      let all = sum_by-cons (item_sites of_body) (item_of texts names outer x) (map (item_of texts names outer) xs) in
      omega (arith, all, length-append (item_notes outer x) (flat_map (item_notes outer) xs), item_within outer x, items_within outer xs)

  pub loop_within : (x : RawLoop) → sum_by (item_sites of_body) (loop_of texts names x).items ≤ 2 * length (loop_notes x)
  unfolding loop_notes
  loop_within x =
      let outer = x.range.var in
      omega (arith, length-append (bound_notes x.range.low ++ bound_notes x.range.high) (flat_map (item_notes outer) x.items), items_within outer x.items)

-- ---- data sites

data_small : AreSmall of_data
data_small = record { nested = λ term. omega arith; table = λ sub. omega arith; cell = λ sub. omega arith }

module _ (texts : List (List ℕ)) (names : Names) where
  item_few : (outer : Token) (item : RawItem) → item_sites of_data (item_of texts names outer item) ≤ sites (item_notes outer item)
  item_few outer (RawItem.Part (RawPart.Assign assign)) = assign_within texts names (within outer) of_data data_small assign
  item_few outer (RawItem.Part (RawPart.Guard guard)) = guard_within texts names (within outer) of_data data_small guard
  item_few outer (RawItem.Inner range parts) =
      let scope = inside outer range.var in
      inside_last is_site (note range.var Variable (within outer) ∷ body_notes (within outer) range.low ++ body_notes (within outer) range.high) (flat_map (part_notes scope) parts)
      (omega (arith, parts_within texts names scope of_data data_small parts))

  loop_few : (each : RawLoop) → loop_sites of_data (loop_of texts names each) ≤ sites (loop_notes each)
  unfolding loop_notes
  loop_few each =
      let items = item_notes each.range.var in
      inside_last is_site (note each.name (Declared Sort.Loop) nothing ∷ note each.range.var Variable nothing ∷ bound_notes each.range.low ++ bound_notes each.range.high) (flat_map items each.items)
      (sums_within is_site (item_sites of_data) (item_of texts names each.range.var) items (item_few each.range.var) each.items)

  tree_few : (raw : RawKernel) → data_sites (tree_of texts names raw) ≤ sites (kernel_notes raw)
  unfolding kernel_notes
  tree_few raw =
      inside_last is_site (flat_map decl_notes raw.decls ++ head_notes raw.steps) (flat_map loop_notes raw.loops) (sums_within is_site (loop_sites of_data) (loop_of texts names) loop_notes loop_few raw.loops)

pub few_data_sites : (tree : Tree) → IsParsed tree → data_sites tree ≤ 256
few_data_sites tree parsed =
    let parses = parsed.parses in
    let all = texts parsed.tokens in
    let notes = kernel_notes parses.raw in
    let facts = facts_of all notes in
    omega (arith, ap data_sites parses.means, tree_few all (names_of facts) parses.raw, same_facts is_site all notes, few_sites facts (sound all notes parses.unbroken))
