-- Where no rule is broken, each index expression in the tree that a kernel means is bounded, and its loops are few.
use Rattle.spf_kernel.proofs.Common.{Sort, Factor, ℕ, ◌+◌, ◌*◌, ◌^◌, ◌≤◌, Bool, true, false, List, [], ◌∷◌, ◌++◌, length, fold, Option, None, Some, is_some, ap, subst, ℤ, pos, ◌+ℤ◌, unsigned_abs, arith, ints, if◌then◌else◌, ⊤, AllByRecursion, split_each, length-append, Term, Term', roll-Term, out-roll-Term, Row_of-Mono, end_of-Mono, more_of-Mono, items-the_row-Mono, items_shown-the_row-Mono-0, Mono, Token, Spot, Scope, RawIx, RawIx', Row_of-RawStep, end_of-RawStep, more_of-RawStep, items-the_row-RawStep, items_shown-the_row-RawStep-1, RawStep, RawMono, Number', RawMono-Number-1-None', RawMono-Number-1-Some', RawAtom, RawAtom', RawAtom-at-None', RawAtom-at-Some', end_of-RawIx, more_of-RawIx, Fact, text_of, variables_in, Names, ix_notes, steps_notes, mono_notes, atom_notes, subscript_notes, excess_notes, expression_notes, ix_monomials, mono_monomials, atom_monomials, monomial_limit, number_notes, alone_of, constant_of, variable_of, table_of, data_array_of, is_data_array, bare_atom, bare_factor, term_of, more_monos, monos_of, atom_of, factor_at, ◌<◌, map, flat_map, Ok, refl, sym, length-map, All-from_recursion, RawLoop, RawKernel, Tree, Tokenized, texts, facts_of, names_of, note, Variable, Declared, bound_notes, head_notes, item_notes, decl_notes, loop_of, tree_of, IsUnbroken, is_data, is_loop, is_table, nothing, wrap, Atom, out-Term, out-RawIx, steps_monomials, loop_notes, kernel_notes, signed, IsVerdict}
use Rattle.spf_term.specs.Bounded.{IsWithin, IsBounded, monomials, sum_monomials, HasSmallNumbers, HaveSmallNumbers, AtomHasSmallNumbers}
use Rattle.spf_term.specs.Bounded as term_bounds
use Rattle.spf_kernel.specs.Bounded.{IsBoundedFactor, bounded, IsBoundedLoop, IsBoundedTree}
use Rattle.spf_kernel.proofs.NamedUses.{AreFitting, IsFitting, all_fit}
use Rattle.spf_kernel.proofs.NoteEquations.{few_monomials, number_within}
use Rattle.spf_kernel.proofs.PrintedConstants.{signed_size, wrap_no_larger}
use Rattle.spf_kernel.proofs.BodySites.{loop_within}
use Rattle.spf_kernel.proofs.Kept.{AreKept, all_kept, loop_kept}
use Rattle.spf_kernel.proofs.NamedLists.{arrays_found, tables_found}
use Rattle.spf_kernel.proofs.NoteCounts.{notes_that, both, counted, inside_last, same_facts}
use Rattle.spf_kernel.proofs.Unbroken.{few, few_loops, how_many, sound}

-- ---- terms made of lists

-- at most so many monomials, with small numbers
record IsSized (room : ℕ) (term : Term) : Type 0 where
  few : monomials term ≤ room
  small : HasSmallNumbers term

abbrev atom_size : Atom → ℕ
atom_size = term_bounds.atom_monomials

abbrev AreSized : ℕ → List Mono → Type 0
AreSized room [] = ⊤
AreSized room (mono ∷ monos) = (left : ℕ) × (1 + atom_size mono.atom + left ≤ room) × IsWithin (2 ^ 20) mono.coef × AtomHasSmallNumbers mono.atom × AreSized left monos

monos_sized : {n : _} (room : ℕ) (row : Row_of-Mono n) → AreSized room (items-the_row-Mono n row) → (sum_monomials row ≤ room) × HaveSmallNumbers row
monos_sized room end_of-Mono each = (omega arith, tt)
monos_sized room (more_of-Mono coef atom others) each =
    let more = monos_sized each.0 others each.4 in
    (omega (arith, more.0, each.1), (each.2, each.3, more.1))

more_room : (left room : ℕ) → left ≤ room → (monos : List Mono) → AreSized left monos → AreSized room monos
more_room left room fits [] each = tt
more_room left room fits (mono ∷ monos) each = (each.0, omega (arith, fits, each.1), each.2, each.3, each.4)

term_sized_by : (room : ℕ) (term : Term) → AreSized room (out-Term term).monos → IsWithin (2 ^ 28) (out-Term term).constant → IsSized room term
unfolding out-Term denote.Hole.Carrier.out
term_sized_by room (Term' shape monos constant) each small =
    let row = monos_sized room monos (subst (AreSized room) (items_shown-the_row-Mono-0 shape monos) each) in
    record { few = row.0; small = (row.1, small) }

rolled_term : (room : ℕ) (monos : List Mono) (constant : ℤ) → AreSized room monos → IsWithin (2 ^ 28) constant → IsSized room (roll-Term (record { monos = monos; constant = constant }))
rolled_term room monos constant each small =
    let term = roll-Term (record { monos = monos; constant = constant }) in
    term_sized_by room term (rw (out-roll-Term (record { monos = monos; constant = constant })) each) (rw (out-roll-Term (record { monos = monos; constant = constant })) small)

-- ---- numbers

coef_small : (minus : Bool) (n : ℕ) → n ≤ 2 ^ 20 → IsWithin (2 ^ 20) (wrap (signed minus n))
coef_small minus n small = omega (arith, wrap_no_larger (signed minus n), signed_size minus n)

abs_sum : (a b : ℤ) → unsigned_abs (a +ℤ b) ≤ unsigned_abs a + unsigned_abs b
abs_sum a b = omega (arith, ints)

module _ (texts : List (List ℕ)) (facts : List Fact) (scope : Scope) where
  module _ (spot : Spot) where
    alone_within : (minus : Bool) (x : RawMono) → AreFitting texts facts (mono_notes spot scope x) → unsigned_abs (alone_of minus x) ≤ length (mono_monomials x) * 2 ^ 22
    alone_within minus (Number' number RawMono-Number-1-None') each = omega (arith, signed_size minus number.value, number_within texts facts false number each)
    alone_within minus (Number' number (RawMono-Number-1-Some' atom)) each = omega (arith, ints)
    alone_within minus (RawMono.Atom atom) each = omega (arith, ints)

    -- each number adds at most 2^22
    sum_within : {n : _} (row : Row_of-RawStep n) (total : ℤ) → AreFitting texts facts (steps_notes spot scope row)
        → unsigned_abs (fold (λ total (step : RawStep). total +ℤ alone_of (is_some step.minus) step.mono) total (items-the_row-RawStep n row)) ≤ unsigned_abs total + length (steps_monomials row) * 2 ^ 22
    sum_within end_of-RawStep total each = omega arith
    sum_within (more_of-RawStep minus mono others) total each =
        let parts = split_each (IsFitting texts facts) (mono_notes spot scope mono) (steps_notes spot scope others) each in
        let alone = alone_of (is_some minus) mono in
        omega (arith, alone_within (is_some minus) mono parts.0, sum_within others (total +ℤ alone) parts.1, abs_sum total alone, length-append (mono_monomials mono) (steps_monomials others))

    constant_within : (x : RawIx) → AreFitting texts facts (ix_notes spot scope x) → unsigned_abs (constant_of x) ≤ length (ix_monomials x) * 2 ^ 22
    unfolding out-RawIx denote.Hole.Carrier.out
    constant_within (RawIx' shape steps) each =
        omega (arith, ints, sum_within steps (pos 0) each, ap (λ (steps : List RawStep). unsigned_abs (fold (λ total (step : RawStep). total +ℤ alone_of (is_some step.minus) step.mono) (pos 0) steps)) (items_shown-the_row-RawStep-1 shape steps))

  -- ---- index expressions

  module _ (names : Names) (spot : Spot) where
    atom_bare : (name : Token) (variable : Option ℕ) → (atom_size (bare_atom texts names variable name) ≤ 0) × AtomHasSmallNumbers (bare_atom texts names variable name)
    atom_bare name (Some variable) = (omega arith, tt)
    atom_bare name None = (omega arith, tt)

    mutual
      term_sized : (x : RawIx) → AreFitting texts facts (ix_notes spot scope x) → length (ix_monomials x) ≤ 64 → IsSized (length (ix_monomials x)) (term_of texts names scope x)
      term_sized (RawIx' shape steps) each few =
          rolled_term (length (steps_monomials steps)) (more_monos texts names scope steps) (wrap (constant_of (RawIx' shape steps))) (steps_sized steps each few)
          (omega (arith, few, wrap_no_larger (constant_of (RawIx' shape steps)), constant_within spot (RawIx' shape steps) each))

      steps_sized : {n : _} (row : Row_of-RawStep n) → AreFitting texts facts (steps_notes spot scope row) → length (steps_monomials row) ≤ 64 → AreSized (length (steps_monomials row)) (more_monos texts names scope row)
      steps_sized end_of-RawStep each few = tt
      steps_sized (more_of-RawStep minus mono others) each few =
          let parts = split_each (IsFitting texts facts) (mono_notes spot scope mono) (steps_notes spot scope others) each in
          let sum = length-append (mono_monomials mono) (steps_monomials others) in
          rw sum (mono_sized (is_some minus) mono parts.0 (length (steps_monomials others)) (omega (arith, few, sum)) (more_monos texts names scope others) (steps_sized others parts.1 (omega (arith, few, sum))))

      -- a monomial in front of others
      mono_sized : (minus : Bool) (x : RawMono) → AreFitting texts facts (mono_notes spot scope x) → (left : ℕ) → length (mono_monomials x) + left ≤ 64
          → (others : List Mono) → AreSized left others → AreSized (length (mono_monomials x) + left) (monos_of texts names scope minus x ++ others)
      mono_sized minus (Number' number RawMono-Number-1-None') each left few others rest = more_room left (1 + left) (omega arith) others rest
      mono_sized minus (Number' number (RawMono-Number-1-Some' atom)) each left few others rest =
          let parts = split_each (IsFitting texts facts) (number_notes true number) (atom_notes spot scope atom) each in
          let one = atom_sized atom parts.1 (omega (arith, few)) in
          (left, omega (arith, one.0), coef_small minus number.value (number_within texts facts true number parts.0), one.1, rest)
      mono_sized minus (RawMono.Atom atom) each left few others rest =
          let one = atom_sized atom each (omega (arith, few)) in
          (left, omega (arith, one.0), coef_small minus 1 (omega arith), one.1, rest)

      atom_sized : (x : RawAtom) → AreFitting texts facts (atom_notes spot scope x) → length (atom_monomials x) ≤ 64
          → (atom_size (atom_of texts names scope x) ≤ length (atom_monomials x)) × AtomHasSmallNumbers (atom_of texts names scope x)
      atom_sized (RawAtom' name RawAtom-at-None') each few = atom_bare name (variable_of (variables_in texts scope) (text_of texts name))
      atom_sized (RawAtom' name (RawAtom-at-Some' shape (more_of-RawIx ix end_of-RawIx))) each few =
          let parts = split_each (IsFitting texts facts) (ix_notes spot scope ix) [] each.1 in
          let sum = length-append (ix_monomials ix) [] in
          let arg = term_sized ix parts.0 (omega (arith, few, sum)) in
          (omega (arith, arg.few, sum), arg.small)

    pub expression_bounded : (x : RawIx) → AreFitting texts facts (expression_notes spot scope x) → IsBounded (term_of texts names scope x)
    expression_bounded x each =
        let parts = split_each (IsFitting texts facts) (excess_notes (monomial_limit spot) (ix_monomials x)) (ix_notes spot scope x) each in
        let few = few_monomials texts facts (monomial_limit spot) (ix_monomials x) parts.0 in
        let all = by_limit spot few in
        let sized = term_sized x parts.1 all in
        record { few = omega (arith, sized.few, all); small = sized.small }
      where
        by_limit : (spot : Spot) → length (ix_monomials x) ≤ monomial_limit spot → length (ix_monomials x) ≤ 64
        by_limit Spot.Bound few = omega (arith, few)
        by_limit spot few = few

  -- ---- values

  module _ (names : Names) where
    factor_bare : (name : Token) (variable : Option ℕ) → IsBoundedFactor (bare_factor texts names variable name)
    factor_bare name (Some variable) = tt
    factor_bare name None = tt

    -- a name, and what stands in the brackets behind it
    pub at_bounded : (name : Token) (at : Option RawIx) → AreFitting texts facts (subscript_notes scope at) → IsBoundedFactor (factor_at texts names scope name at)
    at_bounded name None each = factor_bare name (variable_of (variables_in texts scope) (text_of texts name))
    at_bounded name (Some ix) each = by (is_data_array texts names name) where
      by : (b : Bool) → IsBoundedFactor (if b then Factor.Cell (data_array_of texts names name) (term_of texts names scope ix) else Factor.Index (table_of texts names name) (term_of texts names scope ix))
      by true = expression_bounded names Spot.Body ix each
      by false = expression_bounded names Spot.Body ix each

module _ (texts : List (List ℕ)) (facts : List Fact) where
  leaves : AreKept texts facts (λ variables. bounded)
  leaves = record {
    ix = λ scope spot no_data. expression_bounded texts facts scope (names_of facts) spot;
    number = λ variables n. tt;
    name = λ scope name at fit. at_bounded texts facts scope (names_of facts) name at;
    array = λ variables name declared. tt;
  }

  loop_bounded : (x : RawLoop) → length (loop_notes x) < 2 ^ 30 → AreFitting texts facts (loop_notes x) → IsBoundedLoop (loop_of texts (names_of facts) x)
  loop_bounded x few each =
      let kept = loop_kept texts facts (λ variables. bounded) leaves x each in
      record { low = kept.low; high = kept.high; items = kept.items; sites = omega (arith, few, loop_within texts (names_of facts) x) }

  loops_bounded : (xs : List RawLoop) → length (flat_map loop_notes xs) < 2 ^ 30 → AreFitting texts facts (flat_map loop_notes xs) → AllByRecursion IsBoundedLoop (map (loop_of texts (names_of facts)) xs)
  loops_bounded [] few each = tt
  loops_bounded (x ∷ xs) few each =
      let parts = split_each (IsFitting texts facts) (loop_notes x) (flat_map loop_notes xs) each in
      let sum = length-append (loop_notes x) (flat_map loop_notes xs) in
      (loop_bounded x (omega (arith, few, sum)) parts.0, loops_bounded xs (omega (arith, few, sum)) parts.1)

-- each loop is declared
loops_declared : (xs : List RawLoop) → length xs ≤ notes_that is_loop (flat_map loop_notes xs)
unfolding loop_notes
loops_declared [] = omega arith
loops_declared (x ∷ xs) =
    let here = note x.range.var Variable nothing ∷ (bound_notes x.range.low ++ bound_notes x.range.high) ++ flat_map (item_notes x.range.var) x.items in
    omega (
      arith,
      loops_declared xs,
      both is_loop (loop_notes x) (flat_map loop_notes xs),
      counted is_loop (note x.name (Declared Sort.Loop) nothing) here refl,
    )

module _ (texts : List (List ℕ)) (x : RawKernel) (unbroken : IsUnbroken texts (kernel_notes x)) where
  abbrev facts : List Fact
  facts = facts_of texts (kernel_notes x)

  -- ---- the kernel

  loops_are_few : length (map (loop_of texts (names_of facts)) x.loops) ≤ 32
  unfolding kernel_notes
  loops_are_few =
      let declared = inside_last is_loop (flat_map decl_notes x.decls ++ head_notes x.steps) (flat_map loop_notes x.loops) (loops_declared x.loops) in
      omega (
        arith,
        length-map x.loops (loop_of texts (names_of facts)),
        declared,
        same_facts is_loop texts (kernel_notes x),
        few_loops facts (sound texts (kernel_notes x) unbroken),
      )

  tree_bounded : length (kernel_notes x) < 2 ^ 30 → IsBoundedTree (tree_of texts (names_of facts) x)
  unfolding kernel_notes
  tree_bounded few_notes =
      let names = names_of facts in
      let all = all_kept texts facts (λ variables. bounded) (leaves texts facts) x (all_fit texts (kernel_notes x) unbroken) in
      let room : length (flat_map loop_notes x.loops) < 2 ^ 30 = omega (arith, few_notes, length-append (flat_map decl_notes x.decls ++ head_notes x.steps) (flat_map loop_notes x.loops)) in
      record {
        decls = all.decls;
        steps = all.steps;
        loops = All-from_recursion IsBoundedLoop (map (loop_of texts names) x.loops) (loops_bounded texts facts x.loops room all.loops);
        few = loops_are_few;
        arrays = omega (arith, (few facts (sound texts (kernel_notes x) unbroken)).arrays, how_many is_data facts, ap length (arrays_found texts names x));
        tables = omega (arith, (few facts (sound texts (kernel_notes x) unbroken)).arrays, how_many is_table facts, ap length (tables_found texts names x));
      }

-- what a kernel of few notes means, where it breaks no rule
pub meaning_bounded : (tokens : Tokenized) (x : RawKernel) (tree : Tree) → length (kernel_notes x) < 2 ^ 30 → IsVerdict tokens x (Ok tree) → IsBoundedTree tree
meaning_bounded tokens x tree few verdict = subst IsBoundedTree (sym verdict.1) (tree_bounded (texts tokens) x verdict.0 few)
