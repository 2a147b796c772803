-- The executor's items are small at each new position.
use Rattle.std.proofs.Common.{◌≡◌, ℕ, ◌<◌, ◌≤◌, ℤ, pos, negsuc, ◌+ℤ◌, Option, None, Some, List, [], ◌∷◌, All, FitsSigned, w64, length, get_or, slice_get, refl, sym, subst, arith}
use Rattle.std.specs.Prelude.{◌^◌}
use Rattle.std.specs.Int.{int_gap}
use Rattle.std.proofs.lemmas.Int.{ints}
use Rattle.std.proofs.lemmas.List.Elements.{All-cons}
use Rattle.std.proofs.lemmas.Option.{get_or_from_slice_get}
use Rattle.spf_term.specs.Bounded.{AreWithin, IsBounded, IsWithin}
use Rattle.spf_term.specs.Environment.{Environment}
use Rattle.spf_term.specs.Normal.{normal}
use Rattle.spf_term.specs.Substitution.{IsReplaced, substituted}
use Rattle.spf_term.specs.Value.{IsSmall, applications, number_at, value}
use Rattle.spf_term.specs.declared.term.Term.{Term}
use Rattle.spf_touch.specs.Renaming.{Renaming}
use Rattle.spf_kernel.specs.Bounded.{IsBoundedLoop}
use Rattle.spf_kernel.specs.Named.{IsNamedTerm, NameCounts, counts_in}
use Rattle.spf_kernel.specs.declared.tree.Loop.{Loop}
use Rattle.spf_kernel.specs.declared.tree.Tree.{Tree}
use Rattle.spf_store.specs.Accepted.{IsAccepted, IsBoundedBy, IsIndex}
use Rattle.spf_store.specs.Shaped.{loop_shape, outer_value}
use Rattle.spf_store.specs.Small.{IsSmallItem}
use Rattle.spf_exec.specs.Composed.{composed_in, iteration_in, order_of, packing_of, variable}
use Rattle.spf_exec.specs.Executor.{IsOfMoved, IsPackingTable, executor_env, moved_to}
use Rattle.spf_exec.specs.Meaning.{AreBound}
use Rattle.spf_exec.specs.Moves.{IsMove}
use Rattle.spf_exec.specs.Rewritten.{composing, executor_items}
use Rattle.spf_exec.specs.declared.program.Moved.{Moved}
use Rattle.spf_exec.proofs.Arguments.{HasSmallArguments, normal_arguments, small_arguments, small_by, substituted_arguments}
use Rattle.spf_exec.proofs.Behind.{packing_table}
use Rattle.spf_exec.proofs.Counts.{few_applications, normal_few, substituted_few, variable_alone}
use Rattle.spf_exec.proofs.Following.{alone_replaced, index_value, items_named, iteration_alone, iteration_is}
use Rattle.spf_exec.proofs.Iterations.{lower_named, outer_replaced, there_inside}
use Rattle.spf_exec.proofs.SmallParts.{AreSmallAt, items_small}
use Rattle.spf_exec.proofs.SmallTerms.{as_value_small, by_arguments, by_few, carried, entry_small, packed_small, variable_arguments}

gap_is_few : (low high : ℤ) → IsIndex low → IsIndex high → int_gap low high < 2 ^ 32
gap_is_few (pos low) (pos high) p q = omega (arith, ints, p.at_least, p.at_most, q.at_least, q.at_most)
gap_is_few (pos low) (negsuc high) p q = omega (arith, ints, p.at_least, p.at_most, q.at_least, q.at_most)
gap_is_few (negsuc low) (pos high) p q = omega (arith, ints, p.at_least, p.at_most, q.at_least, q.at_most)
gap_is_few (negsuc low) (negsuc high) p q = omega (arith, ints, p.at_least, p.at_most, q.at_least, q.at_most)

-- a loop has few positions
pub few_positions : (env : Environment) (tree : Tree) (loop_no : ℕ) (loop : Loop) → IsAccepted env tree → slice_get tree.loops loop_no ≡ Some loop → (loop_shape env loop).extent < 2 ^ 32
few_positions env tree loop_no loop accepted at =
    let both = subst (IsBoundedBy env) (get_or_from_slice_get tree.loops loop_no loop loop at) (accepted.bounds loop_no loop (there_inside tree.loops tree.loops loop_no loop at refl)) in
    gap_is_few (outer_value env loop.low) (outer_value env loop.high) both.0 both.1

new_fits : (moves : Option (List ℕ)) (position : ℕ) → IsMove moves → IsOfMoved moves position → position < 2 ^ 32 → FitsSigned w64 (pos (moved_to moves position))
new_fits None position move inside few = omega (arith, ints, few)
new_fits (Some moves) position move inside few = let below = move.below position inside in omega (arith, ints, below, move.few)

module _ (normal_keeps : (env : Environment) (variables : List ℤ) (term : Term) → value env variables (normal term) ≡ value env variables term)
    (substitution_keeps : (env : Environment) (before after : List ℤ) (var : ℕ) (by term : Term) → IsReplaced var (value env before by) before after → value env before (substituted var by term) ≡ value env after term)
    (bounded_small : (env : Environment) (variables : List ℤ) (term : Term) → AreWithin env variables → IsBounded term → IsSmall env variables term)
    (env : Environment) (tree : Tree) (moved : Moved) (orders packings : List (List ℤ)) (renaming : Renaming) (bound : AreBound env tree moved orders packings renaming)
    (loop_no : ℕ) (loop : Loop) (position : ℕ) (at : slice_get tree.loops loop_no ≡ Some loop) (inside : IsOfMoved (get_or moved.loops loop_no None) position) (few : position < 2 ^ 32)
    (within : AreWithin env ((outer_value env loop.low +ℤ pos position) ∷ [])) where
  abbrev exec : Environment
  exec = executor_env env orders packings

  abbrev counts : NameCounts
  counts = counts_in tree.decls

  abbrev iteration : ℤ
  iteration = outer_value env loop.low +ℤ pos position

  abbrev new : ℤ
  new = pos (moved_to (get_or moved.loops loop_no None) position)

  abbrev by : Term
  by = iteration_in tree moved loop_no loop

  loop_bounded : IsBoundedLoop loop
  loop_bounded = subst IsBoundedLoop (get_or_from_slice_get tree.loops loop_no loop loop at) (bound.bounded.loops loop_no loop (there_inside tree.loops tree.loops loop_no loop at refl))

  none_within : AreWithin env []
  none_within = record { params = within.params; tables = within.tables; values = λ k d there. absurd (omega (arith, there)) }

  module _ (variables : ℕ) (here source : List ℤ) (is : value exec here by ≡ iteration) (replaced : IsReplaced 0 iteration here source) (first : number_at here (pos 0) ≡ new) (in_source : AreWithin env source) where
    by_small : HasSmallArguments exec here by
    by_small =
        by_arguments exec here (get_or moved.loops loop_no None) (order_of tree loop_no) loop.low (subst (FitsSigned w64) (sym first) (new_fits (get_or moved.loops loop_no None) position (bound.loops loop_no) inside few))
        (carried env orders packings counts bound.tables.index_arrays 0 here [] (λ number less. absurd (omega (arith, less))) loop.low (lower_named tree loop_no loop bound.named at)
        (small_arguments env [] loop.low (bounded_small env [] loop.low none_within loop_bounded.low)))

    by_is_few : applications by ≤ 64
    by_is_few = by_few exec here (get_or moved.loops loop_no None) (order_of tree loop_no) loop.low (let low = few_applications loop.low in omega (arith, low, loop_bounded.low.few))

    -- the composed term of one with small arguments
    composed_arguments : (of : Term) → HasSmallArguments exec source of → HasSmallArguments exec here (composed_in tree moved loop_no loop of)
    composed_arguments of each =
        normal_arguments exec here (normal_keeps exec here) (substituted 0 by of)
        (substituted_arguments exec here source 0 by by_small
        (λ term. substitution_keeps exec here source 0 by term (subst (λ number. IsReplaced 0 number here source) (sym is) replaced)) of each)

    index_arguments : (of : Term) → IsNamedTerm counts variables of → IsBounded of → HasSmallArguments exec here (composed_in tree moved loop_no loop of)
    index_arguments of named bounded =
        composed_arguments of (carried env orders packings counts bound.tables.index_arrays variables source source (λ number less. refl) of named (small_arguments env source of (bounded_small env source of in_source bounded)))

    index_fits : (of : Term) → IsNamedTerm counts variables of → IsBounded of → FitsSigned w64 (value exec here (composed_in tree moved loop_no loop of))
    index_fits of named bounded =
        subst (FitsSigned w64) (sym (index_value normal_keeps substitution_keeps env tree moved orders packings renaming bound loop_no loop position at inside variables here source is replaced of named))
        (bounded_small env source of in_source bounded).value

    index_few : (of : Term) → IsBounded of → applications (composed_in tree moved loop_no loop of) ≤ 4096
    index_few of bounded = let normal_form = normal_few (substituted 0 by of) in let one = substituted_few 0 by by_is_few of in omega (arith, normal_form, one, bounded.few)

    index_small : (of : Term) → IsNamedTerm counts variables of → IsBounded of → IsSmall exec here (composed_in tree moved loop_no loop of)
    index_small of named bounded = small_by exec here (composed_in tree moved loop_no loop of) (index_fits of named bounded) (index_arguments of named bounded) (omega (arith, index_few of bounded))

    small_at : AreSmallAt exec (composing tree moved loop_no loop) counts variables here
    small_at = record {
      index = index_small;
      cell = λ array sub named bounded.
          packed_small exec here (get_or moved.arrays array None) (packing_of tree array) (composed_in tree moved loop_no loop sub) (bound.arrays array)
          (subst (IsPackingTable (get_or moved.arrays array None)) (sym (packing_table env orders packings counts bound.tables.index_arrays (length tree.loops) array bound.tables.loops)) (bound.tables.packing_tables array))
          (index_fits sub named bounded) (index_arguments sub named bounded) (omega (arith, index_few sub bounded));
      number = λ n less.
          as_value_small exec here (composed_in tree moved loop_no loop (variable n)) (composed_arguments (variable n) (variable_arguments exec source n))
          (let normal_form = normal_few (substituted 0 by (variable n)) in let one = substituted_few 0 by by_is_few (variable n) in let alone = variable_alone n in omega (arith, normal_form, one, alone));
      entry = λ array sub named bounded.
          entry_small exec here array (composed_in tree moved loop_no loop sub) (index_small sub named bounded) (index_arguments sub named bounded) (omega (arith, index_few sub bounded));
    }

  -- the items are small at the new position
  pub iteration_small : All (IsSmallItem exec (new ∷ [])) (executor_items tree moved loop_no loop)
  iteration_small =
      items_small exec (composing tree moved loop_no loop) counts new
      (small_at 1 (new ∷ []) (iteration ∷ []) (iteration_alone normal_keeps substitution_keeps env tree moved orders packings renaming bound loop_no loop position at inside) (alone_replaced new iteration) refl within)
      (λ turn small_turn. small_at 2 (new ∷ turn ∷ []) (iteration ∷ turn ∷ []) (iteration_is normal_keeps substitution_keeps env tree moved orders packings renaming bound loop_no loop position at inside turn)
      (outer_replaced new iteration turn) refl
      (record { params = within.params; tables = within.tables; values = All-cons (IsWithin (2 ^ 22)) iteration (turn ∷ []) (within.values 0 iteration (omega arith)) (All-cons (IsWithin (2 ^ 22)) turn [] small_turn (λ k d there. absurd (omega (arith, there)))) }))
      loop.items (items_named tree loop_no loop bound.named at) loop_bounded.items
