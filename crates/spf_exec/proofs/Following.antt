-- Composed terms follow the source's at a new position, and the executor's iterations do what the source's do.
use Rattle.std.proofs.Common.{◌≡◌, ℕ, zero, suc, ◌+◌, ◌<◌, ℤ, pos, negsuc, neg_ℤ, ◌+ℤ◌, ◌*ℤ◌, None, Some, List, [], ◌∷◌, ◌++◌, false, All, length, nat_eq, get_or, slice_get, refl, ap, sym, ◌∙◌, subst, arith}
use Rattle.std.specs.List.{AllByRecursion}
use Rattle.std.proofs.lemmas.Int.{ints}
use Rattle.std.proofs.lemmas.List.{get_or_append_left}
use Rattle.std.proofs.lemmas.Option.{get_or_from_slice_get}
use Rattle.std.specs.Prelude.{◌^◌}
use Rattle.spf_term.specs.Bounded.{IsWithin}
use Rattle.spf_term.specs.Environment.{Environment}
use Rattle.spf_term.specs.Normal.{normal}
use Rattle.spf_term.specs.Substitution.{IsReplaced, substituted}
use Rattle.spf_term.specs.Value.{atom_value, number_at, sum_value, table_at, value}
use Rattle.spf_term.specs.declared.term.Atom.{Atom, Var, Param, App}
use Rattle.spf_term.specs.declared.term.Term.{Term, Term', Row_of-Mono, end_of-Mono, more_of-Mono}
use Rattle.spf_touch.specs.Renaming.{Renaming}
use Rattle.spf_touch.specs.declared.class.Class.{Class}
use Rattle.spf_kernel.specs.Kept.{KeepsItem, KeepsLoop}
use Rattle.spf_kernel.specs.Named.{IsNamed, IsNamedTerm, NameCounts, counts_in, named as named_in}
use Rattle.spf_kernel.specs.declared.tree.Loop.{Loop}
use Rattle.spf_kernel.specs.declared.tree.Tree.{Tree}
use Rattle.spf_store.specs.Effect.{element_at}
use Rattle.spf_store.specs.Event.{Event, Bound, Access}
use Rattle.spf_store.specs.FirstFault.{data_length, outside}
use Rattle.spf_store.specs.Shaped.{data_of, outer_value, starts_of}
use Rattle.spf_store.specs.Trace.{items_trace}
use Rattle.spf_store.proofs.Adjacent.{end_within}
use Rattle.spf_store.proofs.InRange.{between, bound_small, found}
use Rattle.spf_store.proofs.Layouts.{laid_out}
use Rattle.spf_exec.specs.Composed.{composed_in, iteration_in, order_of, packed_in, packing_of, variable}
use Rattle.spf_exec.specs.Executor.{HasPlace, IsOfMoved, IsOrderTable, IsPackingTable, executor_env, moved_to, packed_place}
use Rattle.spf_exec.specs.Meaning.{AreBound}
use Rattle.spf_exec.specs.Rewritten.{composing, executor_items}
use Rattle.spf_exec.specs.declared.program.Moved.{Moved}
use Rattle.spf_exec.proofs.Alike.{Alike}
use Rattle.spf_exec.proofs.Behind.{order_table, packing_table, term_same}
use Rattle.spf_exec.proofs.Iterations.{atom_alone, iteration_value, lower_named, outer_replaced, packed_value, there_inside}
use Rattle.spf_exec.proofs.Mirrored.{Follows, Goes, items_mirror}

-- a term has the same value where each variable has
module _ (env : Environment) (here there : List ℤ) (alike : (number : ℕ) → number_at here (pos number) ≡ number_at there (pos number)) where
  mutual
    value_same : (term : Term) → value env here term ≡ value env there term
    value_same (Term' shape monos constant) = ap (λ (sum : ℤ). sum +ℤ constant) (sum_same monos)

    sum_same : {n : _} (row : Row_of-Mono n) → sum_value env here row ≡ sum_value env there row
    sum_same end_of-Mono = refl
    sum_same (more_of-Mono coef atom others) = λ i. (coef *ℤ atom_same atom i) +ℤ sum_same others i

    atom_same : (atom : Atom) → atom_value env here atom ≡ atom_value env there atom
    atom_same (Var number) = alike number
    atom_same (Param number) = refl
    atom_same (App fun arg) = ap (number_at (table_at env fun)) (value_same arg)

alone : (number : ℤ) (variable : ℕ) → number_at (number ∷ []) (pos variable) ≡ number_at (number ∷ pos 0 ∷ []) (pos variable)
alone number zero = refl
alone number (suc zero) = refl
alone number (suc (suc variable)) = refl

pub alone_replaced : (old new : ℤ) → IsReplaced 0 new (old ∷ []) (new ∷ [])
alone_replaced old new = record { new = refl; others = others } where
  others : (other : ℕ) → nat_eq other 0 ≡ false → number_at (new ∷ []) (pos other) ≡ number_at (old ∷ []) (pos other)
  others zero apart = cc
  others (suc other) apart = refl

pub items_named : (tree : Tree) (loop_no : ℕ) (loop : Loop) → IsNamed tree → slice_get tree.loops loop_no ≡ Some loop → All (KeepsItem (named_in (counts_in tree.decls))) loop.items
unfolding IsNamed
items_named tree loop_no loop named at =
    let keeps : KeepsLoop (named_in (counts_in tree.decls)) (get_or tree.loops loop_no loop) = named.loops loop_no loop (there_inside tree.loops tree.loops loop_no loop at refl) in
    subst (λ (of : Loop). All (KeepsItem (named_in (counts_in tree.decls))) of.items) (get_or_from_slice_get tree.loops loop_no loop loop at) keeps.items

module _ (normal_keeps : (env : Environment) (variables : List ℤ) (term : Term) → value env variables (normal term) ≡ value env variables term)
    (substitution_keeps : (env : Environment) (before after : List ℤ) (var : ℕ) (by term : Term) → IsReplaced var (value env before by) before after → value env before (substituted var by term) ≡ value env after term)
    (env : Environment) (tree : Tree) (moved : Moved) (orders packings : List (List ℤ)) (renaming : Renaming) (bound : AreBound env tree moved orders packings renaming) where
  abbrev pub exec : Environment
  exec = executor_env env orders packings

  abbrev pub counts : NameCounts
  counts = counts_in tree.decls

  abbrev starts : List ℕ
  starts = starts_of env tree

  abbrev InRange : Event → Type 0
  InRange event = outside env tree event ≡ None

  bounds : (site : ℕ) (value : ℤ) → InRange (Bound site value) → IsWithin (2 ^ 22) value
  bounds site value range = bound_small value (between (neg_ℤ (pos 4194304)) (pos 4194305) site value range)

  module _ (loop_no : ℕ) (loop : Loop) (position : ℕ) (at : slice_get tree.loops loop_no ≡ Some loop) (inside : IsOfMoved (get_or moved.loops loop_no None) position) where
    abbrev pub iteration : ℤ
    iteration = outer_value env loop.low +ℤ pos position

    abbrev pub new : ℤ
    new = pos (moved_to (get_or moved.loops loop_no None) position)

    abbrev pub by : Term
    by = iteration_in tree moved loop_no loop

    pub iteration_is : (turn : ℤ) → value exec (new ∷ turn ∷ []) by ≡ iteration
    iteration_is turn =
        let moves = get_or moved.loops loop_no None in
        let order = sym (order_table env orders packings counts bound.tables.index_arrays loop_no (there_inside tree.loops orders loop_no loop at bound.tables.loops)) in
        let low = term_same env orders packings counts bound.tables.index_arrays 0 (new ∷ turn ∷ []) [] (λ number less. absurd (omega (arith, less))) loop.low (lower_named tree loop_no loop bound.named at) in
        iteration_value exec moves (order_of tree loop_no) position turn (outer_value env loop.low) loop.low inside
        (subst (IsOrderTable (outer_value env loop.low) moves) order (bound.tables.order_tables loop_no loop at)) low

    pub iteration_alone : value exec (new ∷ []) by ≡ iteration
    iteration_alone = value_same exec (new ∷ []) (new ∷ pos 0 ∷ []) (alone new) by ∙ iteration_is (pos 0)

    abbrev FollowsAt : ℕ → List ℤ → List ℤ → Type 0
    FollowsAt = Follows exec env starts renaming InRange (composing tree moved loop_no loop) counts

    module _ (variables : ℕ) (here source : List ℤ) (is : value exec here by ≡ iteration) (replaced : IsReplaced 0 iteration here source) where
      pub composed_value : (of : Term) → value exec here (composed_in tree moved loop_no loop of) ≡ value exec source of
      composed_value of =
          normal_keeps exec here (substituted 0 by of) ∙ substitution_keeps exec here source 0 by of (subst (λ number. IsReplaced 0 number here source) (sym is) replaced)

      pub index_value : (of : Term) → IsNamedTerm counts variables of → value exec here (composed_in tree moved loop_no loop of) ≡ value env source of
      index_value of named = composed_value of ∙ term_same env orders packings counts bound.tables.index_arrays variables source source (λ number less. refl) of named

      -- an array's place goes to its packed place
      place_goes : (array : ℕ) (site : ℕ) (class : Class) (place there : ℤ) → InRange (Access site class array place) →
          ((at : ℕ) → place ≡ pos at → HasPlace moved array at → there ≡ pos (packed_place moved array at)) → Goes exec env starts renaming InRange (composing tree moved loop_no loop) counts array place there
      place_goes array site class (pos at) there range packed =
          let inside : at < data_length env (data_of env tree) array = omega (arith, ints, (between (pos 0) (pos (data_length env (data_of env tree) array)) site (pos at) range).1) in
          let it = found (data_of env tree) array at inside in
          let goes = bound.packed array it.shape at it.there it.inside in
          let laid = laid_out env tree bound.accepted bound.bounded bound.bounded.few 0 (omega arith) in
          let end = end_within 0 (data_of env tree) array it.shape laid.adjacent it.there in
          let there_is = packed at refl goes.there in
          record {
            placed = record { known = it.known; at = packed_place moved array at; is = there_is; fits = omega (arith, it.start, goes.inside, end.1, laid.cells) };
            goes = ap (element_at (get_or starts array 0)) there_is ∙ ap (λ from. from + packed_place moved array at) it.start ∙ sym goes.goes ∙ ap (λ from. renaming.to (from + at)) (sym it.start);
          }
      place_goes array site class (negsuc at) there range packed =
          absurd (let low = (between (pos 0) (pos (data_length env (data_of env tree) array)) site (negsuc at) range).0 in omega (arith, ints, low))

      follows : FollowsAt variables here source
      follows = record {
        index = index_value;
        number = λ n less. composed_value (variable n) ∙ atom_alone exec source (Var n);
        entry = λ array sub less named.
            let table : table_at exec array ≡ table_at env array = get_or_append_left env.tables (orders ++ packings) [] array (omega (arith, less, bound.tables.index_arrays)) in
            atom_alone exec here (App array (composed_in tree moved loop_no loop sub)) ∙ (λ i. number_at (table i) (index_value sub named i));
        cell = λ site class array sub named range.
            place_goes array site class (value env source sub) (value exec here (packed_in tree moved array (composed_in tree moved loop_no loop sub))) range
            (λ at is_at there.
            packed_value exec here (get_or moved.arrays array None) (packing_of tree array) at (composed_in tree moved loop_no loop sub) there
            (subst (IsPackingTable (get_or moved.arrays array None)) (sym (packing_table env orders packings counts bound.tables.index_arrays (length tree.loops) array bound.tables.loops)) (bound.tables.packing_tables array))
            (index_value sub named ∙ is_at));
      }

    -- the executor's iteration at the new position is alike to that of the source
    pub iteration_alike : AllByRecursion InRange (items_trace env (iteration ∷ []) 1 loop.items) →
        Alike exec env starts renaming (items_trace exec (new ∷ []) 1 (executor_items tree moved loop_no loop)) (items_trace env (iteration ∷ []) 1 loop.items)
    iteration_alike =
        items_mirror exec env starts renaming InRange (composing tree moved loop_no loop) counts refl bounds new iteration
        (follows 1 (new ∷ []) (iteration ∷ []) iteration_alone (alone_replaced new iteration))
        (λ turn. follows 2 (new ∷ turn ∷ []) (iteration ∷ turn ∷ []) (iteration_is turn) (outer_replaced new iteration turn)) 1 1 loop.items (items_named tree loop_no loop bound.named at)
