use Rattle.std.proofs.Common.{◌≡◌, pos, ◌+ℤ◌, None, [], ◌∷◌, length, get_or, arith, sym, ◌∙◌, subst, refl}
use Rattle.spf_term.specs.Substitution.{IsReplaced, substituted}
use Rattle.spf_term.specs.Value.{value}
use Rattle.spf_kernel.specs.Named.{counts_in}
use Rattle.spf_store.specs.Shaped.{outer_value}
use Rattle.spf_exec.specs.Composed.{iteration_in, order_of, packing_of}
use Rattle.spf_exec.specs.Executor.{IsOrderTable, IsPackingTable, executor_env, moved_to}
use Rattle.spf_exec.proofs.Behind.{order_table, packing_table, term_same}
use Rattle.spf_exec.proofs.Iterations.{iteration_value, lower_named, outer_replaced, packed_value, there_inside}
use Rattle.spf_exec.proofs.laws.composed_terms_keep_the_value.Goals as goal

pub returns-clause-composed : goal.returns-clause-composed
returns-clause-composed c tree moved env orders packings named tables loop_no loop position inner term at inside is_named =
    let exec = executor_env env orders packings in
    let counts = counts_in tree.decls in
    let moves = get_or moved.loops loop_no None in
    let before = pos (moved_to moves position) ∷ inner ∷ [] in
    let iteration = outer_value env loop.low +ℤ pos position in
    let order = sym (order_table env orders packings counts tables.index_arrays loop_no (there_inside tree.loops orders loop_no loop at tables.loops)) in
    let low = term_same env orders packings counts tables.index_arrays 0 before [] (λ number less. absurd (omega (arith, less))) loop.low (lower_named tree loop_no loop named at) in
    let is : value exec before (iteration_in tree moved loop_no loop) ≡ iteration =
    iteration_value exec moves (order_of tree loop_no) position inner (outer_value env loop.low) loop.low inside
    (subst (IsOrderTable (outer_value env loop.low) moves) order (tables.order_tables loop_no loop at)) low in
    c.normal_form_keeps_the_value.ensures exec before (substituted 0 (iteration_in tree moved loop_no loop) term)
    ∙ c.substitution_keeps_the_value.ensures exec before (iteration ∷ inner ∷ []) 0 (iteration_in tree moved loop_no loop) term
    (subst (λ new. IsReplaced 0 new before (iteration ∷ inner ∷ [])) (sym is) (outer_replaced (pos (moved_to moves position)) iteration inner))
    ∙ term_same env orders packings counts tables.index_arrays 2 (iteration ∷ inner ∷ []) (iteration ∷ inner ∷ []) (λ number less. refl) term is_named

pub returns-clause-packed : goal.returns-clause-packed
returns-clause-packed c tree moved env orders packings tables variables array place term inside is =
    packed_value (executor_env env orders packings) variables (get_or moved.arrays array None) (packing_of tree array) place term inside
    (subst (IsPackingTable (get_or moved.arrays array None)) (sym (packing_table env orders packings (counts_in tree.decls) tables.index_arrays (length tree.loops) array tables.loops)) (tables.packing_tables array)) is
