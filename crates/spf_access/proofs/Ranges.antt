-- Numbers of an accepted kernel are within the limit of index expressions.
use Rattle.std.proofs.Common.{◌≡◌, ℕ, zero, suc, ◌<◌, ◌^◌, ℤ, pos, negsuc, ◌+ℤ◌, List, [], ◌∷◌, Some, All, refl, sym, ap, subst, map, arith}
use Rattle.std.proofs.lemmas.Int.{ints}
use Rattle.std.proofs.lemmas.List.Elements.{All-cons}
use Rattle.std.proofs.lemmas.Option.{get_or_from_slice_get, slice_get_within}
use Rattle.std.specs.Int.{int_gap}
use Rattle.std.specs.List.{slice_get}
use Rattle.spf_term.specs.Bounded.{AreWithin, IsWithin}
use Rattle.spf_term.specs.Environment.{Environment}
use Rattle.spf_kernel.specs.declared.tree.Decl.{Decl}
use Rattle.spf_kernel.specs.declared.tree.Decl.TheVariants.{Params, Index, Values}
use Rattle.spf_kernel.specs.declared.tree.Loop.{Loop}
use Rattle.spf_kernel.specs.declared.tree.Tree.{Tree}
use Rattle.spf_space.specs.declared.shape.LoopShape.{LoopShape}
use Rattle.spf_space.specs.declared.unit.Unit.{Unit}
use Rattle.spf_store.specs.Accepted.{AreTables, IsAccepted, IsFromTo, IsIndex}
use Rattle.spf_store.specs.Shaped.{loop_shape, loops_of, outer_value}
use Rattle.spf_store.specs.Source.{iteration_of, unit_trace}
use Rattle.spf_store.specs.Trace.{items_trace}

index_within : (z : ℤ) → IsIndex z → IsWithin (2 ^ 22) z
index_within (pos n) h = let high = h.at_most in omega (arith, ints, high)
index_within (negsuc n) h = let low = h.at_least in omega (arith, ints, low)

natural_within : (z : ℤ) → IsFromTo (pos 0) (pos 4194304) z → IsWithin (2 ^ 22) z
natural_within (pos n) h = let high = h.at_most in omega (arith, ints, high)
natural_within (negsuc n) h = let low = h.at_least in omega (arith, ints, low)

tables_within : (env : Environment) (decls : List Decl) (tables : List (List ℤ)) → AreTables env decls tables → All (All (IsWithin (2 ^ 22))) tables
tables_within env [] [] h = λ k d inside. absurd (omega arith)
tables_within env [] (table ∷ tables) h = absurd h
tables_within env (Params names ∷ decls) tables h = tables_within env decls tables h
tables_within env (Values arrays ∷ decls) tables h = tables_within env decls tables h
tables_within env (Index name size low high trend ∷ decls) [] h = absurd h
tables_within env (Index name size low high trend ∷ decls) (table ∷ tables) h =
    All-cons (All (IsWithin (2 ^ 22))) table tables (λ k d inside. index_within _ (h.0.range k d inside).2) (tables_within env decls tables h.1)

mapped_at : {A B : Type 0} (f : A → B) (xs : List A) (k : ℕ) (y : B) → slice_get (map f xs) k ≡ Some y → (x : A) × (slice_get xs k ≡ Some x) × (f x ≡ y)
mapped_at f [] k y at = cc
mapped_at f (x ∷ xs) zero y at = (x, refl, cc)
mapped_at f (x ∷ xs) (suc k) y at = mapped_at f xs k y at

gap_within : (low high : ℤ) (n : ℕ) → IsWithin (2 ^ 22) low → IsWithin (2 ^ 22) high → n < int_gap low high → IsWithin (2 ^ 22) (low +ℤ pos n)
gap_within (pos low) (pos high) n small large inside = omega (arith, ints)
gap_within (pos low) (negsuc high) n small large inside = omega arith
gap_within (negsuc low) (pos high) n small large inside = omega (arith, ints)
gap_within (negsuc low) (negsuc high) n small large inside = omega (arith, ints)

module _ (env : Environment) (tree : Tree) (loop_no : ℕ) (shape : LoopShape) (position : ℕ) (there : slice_get (loops_of env tree) loop_no ≡ Some shape) where
  loop : (each : Loop) × (slice_get tree.loops loop_no ≡ Some each) × (loop_shape env each ≡ shape)
  loop = mapped_at (loop_shape env) tree.loops loop_no shape there

  pub iteration_is : shape.lower +ℤ pos position ≡ iteration_of env tree (record { step = 0; loop_no = loop_no; position = position })
  iteration_is = rw loop.1 (ap (λ (of : LoopShape). of.lower +ℤ pos position) (sym loop.2))

  module _ (accepted : IsAccepted env tree) (inside : position < shape.extent) where
    pub iteration_within : IsWithin (2 ^ 22) (shape.lower +ℤ pos position)
    iteration_within =
        let at = slice_get_within tree.loops loop_no loop.0 loop.1 in
        let read = get_or_from_slice_get tree.loops loop_no loop.0 loop.0 loop.1 in
        let bounds = subst (λ (each : Loop). IsIndex (outer_value env each.low) × IsIndex (outer_value env each.high)) read (accepted.bounds loop_no loop.0 at) in
        subst (λ (of : LoopShape). position < of.extent → IsWithin (2 ^ 22) (of.lower +ℤ pos position)) loop.2
        (λ low. gap_within (outer_value env loop.0.low) (outer_value env loop.0.high) position (index_within _ bounds.0) (index_within _ bounds.1) low) inside

    pub variables_within : AreWithin env ((shape.lower +ℤ pos position) ∷ [])
    variables_within = record {
      params = λ k d inside. natural_within _ (accepted.natural k d inside);
      tables = tables_within env tree.decls env.tables accepted.tables;
      values = All-cons (IsWithin (2 ^ 22)) (shape.lower +ℤ pos position) [] iteration_within (λ k d inside. absurd (omega arith));
    }

-- the events of a unit, as its loop has them
pub trace_is : (env : Environment) (tree : Tree) (unit : Unit) (each : Loop) (iteration : ℤ) → slice_get tree.loops unit.loop_no ≡ Some each → iteration ≡ iteration_of env tree unit →
    items_trace env (iteration ∷ []) 1 each.items ≡ unit_trace env tree unit
unfolding unit_trace
trace_is env tree unit each iteration at is = rw is (rw at refl)
