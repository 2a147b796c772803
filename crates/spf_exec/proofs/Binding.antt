-- What a runner is bound to: a kernel's numbers, what is moved, and the tables and packings of the moves.
use Rattle.std.proofs.Common.{◌≡◌, ℕ, zero, suc, ◌+◌, ◌<◌, ℤ, Option, None, Some, All, List, [], ◌∷◌, length, map, get_or, slice_get, refl, ap, ◌∙◌, subst, arith}
use Rattle.std.proofs.lemmas.List.{get_or-map, length-map}
use Rattle.std.proofs.lemmas.Option.{get_or_from_slice_get, slice_get_within}
use Rattle.spf_perm.specs.Perm.{IsPerm, at as goes_to}
use Rattle.spf_term.specs.Environment.{Environment}
use Rattle.spf_kernel.specs.Bounded.{IsBoundedTree}
use Rattle.spf_kernel.specs.Named.{IsNamed, counts_in}
use Rattle.spf_kernel.specs.declared.tree.Decl.{Decl}
use Rattle.spf_kernel.specs.declared.tree.Decl.TheVariants.{Params, Index, Values}
use Rattle.spf_kernel.specs.declared.tree.Loop.{Loop}
use Rattle.spf_kernel.specs.declared.tree.Tree.{Tree}
use Rattle.spf_space.specs.Layout.{AreAdjacent}
use Rattle.spf_space.specs.declared.shape.ArrayShape.{ArrayShape}
use Rattle.spf_space.specs.declared.shape.LoopShape.{LoopShape}
use Rattle.spf_space.specs.declared.shape.Shape.{Shape}
use Rattle.spf_pack.specs.Packing.{HavePackings, packed_element, renaming_of}
use Rattle.spf_store.specs.Accepted.{AreTables, IsAccepted}
use Rattle.spf_store.specs.Shaped.{IsShapeOf, loop_shape, outer_value}
use Rattle.spf_exec.specs.Executor.{AreTablesOf, IsOrderTable, IsPackingTable}
use Rattle.spf_exec.specs.Meaning.{AreBound, IsPackedBy}
use Rattle.spf_exec.specs.Moves.{AreMovesOf, AreOrderTables, IsMoveOf, extents, lengths, packing_by, packing_table, packings_of}
use Rattle.spf_exec.specs.declared.program.Moved.{Moved}
use Rattle.spf_exec.proofs.Orders.{extent_of}
use Rattle.spf_exec.proofs.Packings.{any_move, array_move, at_by, have_packings, move_at, moved_below, of_moved, packing_at}

-- as many tables as index arrays
as_many_tables : (env : Environment) (decls : List Decl) (tables : List (List ℤ)) → AreTables env decls tables → length tables ≡ (counts_in decls).tables
as_many_tables env [] [] are = refl
as_many_tables env [] (table ∷ tables) are = absurd are
as_many_tables env (Index name size low high trend ∷ decls) [] are = absurd are
as_many_tables env (Index name size low high trend ∷ decls) (table ∷ tables) are = let rest = as_many_tables env decls tables are.1 in omega (arith, rest)
as_many_tables env (Params names ∷ decls) tables are = as_many_tables env decls tables are
as_many_tables env (Values arrays ∷ decls) tables are = as_many_tables env decls tables are

packing_table_is : (moves : List (Option (List ℕ))) (n : ℕ) → IsPackingTable (get_or moves n None) (get_or (map packing_table moves) n [])
packing_table_is [] n = tt
packing_table_is (None ∷ moves) zero = tt
packing_table_is (Some of ∷ moves) zero = refl
packing_table_is (of ∷ moves) (suc n) = packing_table_is moves n

module _ (env : Environment) (tree : Tree) (shape : Shape) (moved : Moved) (shape_is : IsShapeOf env tree shape) where
  module _ (loop_no : ℕ) (loop : Loop) (at : slice_get tree.loops loop_no ≡ Some loop) where
    inside : loop_no < length tree.loops
    inside = slice_get_within tree.loops loop_no loop at

    loop_there : loop_no < length shape.loops
    loop_there = omega (arith, inside, length-map tree.loops (loop_shape env), ap (λ (loops : List LoopShape). length loops) shape_is.loops)

    loop_is : (d : LoopShape) → get_or shape.loops loop_no d ≡ loop_shape env loop
    loop_is d =
        ap (λ (loops : List LoopShape). get_or loops loop_no d) shape_is.loops ∙ get_or-map (loop_shape env) tree.loops loop_no loop d inside
        ∙ ap (loop_shape env) (get_or_from_slice_get tree.loops loop_no loop loop at)

    loop_move : AreMovesOf (extents shape.loops) moved.loops → IsMoveOf (loop_shape env loop).extent (get_or moved.loops loop_no None)
    loop_move are =
        move_at (extents shape.loops) moved.loops loop_no (loop_shape env loop).extent are (omega (arith, loop_there, length-map shape.loops extent_of))
        (get_or-map extent_of shape.loops loop_no (loop_shape env loop) 0 loop_there ∙ ap extent_of (loop_is (loop_shape env loop)))

    order_is : (orders : List (List ℤ)) → AreOrderTables shape.loops moved.loops orders → IsOrderTable (outer_value env loop.low) (get_or moved.loops loop_no None) (get_or orders loop_no [])
    order_is orders are =
        subst (λ (of : LoopShape). IsOrderTable of.lower (get_or moved.loops loop_no None) (get_or orders loop_no [])) (loop_is (loop_shape env loop)) (are.each loop_no (loop_shape env loop) loop_there)

  pub tables_of : (orders : List (List ℤ)) → AreOrderTables shape.loops moved.loops orders → IsAccepted env tree → AreTablesOf tree moved env orders (map packing_table moved.arrays)
  tables_of orders are accepted = record {
    index_arrays = as_many_tables env tree.decls env.tables accepted.tables;
    loops = are.each_loop ∙ ap (λ (of : List LoopShape). length of) shape_is.loops ∙ length-map tree.loops (loop_shape env);
    order_tables = λ loop_no loop at. order_is loop_no loop at orders are;
    packing_tables = packing_table_is moved.arrays;
  }

  module _ (loops : AreMovesOf (extents shape.loops) moved.loops) (arrays : AreMovesOf (lengths shape.arrays) moved.arrays) (adjacent : AreAdjacent 0 shape.arrays) (perms : All IsPerm (packings_of moved.arrays shape.arrays))
      (places : (arrays : List ArrayShape) (packings : List (List ℕ)) (number place : ℕ) (array : ArrayShape) (packing : List ℕ) → AreAdjacent 0 arrays → HavePackings arrays packings →
      slice_get arrays number ≡ Some array → slice_get packings number ≡ Some packing → place < array.length → packed_element packings (array.start + place) ≡ array.start + goes_to packing place) where
    packed_by : (array : ℕ) (of : ArrayShape) (place : ℕ) → slice_get shape.arrays array ≡ Some of → place < of.length → IsPackedBy (renaming_of (packings_of moved.arrays shape.arrays) perms) moved array of place
    packed_by array of place at within =
        let move = array_move moved.arrays shape.arrays arrays array of at in
        record {
          there = of_moved (get_or moved.arrays array None) of.length place move within;
          inside = moved_below (get_or moved.arrays array None) of.length place move within;
          goes = places shape.arrays (packings_of moved.arrays shape.arrays) array place of (packing_by (get_or moved.arrays array None) of.length) adjacent
              (have_packings moved.arrays shape.arrays arrays) at (packing_at moved.arrays shape.arrays array of at) within
              ∙ ap (λ more. of.start + more) (at_by (get_or moved.arrays array None) of.length place within);
        }

    pub bound_of : (orders packings : List (List ℤ)) → AreTablesOf tree moved env orders packings → IsAccepted env tree → IsNamed tree → IsBoundedTree tree →
        AreBound env tree moved orders packings (renaming_of (packings_of moved.arrays shape.arrays) perms)
    bound_of orders packings tables accepted named bounded = record {
      named = named;
      bounded = bounded;
      accepted = accepted;
      loops = any_move (extents shape.loops) moved.loops loops;
      arrays = any_move (lengths shape.arrays) moved.arrays arrays;
      positions = λ loop_no loop position at within. of_moved (get_or moved.loops loop_no None) (loop_shape env loop).extent position (loop_move loop_no loop at loops) within;
      tables = tables;
      packed = λ array of place at within. packed_by array of place (ap (λ (all : List ArrayShape). slice_get all array) shape_is.arrays ∙ at) within;
    }
