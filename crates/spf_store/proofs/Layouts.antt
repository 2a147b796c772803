-- The arrays and loops of a kernel lie and count as a shape keeps it.
use Rattle.std.proofs.Common.{◌≡◌, ℕ, ◌+◌, ◌*◌, ◌<◌, ◌≤◌, ◌^◌, ℤ, pos, negsuc, neg_ℤ, ◌≤ℤ◌, List, [], ◌∷◌, ◌++◌, All, length, take, drop, get_or, refl, ap, sym, ◌∙◌, arith, append_assoc, append-nil, length-append}
use Rattle.std.specs.Int.{int_gap}
use Rattle.std.specs.List.{flat_map}
use Rattle.std.proofs.lemmas.Int.{ints}
use Rattle.std.proofs.lemmas.Grind.{flat_map-append}
use Rattle.std.proofs.lemmas.List.{drop_more, length-map, take-append-drop, take_more}
use Rattle.std.proofs.lemmas.List.Elements.{All-map}
use Rattle.std.proofs.lemmas.List.Sums.{sum_by-cons, sum_by-le}
use Rattle.spf_term.specs.Environment.{Environment}
use Rattle.spf_kernel.specs.Bounded.{IsBoundedTree}
use Rattle.spf_kernel.specs.TreeNames.{arrays_of, names_in}
use Rattle.spf_kernel.specs.declared.tree.DataDecl.{DataDecl}
use Rattle.spf_kernel.specs.declared.tree.Decl.{Decl}
use Rattle.spf_kernel.specs.declared.tree.Decl.TheVariants.{Params, Index, Values}
use Rattle.spf_kernel.specs.declared.tree.Tree.{Tree}
use Rattle.spf_space.specs.Layout.{AreAdjacent, IsLayout, cells_in, iterations, limit}
use Rattle.spf_space.specs.declared.shape.ArrayShape.{ArrayShape}
use Rattle.spf_space.specs.declared.shape.LoopShape.{LoopShape}
use Rattle.spf_store.specs.Accepted.{IsAccepted, IsFromTo, IsIndex}
use Rattle.spf_store.specs.Shaped.{array_shapes, data_in, data_of, loop_shape, loops_of, size, sizes}

-- ---- the front of a list, and what stands around an element

module _ {A : Type 0} (xs : List A) (index : ℕ) (x : A) (inside : index < length xs) (at : x ≡ get_or xs index x) where
  pub front_more : take (index + 1) xs ≡ take index xs ++ x ∷ []
  front_more = take_more xs index x inside ∙ ap (λ (y : A). take index xs ++ y ∷ []) (sym at)

  module _ {B : Type 0} (f : A → List B) where
    pub pieces_more : flat_map f (take (index + 1) xs) ≡ flat_map f (take index xs) ++ f x
    pieces_more = ap (flat_map f) front_more ∙ flat_map-append f (take index xs) (x ∷ []) ∙ ap (λ (piece : List B). flat_map f (take index xs) ++ piece) (append-nil (f x))

    pub around : flat_map f xs ≡ flat_map f (take index xs) ++ (f x ++ flat_map f (drop (index + 1) xs))
    around =
        ap (flat_map f) (sym (take-append-drop index xs) ∙ ap (λ (rest : List A). take index xs ++ rest) (drop_more xs index x inside ∙ ap (λ (y : A). y ∷ drop (index + 1) xs) (sym at)))
        ∙ flat_map-append f (take index xs) (x ∷ drop (index + 1) xs)

-- ---- arrays

-- the arrays of the declarations have one name each
pub arrays_are_named : (decls : List Decl) → length (flat_map data_in decls) ≡ length (names_in decls).arrays
arrays_are_named [] = refl
arrays_are_named (Params names ∷ decls) = arrays_are_named decls
arrays_are_named (Index name size low high trend ∷ decls) = arrays_are_named decls
arrays_are_named (Values arrays ∷ decls) =
    omega (
      arith,
      length-append arrays (flat_map data_in decls),
      length-append (arrays_of (Values arrays)) (flat_map arrays_of decls),
      length-map arrays (λ (array : DataDecl). array.name),
      arrays_are_named decls,
    )

module _ (env : Environment) where
  pub sizes-cons : (array : DataDecl) (arrays : List DataDecl) → sizes env (array ∷ arrays) ≡ size env array.size + sizes env arrays
  sizes-cons array arrays = sum_by-cons (λ (each : DataDecl). size env each.size) array arrays

  pub shapes-append : (from : ℕ) (first second : List DataDecl) →
      array_shapes env from (first ++ second) ≡ array_shapes env from first ++ array_shapes env (from + sizes env first) second
  shapes-append from [] second = ap (λ start. array_shapes env start second) (omega arith)
  shapes-append from (array ∷ first) second =
      let behind : (from + size env array.size) + sizes env first ≡ from + sizes env (array ∷ first) = omega (arith, sizes-cons array first) in
      ap (λ shapes. record { name = array.name; start = from; length = size env array.size } ∷ shapes)
      (shapes-append (from + size env array.size) first second ∙ ap (λ start. array_shapes env (from + size env array.size) first ++ array_shapes env start second) behind)

  pub sizes-append : (first second : List DataDecl) → sizes env (first ++ second) ≡ sizes env first + sizes env second
  sizes-append [] second = omega arith
  sizes-append (array ∷ first) second = omega (arith, sizes-cons array (first ++ second), sizes-cons array first, sizes-append first second)

  -- arrays laid behind others
  module _ (from : ℕ) {end : ℕ} (done piece : List DataDecl) {whole : List DataDecl} (is : whole ≡ done ++ piece) (at : end ≡ from + sizes env done) where
    pub laid_more : (before : List ArrayShape) {now after : List ArrayShape} → now ≡ before ++ array_shapes env from done → after ≡ now ++ array_shapes env end piece →
        after ≡ before ++ array_shapes env from whole
    laid_more before old new =
        new ∙ (λ i. old i ++ array_shapes env (at i) piece) ∙ append_assoc before (array_shapes env from done) (array_shapes env (from + sizes env done) piece)
        ∙ ap (λ shapes. before ++ shapes) (sym (shapes-append from done piece)) ∙ ap (λ arrays. before ++ array_shapes env from arrays) (sym is)

    pub end_more : {last : ℕ} → last ≡ end + sizes env piece → last ≡ from + sizes env whole
    end_more new = omega (arith, new, at, ap (sizes env) is, sizes-append done piece)

  pub sizes_around : (done piece rest : List DataDecl) {whole : List DataDecl} → whole ≡ done ++ (piece ++ rest) → sizes env done + sizes env piece ≤ sizes env whole
  sizes_around done piece rest is = omega (arith, ap (sizes env) is, sizes-append done (piece ++ rest), sizes-append piece rest)

  shapes_lie : (from : ℕ) (arrays : List DataDecl) → AreAdjacent from (array_shapes env from arrays)
  shapes_lie from [] = tt
  shapes_lie from (array ∷ arrays) = (refl, shapes_lie (from + size env array.size) arrays)

  pub cells_are : (from : ℕ) (arrays : List DataDecl) → cells_in (array_shapes env from arrays) ≡ sizes env arrays
  cells_are from [] = refl
  cells_are from (array ∷ arrays) =
      let next = from + size env array.size in
      omega (
        arith,
        sizes-cons array arrays,
        cells_are next arrays,
        sum_by-cons (λ (each : ArrayShape). each.length) (record { name = array.name; start = from; length = size env array.size }) (array_shapes env next arrays),
      )

  size_is_small : (z : ℤ) → IsFromTo (pos 0) (pos 4194303) z → int_gap (pos 0) z ≤ 4194303
  size_is_small (pos n) is = omega (arith, ints)
  size_is_small (negsuc n) is = omega (arith, ints)

  gap_is_small : (low high : ℤ) → IsIndex low → IsIndex high → int_gap low high ≤ 8388608
  gap_is_small (pos low) (pos high) p q = omega (arith, ints)
  gap_is_small (pos low) (negsuc high) p q = omega (arith, ints)
  gap_is_small (negsuc low) (pos high) p q = omega (arith, ints)
  gap_is_small (negsuc low) (negsuc high) p q = omega (arith, ints)

  module _ (tree : Tree) (accepted : IsAccepted env tree) where
    pub few_cells : IsBoundedTree tree → sizes env (flat_map data_in tree.decls) < 2 ^ 32
    few_cells bounded =
        omega (
          arith,
          arrays_are_named tree.decls,
          bounded.arrays,
          sum_by-le (λ (each : DataDecl). size env each.size) 4194303 (flat_map data_in tree.decls) (λ k d inside. size_is_small _ (accepted.sizes k d inside)),
        )

    pub few_iterations : length tree.loops ≤ 32 → iterations (loops_of env tree) ≤ 32 * 8388608
    few_iterations few =
        let each : All (λ (shape : LoopShape). shape.extent ≤ 8388608) (loops_of env tree) =
        All-map (λ (shape : LoopShape). shape.extent ≤ 8388608) (loop_shape env) tree.loops
        (λ k d inside. gap_is_small _ _ (accepted.bounds k d inside).0 (accepted.bounds k d inside).1) in
        omega (arith, few, length-map tree.loops (loop_shape env), sum_by-le (λ (shape : LoopShape). shape.extent) 8388608 (loops_of env tree) each)

    pub laid_out : IsBoundedTree tree → length tree.loops ≤ 32 → (steps : ℕ) → steps * iterations (loops_of env tree) ≤ 4194304 →
        IsLayout steps (loops_of env tree) (data_of env tree)
    laid_out bounded few steps units = record {
      units = units;
      per_step = omega (arith, few_iterations few);
      few = omega (arith, few, length-map tree.loops (loop_shape env));
      lowers = All-map (λ (shape : LoopShape). (neg_ℤ (pos limit) ≤ℤ shape.lower) × (shape.lower ≤ℤ pos limit)) (loop_shape env) tree.loops (λ k d inside. let index = (accepted.bounds k d inside).0 in (index.at_least, index.at_most));
      adjacent = shapes_lie 0 (flat_map data_in tree.decls);
      cells = omega (arith, cells_are 0 (flat_map data_in tree.decls), few_cells bounded);
    }
