-- The given numbers of the data arrays fill the arrays.
use Rattle.std.proofs.Common.{◌≡◌, ◌∙◌, ℕ, ◌+◌, pos, List, [], ◌∷◌, ◌++◌, None, length, map, flat_map, refl, sym, ap, arith, length-append}
use Rattle.std.specs.Int.{int_gap}
use Rattle.std.specs.List.{AllByRecursion}
use Rattle.std.proofs.lemmas.Int.{ints}
use Rattle.std.proofs.lemmas.List.Sums.{sum_by-append, sum_by-cons}
use Rattle.spf_space.specs.Layout.{cells_in}
use Rattle.spf_space.specs.declared.shape.ArrayShape.{ArrayShape}
use Rattle.spf_term.specs.Environment.{Environment}
use Rattle.spf_term.specs.declared.term.Term.{Term}
use Rattle.spf_kernel.specs.TreeNames.{arrays_of}
use Rattle.spf_kernel.specs.declared.tree.DataDecl.{DataDecl}
use Rattle.spf_kernel.specs.declared.tree.Decl.{Decl}
use Rattle.spf_kernel.specs.declared.tree.Decl.TheVariants.{Params, Index, Values}
use Rattle.spf_kernel.specs.declared.tree.Tree.{Tree}
use Rattle.spf_store.specs.Shaped.{array_shapes, data_in, data_of, outer_value, size, sizes}
use Rattle.spf_input.specs.Given.{Given, numbers_of}
use Rattle.spf_input.specs.Numbers.{cells_of, env_of, outer_env}
use Rattle.spf_input.specs.Rules.{bad_length_of, first_fault_of}
use Rattle.spf_input.proofs.Accepting.{AreSame, IsKept, IsSame, decls_kept, long, none_first}

flat_map-append : {A B : Type 0} (f : A → List B) (xs ys : List A) → length (flat_map f (xs ++ ys)) ≡ length (flat_map f xs) + length (flat_map f ys)
flat_map-append f [] ys = omega arith
flat_map-append f (x ∷ xs) ys =
    let behind = flat_map-append f xs ys in
    length-append (f x) (flat_map f (xs ++ ys)) ∙ (ap (λ n. length (f x) + n) behind ∙ (let one = length-append (f x) (flat_map f xs) in omega arith))

module _ (env : Environment) where
  cells_shaped : (from : ℕ) (arrays : List DataDecl) → cells_in (array_shapes env from arrays) ≡ sizes env arrays
  cells_shaped from [] = refl
  cells_shaped from (array ∷ arrays) =
      let behind = cells_shaped (from + size env array.size) arrays in
      sum_by-cons (λ (shape : ArrayShape). shape.length) (record { name = array.name; start = from; length = size env array.size }) (array_shapes env (from + size env array.size) arrays)
      ∙ (ap (λ n. size env array.size + n) behind ∙ sym (sum_by-cons (λ (array : DataDecl). size env array.size) array arrays))

  gap_to : (n : ℕ) → int_gap (pos 0) (pos n) ≡ n
  gap_to n = omega (arith, ints)

module _ (outer env : Environment) (given : List Given) where
  one_filled : (name : List ℕ) (term : Term) → IsSame outer env term → bad_length_of outer given name term ≡ None → length (numbers_of given name) ≡ size env term
  one_filled name term same none =
      let is : outer_value env term ≡ pos (length (numbers_of given name)) = sym same ∙ long (outer_value outer term) name (numbers_of given name) none in
      sym (ap (int_gap (pos 0)) is ∙ gap_to env (length (numbers_of given name)))

  arrays_filled : (arrays : List DataDecl) → AllByRecursion (λ (array : DataDecl). IsSame outer env array.size) arrays → AllByRecursion (λ (array : DataDecl). bad_length_of outer given array.name array.size ≡ None) arrays
      → length (flat_map (numbers_of given) (map (λ (array : DataDecl). array.name) arrays)) ≡ sizes env arrays
  arrays_filled [] same each = refl
  arrays_filled (array ∷ arrays) same each =
      let here = one_filled array.name array.size same.0 each.0 in
      let behind = arrays_filled arrays same.1 each.1 in
      length-append (numbers_of given array.name) (flat_map (numbers_of given) (map (λ (array : DataDecl). array.name) arrays))
      ∙ ((λ i. here i + behind i) ∙ sym (sum_by-cons (λ (array : DataDecl). size env array.size) array arrays))

  decls_filled : (decls : List Decl) → AllByRecursion (IsKept outer env given) decls → length (flat_map (numbers_of given) (flat_map arrays_of decls)) ≡ sizes env (flat_map data_in decls)
  decls_filled [] each = refl
  decls_filled (Params names ∷ decls) each = decls_filled decls each.1
  decls_filled (Index name size low high trend ∷ decls) each = decls_filled decls each.1
  decls_filled (Values arrays ∷ decls) each =
      let here = arrays_filled arrays each.0.0 (none_first (λ (array : DataDecl). bad_length_of outer given array.name array.size) arrays each.0.2) in
      let behind = decls_filled decls each.1 in
      flat_map-append (numbers_of given) (map (λ (array : DataDecl). array.name) arrays) (flat_map arrays_of decls)
      ∙ ((λ i. here i + behind i) ∙ sym (sum_by-append (λ (array : DataDecl). size env array.size) arrays (flat_map data_in decls)))

pub filled : (tree : Tree) (given : List Given) → AreSame (outer_env tree given) (env_of tree given) tree → first_fault_of tree given ≡ None
    → length (cells_of tree given) ≡ cells_in (data_of (env_of tree given) tree)
filled tree given same unbroken =
    decls_filled (outer_env tree given) (env_of tree given) given tree.decls (decls_kept tree given same unbroken)
    ∙ sym (cells_shaped (env_of tree given) 0 (flat_map data_in tree.decls))
