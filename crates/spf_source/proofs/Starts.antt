-- The first elements of a kernel's arrays.
use Rattle.std.proofs.Common.{◌≡◌, ℕ, ◌+◌, ◌<◌, ◌≤◌, List, [], ◌∷◌, ◌++◌, length, map, take, get_or, set, refl, ap, sym, ◌∙◌, add-one, arith, inl, inr}
use Rattle.std.proofs.Math.Seq.{take-suc-set}
use Rattle.std.proofs.lemmas.List.{map-append}
use Rattle.std.proofs.lemmas.Bool.{cases_order, ltb-true, lt-ltb}
use Rattle.std.specs.List.{flat_map}
use Rattle.std.specs.Prelude.{nat_lt}
use Rattle.spf_term.specs.Environment.{Environment}
use Rattle.spf_kernel.specs.Bounded.{IsBoundedTree}
use Rattle.spf_kernel.specs.declared.tree.DataDecl.{DataDecl}
use Rattle.spf_kernel.specs.declared.tree.Tree.{Tree}
use Rattle.spf_space.specs.declared.shape.ArrayShape.{ArrayShape}
use Rattle.spf_store.specs.Shaped.{array_shapes, data_in, data_of, size, starts_of}
use Rattle.spf_store.proofs.Layouts.{arrays_are_named, front_more}

abbrev start : ArrayShape → ℕ
start array = array.start

pub filled_more : (starts : List ℕ) (arrays : List ArrayShape) (index : ℕ) (array : ArrayShape) → index < length starts → index < length arrays → array ≡ get_or arrays index array →
    take index starts ≡ map start (take index arrays) → take (index + 1) (set starts index array.start) ≡ map start (take (index + 1) arrays)
filled_more starts arrays index array room inside at filled =
    ap (λ count. take count (set starts index array.start)) (add-one index) ∙ take-suc-set starts index array.start room ∙ ap (λ (front : List ℕ). front ++ array.start ∷ []) filled
    ∙ sym (ap (map start) (front_more arrays index array inside at) ∙ map-append start (take index arrays) (array ∷ []))

module _ (env : Environment) where
  as_many : (from : ℕ) (arrays : List DataDecl) → length (array_shapes env from arrays) ≡ length arrays
  as_many from [] = refl
  as_many from (array ∷ arrays) = omega (arith, as_many (from + size env array.size) arrays)

  pub few_arrays : (tree : Tree) → IsBoundedTree tree → length (data_of env tree) ≤ 64
  few_arrays tree bounded = omega (arith, as_many 0 (flat_map data_in tree.decls), arrays_are_named tree.decls, bounded.arrays)

  -- the table of the arrays' first elements
  pub table_is : (tree : Tree) (arrays : List ArrayShape) (table : List ℕ) (count : ℕ) → arrays ≡ data_of env tree → count ≡ length arrays → take (length arrays) table ≡ map start arrays →
      take count table ≡ starts_of env tree
  table_is tree arrays table count same is filled = ap (λ number. take number table) is ∙ filled ∙ ap (map start) same

-- of two lengths with the same numbers below
pub same_length : (m n : ℕ) → ((e : ℕ) → nat_lt e m ≡ nat_lt e n) → m ≡ n
same_length m n same = elim (cases_order m n) [
  | inl equal ↦ equal
  | inr (inl less) ↦ absurd (let there = ltb-true m m (same m ∙ lt-ltb m n less) in omega (arith, there))
  | inr (inr more) ↦ absurd (let there = ltb-true n n (sym (same n) ∙ lt-ltb n m more) in omega (arith, there))
]
