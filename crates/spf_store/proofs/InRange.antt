-- What an event in its range says: a bound of a `for` is small, and a place of an array is that of a cell.
use Rattle.std.proofs.Common.{◌≡◌, ℕ, zero, suc, ◌+◌, ◌<◌, ◌^◌, ℤ, pos, negsuc, neg_ℤ, ◌≤ℤ◌, ◌<ℤ◌, Bool, true, false, ◌&&◌, int_le, int_lt, List, [], ◌∷◌, length, map, slice_get, slice_index_or, Some, None, refl, arith, inl, inr}
use Rattle.std.proofs.lemmas.Bool.{cases_Bool}
use Rattle.std.proofs.lemmas.Float.{T_from_true}
use Rattle.std.proofs.lemmas.Int.{ints}
use Rattle.std.specs.Int.Signed.{le_z_yes, lt_z_yes}
use Rattle.spf_term.specs.Bounded.{IsWithin}
use Rattle.spf_term.specs.Environment.{Environment}
use Rattle.spf_kernel.specs.declared.tree.Tree.{Tree}
use Rattle.spf_space.specs.Layout.{AreAdjacent, cells_in}
use Rattle.spf_space.specs.declared.shape.ArrayShape.{ArrayShape}
use Rattle.spf_store.specs.FirstFault.{data_length, unless_between}
use Rattle.spf_store.specs.Shaped.{data_of, starts_of}
use Rattle.spf_store.proofs.Adjacent.{end_within}

both : (a b : Bool) → (a && b) ≡ true → (a ≡ true) × (b ≡ true)
both true true h = (refl, refl)
both true false h = cc
both false b h = cc

pub between : (low high : ℤ) (site : ℕ) (value : ℤ) → unless_between low high site value ≡ None → (low ≤ℤ value) × (value <ℤ high)
between low high site value none = elim (cases_Bool (int_le low value && int_lt value high)) [
  | inl inside ↦
      let parts = both (int_le low value) (int_lt value high) inside in
      (le_z_yes (T_from_true (int_le low value) parts.0), lt_z_yes (T_from_true (int_lt value high) parts.1))
  | inr outside ↦ absurd (let e = rw outside at none in cc)
]

pub bound_small : (value : ℤ) → (neg_ℤ (pos 4194304) ≤ℤ value) × (value <ℤ pos 4194305) → IsWithin (2 ^ 22) value
bound_small (pos n) inside = omega (arith, ints, inside.1)
bound_small (negsuc n) inside = omega (arith, ints, inside.0)

-- an array that has a place has a shape
pub record Found (arrays : List ArrayShape) (array at : ℕ) : Type 0 where
  pub shape : ArrayShape
  pub there : slice_get arrays array ≡ Some shape
  pub inside : at < shape.length
  pub start : slice_index_or (map (λ (each : ArrayShape). each.start) arrays) array 0 ≡ shape.start
  pub known : array < length (map (λ (each : ArrayShape). each.start) arrays)

pub found : (arrays : List ArrayShape) (array at : ℕ) → at < slice_index_or (map (λ (each : ArrayShape). each.length) arrays) array 0 → Found arrays array at
found [] array at inside = absurd (omega arith)
found (shape ∷ arrays) zero at inside = record { shape = shape; there = refl; inside = inside; start = refl; known = omega arith }
found (shape ∷ arrays) (suc array) at inside =
    let rest : Found arrays array at = found arrays array at inside in
    record { shape = rest.shape; there = rest.there; inside = rest.inside; start = rest.start; known = omega (arith, rest.known) }

-- a place of an array is that of a cell
pub place_is_cell : (env : Environment) (tree : Tree) → AreAdjacent 0 (data_of env tree) → (array at : ℕ) → at < data_length env (data_of env tree) array → slice_index_or (starts_of env tree) array 0 + at < cells_in (data_of env tree)
place_is_cell env tree adjacent array at inside =
    let it = found (data_of env tree) array at inside in
    let end = end_within 0 (data_of env tree) array it.shape adjacent it.there in
    omega (arith, it.start, it.inside, end.1)
