-- Where the cells of all arrays are packed: the arrays lie one behind the other, and each has a packing.
use Rattle.std.specs.Prelude.{ℕ, ◌≡◌, ◌+◌, ◌-◌, ◌<◌, nat_eq, nat_lt, List, [], ◌∷◌, All, length, map, if◌then◌else◌}
use Rattle.std.specs.List.{AllByRecursion, position_or_len, sum_by}
use Rattle.std.proofs.Common.{false, inl, inr, refl, arith, eqb, ltb}
use Rattle.std.proofs.lemmas.Bool.{cases_lt, eq-eqb, le-ltb, lt-ltb, ne_eqb}
use Rattle.std.proofs.lemmas.List.Elements.{recursion_from_All}
use Rattle.std.proofs.lemmas.List.Sums.{position_or_len_is}
use Rattle.spf_perm.specs.Perm.{IsPerm, at}
use Rattle.spf_space.specs.declared.shape.ArrayShape.{ArrayShape}
use Rattle.spf_touch.specs.Renaming.{Renaming}

-- each array has a packing of its length
abbrev pub HavePackings : List ArrayShape → List (List ℕ) → Type 0
HavePackings arrays packings = map length packings ≡ map (λ (array : ArrayShape). array.length) arrays

-- how many cells the packings are for
abbrev pub cells_of : List (List ℕ) → ℕ
cells_of packings = sum_by length packings

-- where the element goes: in its array, to where the packing of the array takes it; and nowhere, if it is behind all arrays
abbrev pub packed_element : List (List ℕ) → ℕ → ℕ
packed_element [] e = e
packed_element (packing ∷ packings) e = if nat_lt e (length packing) then at packing e else length packing + packed_element packings (e - length packing)

-- the element that goes there
abbrev pub source_element : List (List ℕ) → ℕ → ℕ
source_element [] e = e
source_element (packing ∷ packings) e =
    if nat_lt e (length packing) then position_or_len (nat_eq e) packing else length packing + source_element packings (e - length packing)

stands_there : (packing : List ℕ) → IsPerm packing → (e : ℕ) → e < length packing → position_or_len (eqb (at packing e)) packing ≡ e
stands_there packing perm e inside =
    position_or_len_is (eqb (at packing e)) packing e 0 (omega arith)
    (λ d before. ne_eqb (at packing e) (at packing d) (λ same. let one = perm.distinct e d inside (omega arith) same in omega arith))
    (λ there. eq-eqb (at packing e) (at packing e) refl)

returns_each : (packings : List (List ℕ)) → AllByRecursion IsPerm packings → (e : ℕ) → source_element packings (packed_element packings e) ≡ e
returns_each [] perms e = refl
returns_each (packing ∷ packings) perms e = elim (cases_lt e (length packing)) [
  | inl inside ↦ rw (lt-ltb e (length packing) inside, lt-ltb (at packing e) (length packing) (perms.0.below e inside)) (stands_there packing perms.0 e inside)
  | inr behind ↦
      let more = packed_element packings (e - length packing) in
      let past : ltb (length packing + more) (length packing) ≡ false = le-ltb (length packing + more) (length packing) (omega arith) in
      let rest : length packing + more - length packing ≡ more = omega arith in
      rw (le-ltb e (length packing) behind, past, rest, returns_each packings perms.1 (e - length packing)) (omega arith)
]

pub returns : (packings : List (List ℕ)) → All IsPerm packings → (e : ℕ) → source_element packings (packed_element packings e) ≡ e
returns packings perms = returns_each packings (recursion_from_All IsPerm packings perms)

-- packing all arrays is a renaming
abbrev pub renaming_of : (packings : List (List ℕ)) → All IsPerm packings → Renaming
renaming_of packings perms = record { to = packed_element packings; back = source_element packings; returns = returns packings perms }
