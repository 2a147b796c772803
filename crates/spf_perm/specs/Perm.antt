-- Permutations as lists of where each element goes, and what stands in the way of a list that isn't one.
use Rattle.std.specs.Prelude.{ℕ, ◌≡◌, ◌<◌, ◌≤◌, ◌^◌, List, length, slice_index_or, Result, Ok, Err}
use Rattle.spf_perm.specs.declared.perm_fault.PermFault.{PermFault}
use Rattle.spf_perm.specs.declared.perm_fault.PermFault.TheVariants.{OutOfRange, NotPerm, Memory}

-- where an element goes
abbrev pub at : List ℕ → ℕ → ℕ
at perm old = slice_index_or perm old 0

-- the first entries, this many, are places of the list
abbrev pub AreInside : List ℕ → ℕ → Type 0
AreInside list count = (e : ℕ) → e < count → at list e < length list

-- the first entries, this many, are distinct
abbrev pub AreDistinct : List ℕ → ℕ → Type 0
AreDistinct list count = (d e : ℕ) → d < count → e < count → at list d ≡ at list e → d ≡ e

-- each element goes to another place below the length
pub record IsPerm (list : List ℕ) : Type 0 where
  pub few : length list < 2 ^ 32
  pub below : AreInside list (length list)
  pub distinct : AreDistinct list (length list)

-- the first place whose entry isn't below the length
pub record IsFirstOutside (list : List ℕ) (place : ℕ) : Type 0 where
  pub there : place < length list
  pub outside : length list ≤ at list place
  pub least : AreInside list place

-- the least place whose entry stands earlier, and that earlier place
pub record IsFirstRepeat (list : List ℕ) (first second : ℕ) : Type 0 where
  pub order : first < second
  pub there : second < length list
  pub same : at list first ≡ at list second
  pub least : AreDistinct list second

-- what `of_list` answers: the permutation, or what stands in the way of it
abbrev pub IsPermOf : List ℕ → Result (List ℕ) PermFault → Type 0
IsPermOf list (Ok perm) = (perm ≡ list) × IsPerm list
IsPermOf list (Err (OutOfRange place)) = IsFirstOutside list place
IsPermOf list (Err (NotPerm first second)) = AreInside list (length list) × IsFirstRepeat list first second
IsPermOf list (Err Memory) = Unit {0}

-- the one answers with a permutation, or finds no memory
abbrev pub IsMade : (List ℕ → Type 0) → Result (List ℕ) PermFault → Type 0
IsMade P (Ok perm) = P perm
IsMade P (Err fault) = fault ≡ Memory

-- the two permutations lead back from each other
pub record AreInverse (perm back : List ℕ) : Type 0 where
  pub lengths : length back ≡ length perm
  pub returns : (e : ℕ) → e < length perm → at back (at perm e) ≡ e
  pub reaches : (e : ℕ) → e < length perm → at perm (at back e) ≡ e
