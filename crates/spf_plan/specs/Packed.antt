-- Plans some of whose arrays are packed anew.
use Rattle.std.specs.Prelude.{ℕ, ◌≡◌, ◌<◌, ◌==◌, ⊤, Bool, true, false, List, [], ◌∷◌, length, slice_index_or, slice_set}
use Rattle.std.specs.List.{list_any}
use Rattle.spf_perm.specs.Perm.{IsPerm}
use Rattle.spf_touch.specs.declared.touch.Touch.{Touch}
use Rattle.spf_space.specs.Places.{order_of}
use Rattle.spf_space.specs.declared.places.Places.{Places}
use Rattle.spf_space.specs.declared.shape.Shape.{Shape}
use Rattle.spf_pack.specs.Packs.{CanCpack, CanTilepack, IsCpacking, IsTilepacking}
use Rattle.spf_plan.specs.Planned.{Planned}
use Rattle.spf_plan.specs.declared.packing.TouchOrder.{TouchOrder}
use Rattle.spf_plan.specs.declared.packing.TouchOrder.TheVariants.{Loop, Tiles}

-- whether the array is one of the list
abbrev pub is_listed : List ℕ → ℕ → Bool
is_listed arrays n = list_any (λ array. array == n) arrays

-- the packing of array n where those of a list are packed anew, all from the packings before
pub record IsNextPacking (arrays : List ℕ) (IsPacking : ℕ → List ℕ → Type 0) (packs : List (List ℕ)) (n : ℕ) (packing : List ℕ) : Type 0 where
  pub perm : IsPerm packing
  pub long : length packing ≡ length (slice_index_or packs n [])
  pub listed : is_listed arrays n ≡ true → IsPacking n packing
  pub other : is_listed arrays n ≡ false → packing ≡ slice_index_or packs n []

-- each array has its next packing
pub record AreNextPackings (arrays : List ℕ) (IsPacking : ℕ → List ℕ → Type 0) (packs next : List (List ℕ)) : Type 0 where
  pub each_array : length next ≡ length packs
  pub packings : (n : ℕ) → n < length packs → IsNextPacking arrays IsPacking packs n (slice_index_or next n [])

-- the marks, of which those of the listed arrays are set
abbrev pub marked : List ℕ → List Bool → List Bool
marked [] marks = marks
marked (array ∷ arrays) marks = marked arrays (slice_set marks array true)

-- the plan with these packings, the listed arrays marked as moved
abbrev pub repacked : List ℕ → List (List ℕ) → Planned → Planned
repacked arrays packs plan = record plan { packs = packs; moved_arrays = marked arrays plan.moved_arrays }

-- each listed array has a packing that these are for, and is marked as moved; all else is as before
pub record IsPacked (arrays : List ℕ) (IsPacking : ℕ → List ℕ → Type 0) (plan after : Planned) : Type 0 where
  pub packings : AreNextPackings arrays IsPacking plan.packs after.packs
  pub after_is : after ≡ repacked arrays after.packs plan

-- where the plan runs units
abbrev pub places_of : Planned → Places
places_of plan = record { tiles = plan.tiles; orders = plan.orders }

-- the list packs the array by the touches of the listed ones, which are taken in this order
abbrev pub IsPackingBy : List (List Touch) → Shape → Places → List ℕ → List (List ℕ) → TouchOrder → ℕ → List ℕ → Type 0
IsPackingBy touches shape places arrays packs (Loop by) n packing = IsCpacking touches shape by (order_of places.orders by) (n ∷ arrays) packs packing
IsPackingBy touches shape places arrays packs Tiles n packing = IsTilepacking touches shape places (n ∷ arrays) packs packing

-- the array can be packed so
abbrev pub CanPackBy : List (List Touch) → Shape → Places → List ℕ → List (List ℕ) → TouchOrder → ℕ → Type 0
CanPackBy touches shape places arrays packs (Loop by) n = CanCpack touches shape by (order_of places.orders by) (n ∷ arrays) packs
CanPackBy touches shape places arrays packs Tiles n = CanTilepack touches shape places (n ∷ arrays) packs

-- the loop whose touches are taken is there
abbrev pub IsOrderFor : Shape → TouchOrder → Type 0
IsOrderFor shape (Loop by) = by < length shape.loops
IsOrderFor shape Tiles = ⊤
