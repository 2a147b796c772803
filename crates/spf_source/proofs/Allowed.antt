-- Where each value on a unit's way is allowed, an iteration may be run on cells that own what it accesses.
use Rattle.std.proofs.Common.{◌≡◌, ℕ, ◌<◌, ◌^◌, ℤ, pos, negsuc, neg_ℤ, ◌≤ℤ◌, ◌<ℤ◌, Bool, true, List, [], ◌∷◌, All, slice_index_or, None, refl, arith}
use Rattle.std.proofs.lemmas.Int.{ints}
use Rattle.std.proofs.lemmas.List.Elements.{All-from_recursion, recursion_from_All}
use Rattle.std.specs.List.{AllByRecursion}
use Rattle.spf_term.specs.Environment.{Environment}
use Rattle.spf_kernel.specs.declared.tree.Tree.{Tree}
use Rattle.spf_space.specs.Layout.{AreAdjacent, cells_in}
use Rattle.spf_touch.specs.declared.class.Class.{Class}
use Rattle.spf_store.specs.Accesses.{accesses_of}
use Rattle.spf_store.specs.Effect.{element_at}
use Rattle.spf_store.specs.Event.{Event, Turn, Bound, Read, Access, Store}
use Rattle.spf_store.specs.FirstFault.{data_length, outside}
use Rattle.spf_store.specs.Shaped.{data_of, starts_of}
use Rattle.spf_store.proofs.InRange.{between, bound_small, found, place_is_cell}
use Rattle.spf_store.specs.Needs.{Allows, IsOwn, OwnsAll}

module _ (env : Environment) (tree : Tree) (owns : ℕ → Bool) (adjacent : AreAdjacent 0 (data_of env tree)) (few : cells_in (data_of env tree) < 2 ^ 32) where
  abbrev starts : List ℕ
  starts = starts_of env tree

  place_inside : (array : ℕ) (place : ℤ) → (pos 0 ≤ℤ place) × (place <ℤ pos (data_length env (data_of env tree) array)) → element_at (slice_index_or starts array 0) place < cells_in (data_of env tree)
  place_inside array (pos at) inside = place_is_cell env tree adjacent array at (omega (arith, ints, inside.1))
  place_inside array (negsuc at) inside = absurd (omega (arith, ints, inside.0))

  place_allowed : (array : ℕ) (place : ℤ) → (pos 0 ≤ℤ place) × (place <ℤ pos (data_length env (data_of env tree) array)) → owns (element_at (slice_index_or starts array 0) place) ≡ true →
      IsOwn starts owns array place
  place_allowed array (pos at) inside own =
      let low : at < data_length env (data_of env tree) array = omega (arith, ints, inside.1) in
      let it = found (data_of env tree) array at low in
      record { placed = record { known = it.known; at = at; is = refl; fits = omega (arith, place_is_cell env tree adjacent array at low, few) }; own = own }
  place_allowed array (negsuc at) inside own = absurd (omega (arith, ints, inside.0))

  abbrev InRange : Event → Type 0
  InRange event = outside env tree event ≡ None

  abbrev Owned : ℕ × Class → Type 0
  Owned access = owns access.0 ≡ true

  -- events in their ranges may come, if the cells own what they access
  all_allowed : (events : List Event) → AllByRecursion InRange events → AllByRecursion Owned (accesses_of starts events) → AllByRecursion (Allows starts owns) events
  all_allowed [] range own = tt
  all_allowed (Turn ∷ events) range own = (tt, all_allowed events range.1 own)
  all_allowed (Bound site value ∷ events) range own = (bound_small value (between (neg_ℤ (pos 4194304)) (pos 4194305) site value range.0), all_allowed events range.1 own)
  all_allowed (Read entry ∷ events) range own = (tt, all_allowed events range.1 own)
  all_allowed (Access site class array place ∷ events) range own =
      (place_allowed array place (between (pos 0) (pos (data_length env (data_of env tree) array)) site place range.0) own.0, all_allowed events range.1 own.1)
  all_allowed (Store assign variables ∷ events) range own = (tt, all_allowed events range.1 own)

  pub events_allowed : (events : List Event) → All InRange events → OwnsAll owns (accesses_of starts events) → All (Allows starts owns) events
  events_allowed events range own =
      All-from_recursion (Allows starts owns) events (all_allowed events (recursion_from_All InRange events range) (recursion_from_All Owned (accesses_of starts events) own))

  -- and who owns all cells owns it
  module _ (own : (e : ℕ) → e < cells_in (data_of env tree) → owns e ≡ true) where
    all_owned : (events : List Event) → AllByRecursion InRange events → AllByRecursion Owned (accesses_of starts events)
    all_owned [] range = tt
    all_owned (Turn ∷ events) range = all_owned events range.1
    all_owned (Bound site value ∷ events) range = all_owned events range.1
    all_owned (Read entry ∷ events) range = all_owned events range.1
    all_owned (Access site class array place ∷ events) range =
        (own _ (place_inside array place (between (pos 0) (pos (data_length env (data_of env tree) array)) site place range.0)), all_owned events range.1)
    all_owned (Store assign variables ∷ events) range = all_owned events range.1

    pub accesses_owned : (events : List Event) → All InRange events → OwnsAll owns (accesses_of starts events)
    accesses_owned events range = All-from_recursion Owned (accesses_of starts events) (all_owned events (recursion_from_All InRange events range))
