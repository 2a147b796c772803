-- What an iteration touches: the distinct elements of its accesses, in the order of first access.
use Rattle.std.specs.Prelude.{ℕ, List, [], ◌∷◌, map, slice_index_or}
use Rattle.spf_term.specs.Environment.{Environment}
pub use Rattle.spf_touch.specs.Noted.{noted_all}
use Rattle.spf_touch.specs.declared.class.Class.{Class}
use Rattle.spf_touch.specs.declared.touch.Touch.{Touch}
use Rattle.spf_kernel.specs.declared.tree.Tree.{Tree}
use Rattle.spf_space.specs.Units.{loops_units}
use Rattle.spf_store.specs.Effect.{element_at}
use Rattle.spf_store.specs.Event.{Event, Access}
use Rattle.spf_store.specs.FirstFault.{walked}
use Rattle.spf_store.specs.Shaped.{loops_of, starts_of}

module _ (starts : List ℕ) where
  -- the elements that are accessed, each with its class, in the order of evaluation
  abbrev pub accesses_of : List Event → List (ℕ × Class)
  accesses_of [] = []
  accesses_of (Access site class array place ∷ events) = (element_at (slice_index_or starts array 0) place, class) ∷ accesses_of events
  accesses_of (_ ∷ events) = accesses_of events

abbrev pub touches_in : List ℕ → List Event → List Touch
touches_in starts events = noted_all [] (accesses_of starts events)

-- the touch list of each iteration of one step; with no steps there is no access
unfoldable pub touches_of : Environment → Tree → ℕ → List (List Touch)
touches_of env tree steps =
    map (λ unit. touches_in (starts_of env tree) (walked env tree steps unit)) (loops_units 0 0 (loops_of env tree))
