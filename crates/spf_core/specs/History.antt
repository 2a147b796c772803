-- Histories: which claims and publications may follow which.
use Rattle.std.specs.Prelude.{◌≡◌, ℕ, ◌<◌, ◌≤◌, Bool, true, false, ◌&&◌, ◌||◌, not, ◌==◌, List, [], ◌∷◌, ◌++◌, length, slice_index_or}
use Rattle.spf_touch.specs.Ordered.{is_in}
use Rattle.spf_core.specs.declared.event.Event.{Event}
use Rattle.spf_core.specs.declared.event.Event.TheVariants.{Claim, Publish}

-- the tiles that were claimed, in turn
abbrev pub claimed_tiles : List Event → List ℕ
claimed_tiles [] = []
claimed_tiles (Claim w t ∷ events) = t ∷ claimed_tiles events
claimed_tiles (Publish w t ∷ events) = claimed_tiles events

-- the tiles that were published, in turn
abbrev pub published_tiles : List Event → List ℕ
published_tiles [] = []
published_tiles (Claim w t ∷ events) = published_tiles events
published_tiles (Publish w t ∷ events) = t ∷ published_tiles events

-- whether the worker has claimed the tile
abbrev pub has_claimed : List Event → ℕ → ℕ → Bool
has_claimed [] w t = false
has_claimed (Claim v s ∷ events) w t = ((w == v) && (t == s)) || has_claimed events w t
has_claimed (Publish v s ∷ events) w t = has_claimed events w t

-- a worker holds a tile from its claim to its publication
abbrev pub holds : List Event → ℕ → ℕ → Bool
holds events w t = has_claimed events w t && not (is_in (published_tiles events) t)

-- tile a is before tile b: the order has for each tile those before it
abbrev pub is_before : List (List ℕ) → ℕ → ℕ → Bool
is_before order a b = is_in (slice_index_or order b []) a

-- worker w may claim tile t after these events
pub record MayClaim (order : List (List ℕ)) (workers : ℕ) (events : List Event) (w t : ℕ) : Type 0 where
  pub worker : (1 ≤ w) × (w ≤ workers)
  pub tile : t < length order
  pub unclaimed : is_in (claimed_tiles events) t ≡ false
  pub ready : (s : ℕ) → is_before order s t ≡ true → is_in (published_tiles events) s ≡ true
  pub idle : (s : ℕ) → holds events w s ≡ false

-- a worker claims as above, and publishes what it holds
abbrev pub IsAllowed : List (List ℕ) → ℕ → List Event → Event → Type 0
IsAllowed order workers events (Claim w t) = MayClaim order workers events w t
IsAllowed order workers events (Publish w t) = holds events w t ≡ true

-- each event is allowed after those in front of it
abbrev pub IsHistoryAfter : List (List ℕ) → ℕ → List Event → List Event → Type 0
IsHistoryAfter order workers past [] = Unit {0}
IsHistoryAfter order workers past (event ∷ events) = IsAllowed order workers past event × IsHistoryAfter order workers (past ++ event ∷ []) events

abbrev pub IsHistory : List (List ℕ) → ℕ → List Event → Type 0
IsHistory order workers events = IsHistoryAfter order workers [] events

-- every tile is published
abbrev pub IsFull : List (List ℕ) → List Event → Type 0
IsFull order events = (t : ℕ) → t < length order → is_in (published_tiles events) t ≡ true
