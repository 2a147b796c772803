-- How far a walk through the units of a step has come, and what an event makes of it.
use Rattle.std.specs.Prelude.{◌≡◌, ℕ, ℤ, ◌+◌, ◌*◌, ◌<◌, ◌≤◌, ◌&&◌, nat_lt, true, false, if◌then◌else◌, List, [], ◌∷◌, length, map, Option, Some, None, Result, Ok, Err, ⊤}
use Rattle.std.specs.List.{sum_by}
use Rattle.spf_term.specs.Environment.{Environment}
use Rattle.spf_touch.specs.declared.touch.Touch.{Touch}
use Rattle.spf_space.specs.Layout.{cells_in}
use Rattle.spf_space.specs.declared.shape.ArrayShape.{ArrayShape}
use Rattle.spf_store.specs.Accesses.{accesses_of, noted_all}
use Rattle.spf_store.specs.Event.{Event}
use Rattle.spf_store.specs.FirstFault.{counted, is_visit, outside_in, visit_limit}
use Rattle.spf_access.specs.declared.stop.Stop.{Stop}
use Rattle.spf_access.specs.declared.stop.Stop.TheVariants.{Range, Visits, Memory}

-- the number of steps and the arrays; the touch lists of the units that are done, that of the unit at work, and the visits
pub record Progress : Type 0 where
  pub steps : ℕ
  pub arrays : List ArrayShape
  pub closed : List (List Touch)
  pub current : List Touch
  pub visits : ℕ

-- what the type keeps: no touch without a visit, and not more visits than there may be
pub record IsProgress (progress : Progress) (cells : ℕ) : Type 0 where
  pub some : 0 < progress.steps
  pub own : cells ≡ cells_in progress.arrays
  pub few : progress.visits * progress.steps ≤ visit_limit
  pub visited : sum_by length progress.closed + length progress.current ≤ progress.visits

abbrev pub starts_in : List ArrayShape → List ℕ
starts_in arrays = map (λ (array : ArrayShape). array.start) arrays

-- the progress behind an event
abbrev pub advanced : Progress → Event → Progress
advanced progress event = record progress {
  current = noted_all progress.current (accesses_of (starts_in progress.arrays) (event ∷ []));
  visits = counted progress.visits event;
}

abbrev pub range_stop : Option (ℕ × ℤ) → Option Stop
range_stop None = None
range_stop (Some (site, value)) = Some (Range site value)

-- a value was compared: it is allowed, or the walk stops there
abbrev pub IsCompared : {A : Type 0} → Option (ℕ × ℤ) → Result A Stop → Type 0
IsCompared outside (Ok done) = outside ≡ None
IsCompared outside (Err stop) = range_stop outside ≡ Some stop

-- one more visit was counted, or there are too many then
abbrev pub IsCounted : ℕ → ℕ → Result ℕ Stop → Type 0
IsCounted visits steps (Ok count) = (nat_lt visit_limit ((visits + 1) * steps) ≡ false) × (count ≡ visits + 1)
IsCounted visits steps (Err stop) = (nat_lt visit_limit ((visits + 1) * steps) ≡ true) × (stop ≡ Visits ((visits + 1) * steps))

abbrev pub IsVisited : {A : Type 0} → Progress → Progress → Result A Stop → Type 0
IsVisited before after (Ok done) = (nat_lt visit_limit ((before.visits + 1) * before.steps) ≡ false) × (after ≡ record before { visits = before.visits + 1 })
IsVisited before after (Err stop) = (nat_lt visit_limit ((before.visits + 1) * before.steps) ≡ true) × (stop ≡ Visits ((before.visits + 1) * before.steps))

module _ (env : Environment) where
  -- why the walk stops at an event: a visit is counted before its value is compared
  abbrev pub stop_at : Progress → Event → Option Stop
  stop_at progress event =
      if is_visit event && nat_lt visit_limit (counted progress.visits event * progress.steps)
      then Some (Visits (counted progress.visits event * progress.steps))
      else range_stop (outside_in env progress.arrays event)

  pub record Accepts (before : Progress) (event : Event) (after : Progress) : Type 0 where
    pub free : stop_at before event ≡ None
    pub goes_on : after ≡ advanced before event

  abbrev pub Refuses : Progress → Event → Stop → Type 0
  Refuses before event Memory = ⊤
  Refuses before event stop = stop_at before event ≡ Some stop
