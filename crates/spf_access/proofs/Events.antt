-- Single events, accepted and refused.
use Rattle.std.proofs.Common.{◌≡◌, ℕ, ◌+◌, ◌*◌, ℤ, pos, Bool, true, false, List, [], ◌∷◌, Some, None, Result, Ok, Err, refl, sym, ap, ◌∙◌}
use Rattle.std.specs.Prelude.{nat_lt, slice_index_or}
use Rattle.spf_term.specs.Environment.{Environment}
use Rattle.spf_term.specs.Value.{Entry}
use Rattle.spf_term.specs.Walk.{Through, StopsAt, Walks}
use Rattle.spf_touch.specs.Ops.{noted}
use Rattle.spf_touch.specs.declared.class.Class.{Class}
use Rattle.spf_store.specs.Effect.{element_at}
use Rattle.spf_store.specs.Event.{Event, Turn, Bound, Read, Access, Store}
use Rattle.spf_store.specs.FirstFault.{data_length, outside_in, unless_between, visit_limit}
use Rattle.spf_access.specs.Progress.{Accepts, IsCompared, IsVisited, Progress, Refuses, range_stop, starts_in, stop_at}
use Rattle.spf_access.specs.declared.stop.Stop.{Stop}
use Rattle.spf_access.specs.declared.stop.Stop.TheVariants.{Range, Visits, Memory}

module _ (env : Environment) where
  pub refused : (before : Progress) (event : Event) (stop : Stop) → stop_at env before event ≡ Some stop → Refuses env before event stop
  refused before event (Range site value) h = h
  refused before event (Visits count) h = h
  refused before event Memory h = tt

  pub one_refused : (before : Progress) (event : Event) (stop : Stop) → Refuses env before event stop → StopsAt (Accepts env) (Refuses env) before (event ∷ []) stop
  one_refused before event stop h = record { accepted = []; event = event; rest = []; splits = refl; state = before; through = refl; refused = h }

  pub one_accepted : (before : Progress) (event : Event) (after : Progress) → Accepts env before event after → Through (Accepts env) before (event ∷ []) after
  one_accepted before event after h = (after, h, refl)

  -- a bound that was compared
  pub bound_walks : {A : Type 0} (progress : Progress) (site : ℕ) (value : ℤ) (result : Result A Stop) →
      IsCompared (outside_in env progress.arrays (Bound site value)) result → Walks (Accepts env) (Refuses env) progress (Bound site value ∷ []) result progress
  bound_walks progress site value (Ok done) h = one_accepted progress (Bound site value) progress (record { free = ap range_stop h; goes_on = refl })
  bound_walks progress site value (Err stop) h = one_refused progress (Bound site value) stop (refused progress (Bound site value) stop h)

  -- an entry that was compared
  pub read_accepted : (progress : Progress) (entry : Entry) → outside_in env progress.arrays (Read entry) ≡ None → Through (Accepts env) progress (Read entry ∷ []) progress
  read_accepted progress entry h = one_accepted progress (Read entry) progress (record { free = ap range_stop h; goes_on = refl })

  pub read_refused : (progress : Progress) (entry : Entry) (stop : Stop) → range_stop (outside_in env progress.arrays (Read entry)) ≡ Some stop → StopsAt (Accepts env) (Refuses env) progress (Read entry ∷ []) stop
  read_refused progress entry stop h = one_refused progress (Read entry) stop (refused progress (Read entry) stop h)

  -- a turn whose visit was counted
  pub turn_walks : {A : Type 0} (before after : Progress) (result : Result A Stop) → IsVisited before after result → Walks (Accepts env) (Refuses env) before (Turn ∷ []) result after
  turn_walks before after (Ok done) h = one_accepted before Turn after (record { free = rw h.0 refl; goes_on = h.1 })
  turn_walks before after (Err stop) h = one_refused before Turn stop (refused before Turn stop (rw h.0 (ap Some (sym h.1))))

  -- an access: it is counted, its subscript is compared, and it is noted
  module _ (before : Progress) (site : ℕ) (class : Class) (array : ℕ) (place : ℤ) where
    abbrev here : Event
    here = Access site class array place

    abbrev too_many : Bool
    too_many = nat_lt visit_limit ((before.visits + 1) * before.steps)

    pub visit_refused : (stop : Stop) → too_many ≡ true → stop ≡ Visits ((before.visits + 1) * before.steps) → StopsAt (Accepts env) (Refuses env) before (here ∷ []) stop
    visit_refused stop many is = one_refused before here stop (refused before here stop (rw many (ap Some (sym is))))

    pub place_refused : (stop : Stop) → too_many ≡ false → range_stop (unless_between (pos 0) (pos (data_length env before.arrays array)) site place) ≡ Some stop →
        StopsAt (Accepts env) (Refuses env) before (here ∷ []) stop
    place_refused stop few h = one_refused before here stop (refused before here stop (rw few h))

    pub access_walks : (after : Progress) (element : ℕ) → too_many ≡ false → unless_between (pos 0) (pos (data_length env before.arrays array)) site place ≡ None →
        element ≡ element_at (slice_index_or (starts_in before.arrays) array 0) place →
        after ≡ record before { current = noted before.current element class; visits = before.visits + 1 } → Through (Accepts env) before (here ∷ []) after
    access_walks after element few h is goes = one_accepted before here after (record {
      free = rw few (ap range_stop h);
      goes_on = goes ∙ ap (λ (e : ℕ). record before { current = noted before.current e class; visits = before.visits + 1 }) is;
    })

    pub memory_refused : StopsAt (Accepts env) (Refuses env) before (here ∷ []) Memory
    memory_refused = one_refused before here Memory tt

  pub store_accepted : (progress : Progress) (assign : _) (variables : List ℤ) → Through (Accepts env) progress (Store assign variables ∷ []) progress
  store_accepted progress assign variables = one_accepted progress (Store assign variables) progress (record { free = refl; goes_on = refl })
