-- What a walk through the events of a unit says of its fault and of its touch list.
use Rattle.std.proofs.Common.{◌≡◌, ℕ, ◌*◌, ℤ, List, [], ◌∷◌, ◌++◌, Option, Some, None, inl, inr, refl, sym, ap, ◌∙◌, subst}
use Rattle.std.proofs.lemmas.Bool.{cases_Bool}
use Rattle.std.specs.Option.{option_map, option_or}
use Rattle.std.specs.Prelude.{◌&&◌, nat_lt}
use Rattle.spf_term.specs.Environment.{Environment}
use Rattle.spf_term.specs.Walk.{Through, StopsAt}
use Rattle.spf_touch.specs.declared.touch.Touch.{Touch}
use Rattle.spf_kernel.specs.declared.tree.Tree.{Tree}
use Rattle.spf_space.specs.declared.unit.Unit.{Unit}
use Rattle.spf_store.specs.Accesses.{accesses_of, noted_all}
use Rattle.spf_store.specs.Event.{Event, Turn, Bound, Read, Access, Store}
use Rattle.spf_store.specs.FirstFault.{Fault, Range, Visits, counted, counted_all, event_fault, events_fault, is_visit, outside_in, range_fault, visit_limit}
use Rattle.spf_store.specs.Shaped.{data_of}
use Rattle.spf_store.specs.Source.{iteration_of}
use Rattle.spf_access.specs.Answer.{IsFault}
use Rattle.spf_access.specs.Progress.{Accepts, Progress, Refuses, advanced, range_stop, starts_in, stop_at}
use Rattle.spf_access.specs.Units.{fault_of}
use Rattle.spf_access.specs.declared.stop.Stop.{Stop}
use Rattle.spf_access.specs.declared.stop.Stop.TheVariants as stop

noted_more : (starts : List ℕ) (touches : List Touch) (event : Event) (events : List Event) →
    noted_all (noted_all touches (accesses_of starts (event ∷ []))) (accesses_of starts events) ≡ noted_all touches (accesses_of starts (event ∷ events))
noted_more starts touches Turn events = refl
noted_more starts touches (Bound site value) events = refl
noted_more starts touches (Read entry) events = refl
noted_more starts touches (Access site class array place) events = refl
noted_more starts touches (Store assign variables) events = refl

or_assoc : {A : Type 0} (first second third : Option A) → option_or first (option_or second third) ≡ option_or (option_or first second) third
or_assoc None second third = refl
or_assoc (Some x) second third = refl

-- the progress behind these events
abbrev pub behind : Progress → List Event → Progress
behind before events = record before {
  current = noted_all before.current (accesses_of (starts_in before.arrays) events);
  visits = counted_all before.visits events;
}

module _ (env : Environment) (tree : Tree) (unit : Unit) where
  -- a stop as a fault of the unit; memory isn't one
  as_fault : Stop → Fault
  as_fault (stop.Range site value) = Range unit.loop_no (iteration_of env tree unit) site value
  as_fault (stop.Visits count) = Visits count
  as_fault stop.Memory = Visits 0

  range_is : (outside : Option (ℕ × ℤ)) (steps : ℕ) → range_fault env tree steps unit outside ≡ option_map as_fault (range_stop outside)
  unfolding as_fault
  range_is None steps = refl
  range_is (Some (site, value)) steps = refl

  fault_is : (progress : Progress) (event : Event) → progress.arrays ≡ data_of env tree →
      event_fault env tree progress.steps unit (counted progress.visits event) event ≡ option_map as_fault (stop_at env progress event)
  unfolding as_fault
  fault_is progress event same = elim (cases_Bool (is_visit event && nat_lt visit_limit (counted progress.visits event * progress.steps))) [
    | inl many ↦ rw many refl
    | inr few ↦ rw few (range_is (outside_in env (data_of env tree) event) progress.steps ∙ ap (λ arrays. option_map as_fault (range_stop (outside_in env arrays event))) (sym same))
  ]

  abbrev fault_in : Progress → List Event → Option Fault
  fault_in before events = events_fault env tree before.steps unit before.visits events

  pub went_through : (events : List Event) (before after : Progress) → before.arrays ≡ data_of env tree → Through (Accepts env) before events after →
      (fault_in before events ≡ None) × (after ≡ behind before events)
  went_through [] before after same through = (refl, sym through)
  went_through (event ∷ events) before after same through =
      let next = advanced before event in
      let on : Through (Accepts env) next events after = subst (λ (state : Progress). Through (Accepts env) state events after) through.1.goes_on through.2 in
      let more = went_through events next after same on in
      let here : event_fault env tree before.steps unit (counted before.visits event) event ≡ None = fault_is before event same ∙ ap (option_map as_fault) through.1.free in (
        ap (λ (first : Option Fault). option_or first (fault_in next events)) here ∙ more.0,
        more.1 ∙ ap (λ (touches : List Touch). record before { current = touches; visits = counted_all before.visits (event ∷ events) }) (noted_more (starts_in before.arrays) before.current event events),
      )

  fault_behind : (steps count : ℕ) (events others : List Event) →
      events_fault env tree steps unit count (events ++ others) ≡ option_or (events_fault env tree steps unit count events) (events_fault env tree steps unit (counted_all count events) others)
  fault_behind steps count [] others = refl
  fault_behind steps count (event ∷ events) others =
      ap (option_or (event_fault env tree steps unit (counted count event) event)) (fault_behind steps (counted count event) events others)
      ∙ or_assoc (event_fault env tree steps unit (counted count event) event) (events_fault env tree steps unit (counted count event) events)
      (events_fault env tree steps unit (counted_all (counted count event) events) others)

  stopped_there : (events : List Event) (before : Progress) (why : Stop) → before.arrays ≡ data_of env tree → (at : StopsAt (Accepts env) (Refuses env) before events why) →
      stop_at env at.state at.event ≡ Some why → fault_in before events ≡ Some (as_fault why)
  stopped_there events before why same at is =
      let done = went_through at.accepted before at.state same at.through in
      let fault : event_fault env tree before.steps unit (counted (counted_all before.visits at.accepted) at.event) at.event ≡ Some (as_fault why) =
      fault_is (behind before at.accepted) at.event same ∙ ap (λ (state : Progress). option_map as_fault (stop_at env state at.event)) (sym done.1) ∙ ap (option_map as_fault) is in
      ap (fault_in before) at.splits ∙ fault_behind before.steps before.visits at.accepted (at.event ∷ at.rest)
      ∙ ap (λ (first : Option Fault). option_or first (events_fault env tree before.steps unit (counted_all before.visits at.accepted) (at.event ∷ at.rest))) done.0
      ∙ ap (λ (first : Option Fault). option_or first (events_fault env tree before.steps unit (counted (counted_all before.visits at.accepted) at.event) at.rest)) fault

  pub stopped : (events : List Event) (before : Progress) (why : Stop) → before.arrays ≡ data_of env tree → StopsAt (Accepts env) (Refuses env) before events why →
      IsFault (fault_in before events) (fault_of unit.loop_no (iteration_of env tree unit) why)
  unfolding as_fault
  stopped events before (stop.Range site value) same at = stopped_there events before (stop.Range site value) same at at.refused
  stopped events before (stop.Visits count) same at = stopped_there events before (stop.Visits count) same at at.refused
  stopped events before stop.Memory same at = tt
