-- How far a walk has come in a list of events.
use Rattle.std.proofs.Common.{◌≡◌, List, [], ◌∷◌, ◌++◌, All, refl, sym, ◌∙◌, subst, append_assoc, append-nil, Result, Ok, Err}
use Rattle.spf_term.specs.Walk.{Through, StopsAt, Walks}
use Rattle.spf_term.proofs.WalkParts.{all_first, all_second, through_both, stop_behind, stop_in_front}

module _ {S E : Type 0} (accepts : S → E → S → Type 0) (may : S → E → Type 0) where
  -- from a state the walk has come through the events up to these, at each of which it may go on
  pub record OnTheWay (before : S) (events rest : List E) (now : S) : Type 0 where
    pub done : List E
    pub splits : events ≡ done ++ rest
    pub through : Through accepts before done now
    pub ahead : All (may now) rest

  pub set_out : {before : S} {events : List E} → All (may before) events → OnTheWay before events events before
  set_out may = record { done = []; splits = refl; through = refl; ahead = may }

  -- what may come after an event might come before it
  abbrev pub Stays : Type 0
  Stays = (before after : S) (event other : E) → accepts before event after → may before other → may after other

  module _ (stays : Stays) where
    may_through : (events : List E) (before after : S) (other : E) → Through accepts before events after → may before other → may after other
    may_through [] before after other same allowed = subst (λ (state : S). may state other) same allowed
    may_through (event ∷ events) before after other through allowed = may_through events through.0 after other through.2 (stays before through.0 event other through.1 allowed)

    all_may : (events others : List E) (before after : S) → Through accepts before events after → All (may before) others → All (may after) others
    all_may events others before after through all = λ k d inside. may_through events before after _ through (all k d inside)

    pub went_on : {before now after : S} {events : List E} (part rest : List E) → OnTheWay before events (part ++ rest) now → Through accepts now part after → OnTheWay before events rest after
    went_on {before = before} {now = now} {after = after} part rest way through = record {
      done = way.done ++ part;
      splits = way.splits ∙ sym (append_assoc way.done part rest);
      through = through_both accepts way.done part before now after way.through through;
      ahead = all_may part rest now after through (all_second (may now) part rest way.ahead);
    }

  pub part_may : {before now : S} {events : List E} (part rest : List E) → OnTheWay before events (part ++ rest) now → All (may now) part
  part_may {now = now} part rest way = all_first (may now) part rest way.ahead

  pub arrived : {before after : S} {events : List E} → OnTheWay before events [] after → Through accepts before events after
  arrived {before = before} {after = after} way =
      subst (λ (events : List E). Through accepts before events after) (sym (way.splits ∙ append-nil way.done)) way.through

  pub stopped : {R : Type 0} {refuses : S → E → R → Type 0} {before now : S} {events : List E} {stop : R} (part rest : List E) →
      OnTheWay before events (part ++ rest) now → StopsAt accepts refuses now part stop → StopsAt accepts refuses before events stop
  stopped {refuses = refuses} {before = before} {now = now} {stop = stop} part rest way at =
      subst (λ (events : List E). StopsAt accepts refuses before events stop) (sym way.splits)
      (stop_behind accepts refuses way.done (part ++ rest) before now stop way.through (stop_in_front accepts refuses part rest now stop at))

  -- what is ahead behind the first of two parts
  pub may_second : Stays → {before between : S} (first second : List E) → All (may before) (first ++ second) → Through accepts before first between → All (may between) second
  may_second stays first second all through = (went_on stays first second (set_out all) through).ahead

  -- the end of a walk is that of what was left of it
  pub walked_on : {R A : Type 0} (refuses : S → E → R → Type 0) {before now : S} (after : S) {events rest : List E} (result : Result A R) →
      OnTheWay before events rest now → Walks accepts refuses now rest result after → Walks accepts refuses before events result after
  walked_on refuses {before = before} {now = now} after {rest = rest} (Ok done) way through =
      subst (λ (events : List E). Through accepts before events after) (sym way.splits) (through_both accepts way.done rest before now after way.through through)
  walked_on refuses {before = before} {now = now} after {rest = rest} (Err stop) way at =
      subst (λ (events : List E). StopsAt accepts refuses before events stop) (sym way.splits) (stop_behind accepts refuses way.done rest before now stop way.through at)
