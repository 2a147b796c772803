-- Going through a list of events, each of which may be refused.
use Rattle.std.specs.Prelude.{◌≡◌, List, [], ◌∷◌, ◌++◌, Result, Ok, Err}

-- each event is accepted in turn, which leads from the one state to the other
module _ {S E : Type 0} (accepts : S → E → S → Type 0) where
  abbrev pub Through : S → List E → S → Type 0
  Through before [] after = before ≡ after
  Through before (event ∷ events) after = (next : S) × accepts before event next × Through next events after

  -- an event is refused, behind others that were accepted
  pub record StopsAt {R : Type 0} (refuses : S → E → R → Type 0) (before : S) (events : List E) (stop : R) : Type 0 where
    pub accepted : List E
    pub event : E
    pub rest : List E
    pub splits : events ≡ accepted ++ event ∷ rest
    pub state : S
    pub through : Through before accepted state
    pub refused : refuses state event stop

  -- all events were accepted, or the first one that was refused stopped the walk
  abbrev pub Walks : {R A : Type 0} → (S → E → R → Type 0) → S → List E → Result A R → S → Type 0
  Walks refuses before events (Ok done) after = Through before events after
  Walks refuses before events (Err stop) after = StopsAt refuses before events stop
