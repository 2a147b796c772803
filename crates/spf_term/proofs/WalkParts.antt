-- Walks through one list of events behind another.
use Rattle.std.proofs.Common.{◌≡◌, List, [], ◌∷◌, ◌++◌, refl, ap, sym, ◌∙◌, subst, append_assoc, ◌+◌, length, length-append, arith, Result, Err}
use Rattle.std.specs.List.{All}
use Rattle.std.proofs.lemmas.List.{get_or_append_left, get_or-append-add}
use Rattle.spf_term.specs.Walk.{Through, StopsAt, Walks}

module _ {E : Type 0} (P : E → Type 0) (first second : List E) (all : All P (first ++ second)) where
  pub all_first : All P first
  all_first k d inside = subst P (get_or_append_left first second d k inside) (all k d (omega (arith, length-append first second, inside)))

  pub all_second : All P second
  all_second k d inside = subst P (get_or-append-add first second k d) (all (length first + k) d (omega (arith, length-append first second, inside)))

module _ {S E : Type 0} (accepts : S → E → S → Type 0) where
  pub through_both : (a b : List E) (before between after : S) → Through accepts before a between → Through accepts between b after → Through accepts before (a ++ b) after
  through_both [] b before between after same second = subst (λ (state : S). Through accepts state b after) (sym same) second
  through_both (event ∷ a) b before between after first second = (first.0, first.1, through_both a b first.0 between after first.2 second)

  pub through_parts : (a b : List E) (before after : S) → Through accepts before (a ++ b) after → (between : S) × Through accepts before a between × Through accepts between b after
  through_parts [] b before after all = (before, refl, all)
  through_parts (event ∷ a) b before after all =
      let parts = through_parts a b all.0 after all.2 in
      (parts.0, (all.0, all.1, parts.1), parts.2)

  module _ {R : Type 0} (refuses : S → E → R → Type 0) where
    pub stop_in_front : (a b : List E) (before : S) (stop : R) → StopsAt accepts refuses before a stop → StopsAt accepts refuses before (a ++ b) stop
    stop_in_front a b before stop at =
        let splits = ap (λ (events : List E). events ++ b) at.splits ∙ append_assoc at.accepted (at.event ∷ at.rest) b in
        record { accepted = at.accepted; event = at.event; rest = at.rest ++ b; splits = splits; state = at.state; through = at.through; refused = at.refused }

    pub stop_behind : (a b : List E) (before between : S) (stop : R) → Through accepts before a between → StopsAt accepts refuses between b stop → StopsAt accepts refuses before (a ++ b) stop
    stop_behind a b before between stop first at =
        let splits = ap (λ (events : List E). a ++ events) at.splits ∙ sym (append_assoc a at.accepted (at.event ∷ at.rest)) in
        let through = through_both a at.accepted before between at.state first at.through in
        record { accepted = a ++ at.accepted; event = at.event; rest = at.rest; splits = splits; state = at.state; through = through; refused = at.refused }

-- a result that is this error is a walk that stopped there
pub stopped_walk : {S E R A : Type 0} {accepts : S → E → S → Type 0} {refuses : S → E → R → Type 0} {events : List E} {before : S} {stop : R} {result : Result A R}
    → (after : S) → (other : R) × (result ≡ Err other) × (other ≡ stop) → StopsAt accepts refuses before events stop → Walks accepts refuses before events result after
stopped_walk {R = R} {A = A} {accepts = accepts} {refuses = refuses} {events = events} {before = before} after known at =
    subst (λ (of : Result A R). Walks accepts refuses before events of after) (sym (known.1 ∙ ap Err known.2)) at
