-- The walk through a term makes no difference to the progress.
use Rattle.std.proofs.Common.{◌≡◌, List, [], ◌∷◌, Some, None, Result, Ok, Err, refl, sym, ap, ◌∙◌, subst, map}
use Rattle.std.proofs.lemmas.List.{map-append}
use Rattle.spf_term.specs.Environment.{Environment}
use Rattle.spf_term.specs.Value.{Entry}
use Rattle.spf_term.specs.Walk.{Through, Walks}
use Rattle.spf_store.specs.Event.{Read}
use Rattle.spf_store.specs.FirstFault.{outside_in}
use Rattle.spf_access.specs.Progress.{Accepts, Progress, Refuses, range_stop}
use Rattle.spf_access.specs.declared.stop.Stop.{Stop}
use Rattle.spf_access.proofs.Events.{refused}

module _ {S : Type 0} (env_of : S → Environment) where
  abbrev goes_on : S → Entry → S → Type 0
  goes_on before entry after = (outside_in (env_of before) [] (Read entry) ≡ None) × (after ≡ before)

  abbrev stops : S → Entry → Stop → Type 0
  stops before entry stop = range_stop (outside_in (env_of before) [] (Read entry)) ≡ Some stop

  same_state : (entries : List Entry) (before after : S) → Through goes_on before entries after → after ≡ before
  same_state [] before after through = sym through
  same_state (entry ∷ entries) before after through = same_state entries through.0 after through.2 ∙ through.1.1

  read_through : (entries : List Entry) (before after : S) (progress : Progress) → Through goes_on before entries after →
      Through (Accepts (env_of before)) progress (map Read entries) progress
  read_through [] before after progress through = refl
  read_through (entry ∷ entries) before after progress through = (
    progress,
    record { free = ap range_stop through.1.0; goes_on = refl },
    subst (λ (state : S). Through (Accepts (env_of state)) progress (map Read entries) progress) through.1.1 (read_through entries through.0 after progress through.2),
  )

  pub reads : {A : Type 0} (entries : List Entry) (before after : S) (progress : Progress) (result : Result A Stop) → Walks goes_on stops before entries result after →
      Walks (Accepts (env_of before)) (Refuses (env_of before)) progress (map Read entries) result progress
  reads entries before after progress (Ok done) through = read_through entries before after progress through
  reads entries before after progress (Err stop) at = record {
    accepted = map Read at.accepted;
    event = Read at.event;
    rest = map Read at.rest;
    splits = ap (map Read) at.splits ∙ map-append Read at.accepted (at.event ∷ at.rest);
    state = progress;
    through = read_through at.accepted before at.state progress at.through;
    refused = refused (env_of before) progress (Read at.event) stop
        (subst (λ (state : S). range_stop (outside_in (env_of state) [] (Read at.event)) ≡ Some stop) (same_state at.accepted before at.state at.through) at.refused);
  }
