-- What passes say of the whole tale, as they are gathered.
use Rattle.std.specs.Prelude.{◌≡◌, ℕ, List, All}
use mathlib.Core.List.{IsPrefix}
use Rattle.spf_turn.specs.Passes.{PassState}
use Rattle.spf_turn.specs.Tale.{entries_of}
use Rattle.spf_turn.specs.declared.view.Joined.{Joined}
use Rattle.spf_turn.specs.declared.view.View.{View}

-- the tale begins with what the pass has seen, and the pass's own entries are exactly those of its number
pub record Agrees {K E : Type 0} (who : E → ℕ) (tale : List E) (pass : PassState K E) : Type 0 where
  pub seen : IsPrefix pass.seen tale
  pub own : entries_of who pass.number tale ≡ pass.own

-- the same of a view, and of the passes that were joined to it
pub record AllAgree {K E : Type 0} (who : E → ℕ) (tale : List E) (view : View K E) : Type 0 where
  pub seen : IsPrefix view.seen tale
  pub own : entries_of who view.number tale ≡ view.own
  pub joined : All (λ (other : Joined E). entries_of who other.number tale ≡ other.own) view.joined
  pub had_seen : All (λ past. IsPrefix past tale) view.had_seen

-- a tale that agrees with the view and those joined to it agrees with the pass
abbrev pub Represents : {K E : Type 0} → (E → ℕ) → View K E → PassState K E → Type 0
Represents {K} {E} who view pass = (tale : List E) → AllAgree who tale view → Agrees who tale pass
