-- What a check keeps of the notes so far.
use Rattle.std.specs.Prelude.{ℕ, ◌≡◌, ◌<◌, ◌^◌, List, ◌++◌, length, Option}
use Rattle.spf_kernel.specs.Types.{Note}
use Rattle.spf_kernel.specs.declared.check.before.Before.{Before}
use Rattle.spf_kernel.specs.declared.check.rules.Breach.{Breach}
use Rattle.spf_kernel.specs.Facts.{facts_of}
use Rattle.spf_kernel.specs.check.Before.{before_of}
use Rattle.spf_kernel.specs.check.Checked.{IsFirst}

pub record State : Type 0 where
  pub texts : List (List ℕ)
  pub before : Before
  pub best : Option Breach
  pub taken : ℕ

-- the state is that behind these notes
pub record IsBehind (notes : List Note) (state : State) : Type 0 where
  pub before : state.before ≡ before_of (facts_of state.texts notes)
  pub best : IsFirst state.texts notes state.best
  pub taken : state.taken ≡ length notes
  pub few : length notes < 2 ^ 30

-- the one state goes on to the other by these notes, whichever stood before them
unfoldable pub Takes : State → List Note → State → Type 0
Takes old notes new = (new.texts ≡ old.texts) × ((seen : List Note) → IsBehind seen old → IsBehind (seen ++ notes) new)
