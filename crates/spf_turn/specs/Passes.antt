-- What contracts see of a turn and of its passes.
use Rattle.std.specs.Prelude.{◌≡◌, ◌≢◌, ℕ, Bool, true, false, List, [], ◌∷◌, ◌++◌, Option, Some}
use Rattle.atomic_table.specs.Seated.{TableId}
use Rattle.spf_turn.specs.Tale.{IsMade}

-- a turn: which table it stands on, its key, and for how many passes it is made
pub record TurnState (K : Type 0) : Type 0 where
  pub table : TableId
  pub key : K
  pub passes : ℕ

-- a pass: its number, what it has seen of the tale, its own entries, and its tries for the turn, each by what it found: 0, or
-- the number of the holder
pub record PassState (K E : Type 0) : Type 0 where
  pub table : TableId
  pub number : ℕ
  pub key : Option K
  pub passes : ℕ
  pub seen : List E
  pub own : List E
  pub tries : List ℕ
  pub holds : Bool

module _ {K E : Type 0} where
  -- the pass is one of this turn's
  pub record IsPassOf (turn : TurnState K) (pass : PassState K E) : Type 0 where
    pub table : pass.table ≡ turn.table
    pub key : pass.key ≡ Some turn.key
    pub passes : pass.passes ≡ turn.passes

  -- the number of another pass of the turn
  abbrev pub IsOther : PassState K E → ℕ → Type 0
  IsOther pass number = IsMade pass.passes number × (number ≢ pass.number)

  -- a pass that has done nothing
  abbrev pub fresh_pass : TurnState K → ℕ → PassState K E
  fresh_pass turn number = record { table = turn.table; number = number; key = Some turn.key; passes = turn.passes; seen = []; own = []; tries = []; holds = false }

  -- after a try that found the turn free: the pass holds it, and has seen this tale
  abbrev pub after_take : PassState K E → List E → PassState K E
  after_take pass tale = record pass { seen = tale; tries = pass.tries ++ 0 ∷ []; holds = true }

  -- after tries that found other holders
  abbrev pub after_misses : PassState K E → List ℕ → PassState K E
  after_misses pass holders = record pass { tries = pass.tries ++ holders }

  -- after the turn was put back
  abbrev pub after_put : PassState K E → PassState K E
  after_put pass = record pass { holds = false }

  -- after the turn was put back with this tale, which has one more entry
  abbrev pub after_event : PassState K E → List E → E → PassState K E
  after_event pass tale entry = record pass { seen = tale; own = pass.own ++ entry ∷ []; holds = false }

  -- after a look that saw this tale
  abbrev pub after_look : PassState K E → List E → PassState K E
  after_look pass tale = record pass { seen = tale }
