-- Passes that a thread may take with it.
use Rattle.std.specs.Prelude.{◌≡◌, false}
use Rattle.spf_turn.specs.Passes.{TurnState, PassState, IsPassOf}

-- the pass is one of this turn's, and doesn't hold it
abbrev pub IsFree : {K E : Type 0} → TurnState K → PassState K E → Type 0
IsFree turn pass = IsPassOf turn pass × (pass.holds ≡ false)

abbrev pub AreFree : {K E : Type 0} → TurnState K → PassState K E × PassState K E → Type 0
AreFree turn pair = IsFree turn pair.0 × IsFree turn pair.1
