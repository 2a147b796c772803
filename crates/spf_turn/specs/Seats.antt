-- How a pass sits at the table.
use Rattle.std.specs.Prelude.{◌≡◌, ℕ, ◌≤◌, true, false, [], ◌∷◌, Option, None}
use Rattle.atomic_table.specs.Seated.{TableId}
use Rattle.atomic_table.specs.Table.{Me}
use Rattle.spf_turn.specs.Passes.{PassState, TurnState}
use Rattle.spf_turn.specs.declared.view.View.{View}
use Rattle.spf_turn.specs.declared.board.About.{About}

abbrev pub pass_state : {K E : Type 0} → TableId → View K E → PassState K E
pass_state id v = record { table = id; number = v.number; key = v.key; passes = v.passes; seen = v.seen; own = v.own; tries = v.tries; holds = v.holds }

-- the pass isn't joined away and has taken none in, and has the slot, empty, exactly while it holds the turn
pub record IsSeated {T K E : Type 0} (n : ℕ) (me : Me (Option T) (View K E)) : Type 0 where
  pub number : n ≡ me.0.number
  pub live : 1 ≤ me.0.number
  pub alone : me.0.joined ≡ []
  pub free : me.0.holds ≡ false → me.1 ≡ []
  pub holding : me.0.holds ≡ true → me.1 ≡ (0, None) ∷ []

abbrev pub turn_state : {T K : Type 0} → (T → K) → TableId → About T → TurnState K
turn_state key_of id about = record { table = id; key = key_of about.first.value; passes = about.passes }

-- the table has two words and one slot, and the turn is made for 1 to 64 passes
pub record IsBoard {T : Type 0} (id : TableId) (about : About T) : Type 0 where
  pub words : id.words ≡ 2
  pub slots : id.slots ≡ 1
  pub some : 1 ≤ about.passes
  pub few : about.passes ≤ 64
