-- What each atomic step tells the pass that makes it.
use Rattle.std.specs.Prelude.{◌≡◌, ◌≢◌, ℕ, ◌+◌, nat_lt, true, false, if◌then◌else◌, List, [], ◌∷◌, ◌++◌, length, Option, Some, None}
use mathlib.Core.List.{IsPrefix}
use Rattle.atomic_table.specs.Table.{Me, Step, rest}
use Rattle.spf_turn.specs.Tale.{entries_of, IsMade}
use Rattle.spf_turn.specs.declared.view.Joined.{Joined}
use Rattle.spf_turn.specs.declared.view.View.{View}

abbrev pub longer : {E : Type 0} → List E → List E → List E
longer xs ys = if nat_lt (length xs) (length ys) then ys else xs

module _ {K E : Type 0} where
  -- the view of pass 1 as a turn is made
  abbrev pub first_view : K → ℕ → View K E
  first_view key passes = record { number = 1; key = Some key; passes = passes; made = 1; seen = []; own = []; tries = []; holds = false; joined = []; had_seen = [] }

  -- a split: the first pass counts one more, which has the next number and has done nothing
  abbrev pub split_left : View K E → View K E
  split_left v = record v { made = v.made + 1 }

  abbrev pub split_right : View K E → View K E
  split_right v = record { number = v.made + 1; key = v.key; passes = v.passes; made = 0; seen = []; own = []; tries = []; holds = false; joined = []; had_seen = [] }

  -- a join: the longer seen list, and the other pass with those that it had taken in
  abbrev pub as_joined : View K E → Joined E
  as_joined w = record { number = w.number; own = w.own }

  abbrev pub join_both : View K E → View K E → View K E
  join_both v w = record v { seen = longer v.seen w.seen; joined = v.joined ++ as_joined w ∷ w.joined; had_seen = v.seen ∷ w.seen ∷ (v.had_seen ++ w.had_seen) }

  abbrev pub spent : View K E
  spent = record { number = 0; key = None; passes = 0; made = 0; seen = []; own = []; tries = []; holds = false; joined = []; had_seen = [] }

-- the slot went back
abbrev pub Gave : {T K E : Type 0} → Step (Option T) → Me (Option T) (View K E) → ℕ → Me (Option T) (View K E) → Type 0
Gave step me found me' = (me'.0 ≡ record me.0 { holds = false }) × (me'.1 ≡ rest me.1)

-- the last entry of the value that the pass holds was added
abbrev pub Added : {T K E : Type 0} → (T → List E) → Step (Option T) → Me (Option T) (View K E) → ℕ → Me (Option T) (View K E) → Type 0
Added {T} {K} {E} tale_of step me found me' = (value : T) (entry : E) → me.1 ≡ (0, Some value) ∷ [] → tale_of value ≡ me.0.seen ++ entry ∷ []
    → (me'.0 ≡ record me.0 { seen = tale_of value; own = me.0.own ++ entry ∷ [] }) × (me'.1 ≡ me.1)

module _ {T K E : Type 0} (key_of : T → K) (tale_of : T → List E) (who : E → ℕ) where
  abbrev Holding : Type 0
  Holding = Me (Option T) (View K E)

  -- the try found the turn free: the pass holds it with the value, whose tale it has seen
  pub record Took (me me' : Holding) : Type 0 where
    pub value : T
    pub slot : me'.1 ≡ (0, Some value) ∷ me.1
    pub view : me'.0 ≡ record me.0 { seen = tale_of value; tries = me.0.tries ++ 0 ∷ []; holds = true }
    pub key : Some (key_of value) ≡ me.0.key
    pub seen : IsPrefix me.0.seen (tale_of value)
    pub own : entries_of who me.0.number (tale_of value) ≡ me.0.own

  -- the try found another pass
  pub record Missed (found : ℕ) (me me' : Holding) : Type 0 where
    pub slot : me'.1 ≡ me.1
    pub view : me'.0 ≡ record me.0 { tries = me.0.tries ++ found ∷ [] }
    pub made : IsMade me.0.passes found
    pub other : found ≢ me.0.number
    pub number : IsMade me.0.passes me.0.number

  abbrev pub Tried : Step (Option T) → Holding → ℕ → Holding → Type 0
  Tried step me found me' = (found ≡ 0 → Took me me') × (found ≢ 0 → Missed found me me')

  -- the tale of that many entries was seen
  pub record Saw (found : ℕ) (me me' : Holding) : Type 0 where
    pub tale : List E
    pub slot : me'.1 ≡ me.1
    pub view : me'.0 ≡ record me.0 { seen = tale }
    pub count : found ≡ length tale
    pub seen : IsPrefix me.0.seen tale
    pub own : entries_of who me.0.number tale ≡ me.0.own

  abbrev pub Looked : Step (Option T) → Holding → ℕ → Holding → Type 0
  Looked step me found me' = Saw found me me'
