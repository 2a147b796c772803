-- What holds of the turn's table between any two steps. Word 0 is the turn: 0 where it is free, or the number of the pass that
-- holds it. Word 1 is the number of entries. The one slot has the value, at home where the turn is free.
use Rattle.std.specs.Prelude.{◌≡◌, ◌≢◌, ℕ, suc, ◌-◌, ◌+◌, ◌≤◌, ◌==◌, Bool, true, if◌then◌else◌, List, [], ◌∷◌, length, Option, Some, All}
use Rattle.std.specs.List.{sum_by, list_any}
use mathlib.Core.Option.{Option as Maybe, none, some}
use mathlib.Core.List.{IsPrefix}
use lib.ListN.{get_elem?}
use Rattle.atomic_table.specs.Table.{State}
use Rattle.spf_turn.specs.Tale.{entries_of, IsMade}
use Rattle.spf_turn.specs.declared.view.Joined.{Joined}
use Rattle.spf_turn.specs.declared.view.View.{View}
use Rattle.spf_turn.specs.declared.board.About.{About}

module _ {K E : Type 0} where
  -- of each view that isn't spent: a pass that was joined away leaves a view of number 0
  abbrev pub EachLive : List (View K E) → (ℕ → View K E → Type 0) → Type 0
  EachLive views P = (place : ℕ) (view : View K E) → get_elem? views place ≡ some view → 1 ≤ view.number → P place view

  -- there is such a view that isn't spent
  abbrev pub SomeLive : List (View K E) → (View K E → Type 0) → Type 0
  SomeLive views P = (place : ℕ) × (view : View K E) × (get_elem? views place ≡ some view) × (1 ≤ view.number) × P view

  -- the pass of this number was joined away
  abbrev pub IsSpent : List (View K E) → ℕ → Type 0
  IsSpent views number = (1 ≤ number) × (view : View K E) × (get_elem? views (number - 1) ≡ some view) × (view.number ≡ 0)

  -- how many passes a view represents: its own, and those that were joined to it
  abbrev pub represented : View K E → ℕ
  represented view = if view.number == 0 then 0 else 1 + length view.joined

  abbrev pub has_joined : ℕ → View K E → Bool
  has_joined number view = list_any (λ (other : Joined E). other.number == number) view.joined

-- a joined pass is spent, the turn doesn't name it, and its own entries are those of its number
pub record IsGone {K E : Type 0} (who : E → ℕ) (turn : ℕ) (tale : List E) (views : List (View K E)) (other : Joined E) : Type 0 where
  pub spent : IsSpent views other.number
  pub idle : turn ≢ other.number
  pub own : entries_of who other.number tale ≡ other.own

module _ {T K E : Type 0} (key_of : T → K) (tale_of : T → List E) (who : E → ℕ) (about : About T) where
  pub record IsKept (s : State (Option T) (View K E)) : Type 0 where
    pub turn : ℕ
    pub home : Maybe (Option T)
    pub tale : List E
    -- the count is the number of the tale's entries
    pub words : s.words ≡ turn ∷ length tale ∷ []
    pub homes : s.homes ≡ home ∷ []
    -- the turn is free, or names the one pass that holds it, which has seen the whole tale
    pub named : 1 ≤ turn → SomeLive s.views (λ view. (view.number ≡ turn) × (view.holds ≡ true))
    pub holder : EachLive s.views (λ _ view. view.holds ≡ true → (turn ≡ view.number) × (view.seen ≡ tale))
    -- the value is at home exactly where the turn is free, and has the turn's key and the tale
    pub away : 1 ≤ turn → home ≡ none
    pub value : turn ≡ 0 → (x : T) × (home ≡ some (Some x)) × (key_of x ≡ key_of about.first.value) × (tale_of x ≡ tale)
    -- each pass knows the key and the number of passes
    pub keys : EachLive s.views (λ _ view. (view.key ≡ Some (key_of about.first.value)) × (view.passes ≡ about.passes))
    -- the first pass knows how many passes were made
    pub made : EachLive s.views (λ place view. place ≡ 0 → view.made ≡ length s.views)
    pub most : length s.views ≤ about.passes
    -- the passes have the numbers from 1 on, and no entry has a greater one
    pub numbers : EachLive s.views (λ place view. view.number ≡ suc place)
    pub entries : All (λ entry. IsMade (length s.views) (who entry)) tale
    -- the tale is the longest of what passes have seen, and begins with what each has seen
    pub longest : SomeLive s.views (λ view. view.seen ≡ tale)
    pub seen : EachLive s.views (λ _ view. IsPrefix view.seen tale)
    pub had_seen : EachLive s.views (λ _ view. All (λ past. IsPrefix past tale) view.had_seen)
    -- each pass's own entries are those of its number
    pub own : EachLive s.views (λ _ view. entries_of who view.number tale ≡ view.own)
    -- what a try found was 0, or another pass
    pub tries : EachLive s.views (λ _ view. All (λ found. (found ≤ length s.views) × (found ≢ view.number)) view.tries)
    -- each pass that was joined away is in the list of one that wasn't, and together they are as many as were made
    pub joined : EachLive s.views (λ _ view. All (IsGone who turn tale s.views) view.joined)
    pub gone : (number : ℕ) → IsSpent s.views number → SomeLive s.views (λ view. has_joined number view ≡ true)
    pub together : sum_by represented s.views ≡ length s.views
