-- How far a walk has come in a `for`.
use Rattle.std.proofs.Common.{◌≡◌, ℕ, ◌+◌, ℤ, List, ◌++◌, All}
use Rattle.spf_term.specs.Environment.{Environment}
use Rattle.spf_term.specs.Value.{applications, value}
use Rattle.spf_term.specs.Walk.{Through}
use Rattle.spf_term.specs.declared.term.Term.{Term}
use Rattle.spf_kernel.specs.declared.tree.Part.{Part}
use Rattle.spf_store.specs.Event.{Event}
use Rattle.spf_store.specs.Trace.{bound_trace, inner_trace, integers, turns_trace}
use Rattle.spf_store.proofs.OnTheWay.{OnTheWay, Stays, set_out, went_on}

module _ {S : Type 0} (accepts : S → Event → S → Type 0) (may : S → Event → Type 0) (env : Environment) (before : S) (variables : List ℤ) (site : ℕ) (low high : Term) (parts : List Part) where
  abbrev pub whole : List Event
  whole = inner_trace env variables site low high parts

  -- the sites of the upper bound, and of the parts
  abbrev pub second : ℕ
  second = site + (1 + applications low)

  abbrev pub third : ℕ
  third = second + (1 + applications high)

  abbrev pub bound_events : List Event
  bound_events = bound_trace env variables second high

  abbrev pub turn_events : List Event
  turn_events = turns_trace env variables third parts (integers (value env variables low) (value env variables high))

  module _ (stays : Stays accepts may) (allowed : All (may before) whole) where
    pub at_high : {now : S} → Through accepts before (bound_trace env variables site low) now → OnTheWay accepts may before whole (bound_events ++ turn_events) now
    at_high through = went_on accepts may stays (bound_trace env variables site low) (bound_events ++ turn_events) (set_out accepts may allowed) through

    pub at_turns : (now : S) {later : S} → Through accepts before (bound_trace env variables site low) now → Through accepts now bound_events later →
        OnTheWay accepts may before whole turn_events later
    at_turns now first last = went_on accepts may stays bound_events turn_events (at_high first) last

-- the events of the turns, as the code has their site and their range
pub same_turns : (env : Environment) (variables : List ℤ) (parts : List Part) {site next : ℕ} {low high first last : ℤ} → next ≡ site → first ≡ low → last ≡ high →
    turns_trace env variables next parts (integers first last) ≡ turns_trace env variables site parts (integers low high)
same_turns env variables parts is_next is_first is_last = λ i. turns_trace env variables (is_next i) parts (integers (is_first i) (is_last i))
