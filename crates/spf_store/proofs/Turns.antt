-- How far a walk has come among the turns of a `for`.
use Rattle.std.proofs.Common.{◌≡◌, ℕ, zero, suc, ◌+◌, ◌<◌, ◌≤◌, ◌^◌, ℤ, pos, ◌+ℤ◌, List, [], ◌∷◌, ◌++◌, All, ap, ◌∙◌, subst, arith, drop, get_or, negsuc}
use Rattle.std.proofs.lemmas.Int.{ints}
use Rattle.std.proofs.lemmas.List.{drop_all, drop_more}
use Rattle.std.proofs.lemmas.List.Elements.{All-cons}
use Rattle.std.proofs.lemmas.List.FromFn.{get_or-map-range_with_len, length-map-range_with_len}
use Rattle.std.specs.Int.{int_gap}
use Rattle.spf_term.specs.Bounded.{AreWithin, IsWithin}
use Rattle.spf_term.specs.Environment.{Environment}
use Rattle.spf_term.specs.Walk.{Through, StopsAt}
use Rattle.spf_kernel.specs.declared.tree.Part.{Part}
use Rattle.spf_store.specs.Event.{Event}
use Rattle.spf_store.specs.Trace.{integers, outer_of, turn_trace, turns_trace}
use Rattle.spf_store.proofs.OnTheWay.{OnTheWay, Stays, arrived, part_may, set_out, stopped, went_on}

listed_within : (limit : ℕ) (numbers : List ℤ) (place : ℕ) → All (IsWithin limit) numbers → IsWithin limit (get_or numbers place (pos 0))
listed_within limit [] place h = omega (arith, ints)
listed_within limit (number ∷ numbers) zero h = h 0 (pos 0) (omega arith)
listed_within limit (number ∷ numbers) (suc place) h = listed_within limit numbers place (λ k d inside. h (suc k) d (omega arith))

-- the variables of a turn are within the limit
pub turn_within : (env : Environment) (variables : List ℤ) (inner : ℤ) → AreWithin env variables → IsWithin (2 ^ 22) inner → AreWithin env (outer_of variables ∷ inner ∷ [])
turn_within env variables inner within small = record {
  params = within.params;
  tables = within.tables;
  values = All-cons (IsWithin (2 ^ 22)) (outer_of variables) (inner ∷ []) (listed_within (2 ^ 22) variables 0 within.values)
      (All-cons (IsWithin (2 ^ 22)) inner [] small (λ k d inside. omega arith));
}

pub between_within : (low high : ℤ) (turn : ℕ) → IsWithin (2 ^ 22) low → IsWithin (2 ^ 22) high → turn < int_gap low high → IsWithin (2 ^ 22) (low +ℤ pos turn)
between_within (pos low) (pos high) turn small large inside = omega (arith, ints)
between_within (pos low) (negsuc high) turn small large inside = omega arith
between_within (negsuc low) (pos high) turn small large inside = omega (arith, ints)
between_within (negsuc low) (negsuc high) turn small large inside = omega (arith, ints)

module _ {S : Type 0} (accepts : S → Event → S → Type 0) (may : S → Event → Type 0) (env : Environment) (before : S) (variables : List ℤ) (site : ℕ) (parts : List Part) (low high : ℤ) where
  abbrev inners : List ℤ
  inners = integers low high

  abbrev whole : List Event
  whole = turns_trace env variables site parts inners

  -- so many turns are done
  abbrev pub AmongTurns : S → ℕ → Type 0
  AmongTurns now index = OnTheWay accepts may before whole (turns_trace env variables site parts (drop index inners)) now

  pub at_first : All (may before) whole → AmongTurns before 0
  at_first may = set_out accepts _ may

  module _ {now : S} (index : ℕ) (inside : index < int_gap low high) (among : AmongTurns now index) where
    abbrev both : List ℤ
    both = outer_of variables ∷ (low +ℤ pos index) ∷ []

    abbrev rest : List Event
    rest = turns_trace env variables site parts (drop (index + 1) inners)

    next_is : drop index inners ≡ (low +ℤ pos index) ∷ drop (index + 1) inners
    next_is = drop_more inners index (pos 0) (omega (arith, length-map-range_with_len (λ n. low +ℤ pos n) 0 (int_gap low high), inside))
        ∙ ap (λ (first : ℤ). first ∷ drop (index + 1) inners) (get_or-map-range_with_len (λ n. low +ℤ pos n) 0 (int_gap low high) index index (pos 0) inside (omega arith))

    here : OnTheWay accepts may before whole (turn_trace env both site parts ++ rest) now
    here = subst (λ (left : List ℤ). OnTheWay accepts may before whole (turns_trace env variables site parts left) now) next_is among

    pub may_turn : All (may now) (turn_trace env both site parts)
    may_turn = part_may accepts may (turn_trace env both site parts) rest here

    pub turned : {after : S} → Stays accepts may → Through accepts now (turn_trace env both site parts) after → AmongTurns after (index + 1)
    turned stays through = went_on accepts may stays (turn_trace env both site parts) rest here through

    pub turn_stopped : {R : Type 0} {refuses : S → Event → R → Type 0} {stop : R} → StopsAt accepts refuses now (turn_trace env both site parts) stop → StopsAt accepts refuses before whole stop
    turn_stopped at = stopped accepts may (turn_trace env both site parts) rest here at

  pub all_turned : {after : S} (index : ℕ) → int_gap low high ≤ index → AmongTurns after index → Through accepts before whole after
  all_turned {after = after} index past among =
      arrived accepts may (subst (λ (left : List ℤ). OnTheWay accepts may before whole (turns_trace env variables site parts left) after)
      (drop_all index inners (omega (arith, past, length-map-range_with_len (λ n. low +ℤ pos n) 0 (int_gap low high)))) among)
