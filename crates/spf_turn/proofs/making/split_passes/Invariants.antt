use Rattle.std.proofs.Common.{◌≡◌, ◌+◌, ℕ, [], map, vec_capacity}
use Rattle.std.specs.List.{range_with_len}
use Rattle.spf_turn.specs.Passes.{fresh_pass}
use Rattle.spf_turn.specs.Seats.{turn_state}
use Rattle.spf_turn.specs.Steps.{first_view}
use Rattle.spf_turn.proofs.making.split_passes.Given as goal

-- so many passes were split off
abbrev pub invariant-loop-number : goal.invariant-loop-number
invariant-loop-number g l = record {
  count : ℕ;
  number : l.number ≡ count + 2;
  table : l.seat.table_id ≡ l.table.table_id;
  view : l.seat.me ≡ (record (first_view (g.R.TurnRule.key l.table.key.first.value) l.table.key.passes) { made = count + 1 }, []);
  items : l.all.items ≡ map (fresh_pass (turn_state g.R.TurnRule.key l.table.table_id l.table.key)) (range_with_len 2 count);
  room : vec_capacity l.all ≡ vec_capacity l.initial.all;
}
