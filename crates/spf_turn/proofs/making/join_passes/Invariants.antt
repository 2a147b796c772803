use Rattle.std.proofs.Common.{◌≡◌, ◌≤◌, ◌+◌, ◌++◌, false, List, length, vec_len, All}
use Rattle.spf_turn.specs.Closing.{Represents}
use Rattle.spf_turn.specs.Passes.{PassState}
use Rattle.spf_turn.proofs.making.join_passes.Given as goal

-- those that were joined, and those that are left
abbrev pub invariant-loop-pass : goal.invariant-loop-pass
invariant-loop-pass g l = record {
  table : l.kept.table_id ≡ l.fn.table.table_id;
  live : 1 ≤ l.kept.me.0.number;
  idle : l.kept.me.0.holds ≡ false;
  tables : All (λ pass. pass.table ≡ l.fn.table.table_id) l.passes.items;
  free : All (λ pass. pass.holds ≡ false) l.passes.items;
  done : List (PassState g.row.R-Key.Denot g.row.R-Entry.Denot);
  whole : l.fn.passes.items ≡ l.passes.items ++ done;
  count : length done ≡ 1 + length l.kept.me.0.joined;
  each : All (λ pass. Represents g.R.TurnRule.who l.kept.me.0 pass) done;
}

abbrev pub decreases-loop-pass : goal.decreases-loop-pass
decreases-loop-pass g l = vec_len l.passes
