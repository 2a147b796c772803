use Rattle.std.proofs.Common.{◌≡◌, [], replicate}
use Rattle.spf_access.proofs.enumeration.empty_lists.Given as goal

abbrev pub invariant-loop : goal.invariant-loop
invariant-loop l = record {
  closed : l.lists.closed ≡ replicate l.counter [];
  current : l.lists.current ≡ [];
}
