use Rattle.std.proofs.Common.{◌≡◌, ℕ, ◌-◌, ◌<◌, ◌≤◌, length}
use Rattle.std.specs.List.{range_with_len}
use Rattle.spf_touch.specs.Frame.{IsOnce}
use Rattle.spf_touch.specs.Repeated.{touches_at}
use Rattle.spf_layers.specs.Chains.{AreChains, entries}
use Rattle.spf_layers.proofs.chains.chained.Given as goal

-- the last units stand in the chains
abbrev pub invariant-loop-done : goal.invariant-loop-done
invariant-loop-done l = record {
  heads : length l.heads.items ≡ l.cells;
  chains : AreChains l.nodes.items l.heads.items (λ e. entries (touches_at l.touches) e (range_with_len (l.count - l.done) l.done));
  once : (u : ℕ) → l.count - l.done ≤ u → u < l.count → IsOnce (touches_at l.touches u);
}
