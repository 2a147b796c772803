use Rattle.std.proofs.Common.{◌≡◌, ℕ, List, length, take}
use Rattle.spf_touch.specs.Frame.{class_at}
use Rattle.spf_layers.specs.Chains.{AreChains, Entry, entry_in_front}
use Rattle.spf_layers.proofs.chains.chain_unit.Given as goal

-- the touches so far stand before the chains that were there
abbrev pub invariant-loop-touch : goal.invariant-loop-touch
invariant-loop-touch l = record {
  heads : length l.heads.items ≡ length l.initial.heads.items;
  chains : (later : ℕ → List Entry) → AreChains l.initial.nodes.items l.initial.heads.items later →
      AreChains l.nodes.items l.heads.items (λ e. entry_in_front l.unit (class_at (take l.touch-index l.touches) e) (later e));
}
