use Rattle.std.proofs.Common.{◌≡◌, ℕ, false, get_or, take, true}
use Rattle.spf_touch.specs.Ordered.{is_in}
use Rattle.spf_core.proofs.order.all_marked.Given as goal

-- the tiles so far are marked
abbrev pub invariant-loop-tile : goal.invariant-loop-tile
invariant-loop-tile l = (t : ℕ) → is_in (take l.tile-index l.tiles) t ≡ true → get_or l.marks t false ≡ true
