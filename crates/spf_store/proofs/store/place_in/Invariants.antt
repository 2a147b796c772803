use Rattle.std.proofs.Common.{◌≡◌, ◌+◌, take}
use Rattle.spf_space.specs.Layout.{cells_in}
use Rattle.spf_store.proofs.store.place_in.Given as goal

abbrev pub invariant-loop-array : goal.invariant-loop-array
invariant-loop-array l = cells_in (take l.array l.arrays) + l.place ≡ l.element
