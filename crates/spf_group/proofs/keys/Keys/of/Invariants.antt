use Rattle.std.proofs.Common.{◌+◌, [], slice_index_or}
use Rattle.spf_group.specs.Keys.{key_of, places_of}
use Rattle.spf_group.proofs.Cuts.{AreMade}
use Rattle.spf_group.proofs.keys.Keys.of.Given as goal

abbrev pub invariant-loop-position : goal.invariant-loop-position
invariant-loop-position l =
    AreMade (λ position. key_of l.column.key (places_of l.column.start l.column.now.now (slice_index_or l.touches (l.first + position) []))) l.position l.parts.items l.starts.items
