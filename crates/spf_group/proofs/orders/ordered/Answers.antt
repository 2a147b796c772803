use Rattle.std.proofs.Common.{◌≡◌, ℕ, ◌+◌, ◌<◌, [], length, slice_get, slice_index_or, List, Some, sym, ap, ◌∙◌, arith}
use Rattle.std.proofs.lemmas.Option.{slice_get-get_or}
use Rattle.spf_perm.specs.Perm.{AreInverse}
use Rattle.spf_space.proofs.Standing.{reach}
use Rattle.spf_space.specs.declared.shape.ArrayShape.{ArrayShape}
use Rattle.spf_group.specs.Keys.{extent_of, key_of, places_at, places_of, start_of}
use Rattle.spf_group.proofs.Cuts.{cut_read}
use Rattle.spf_group.proofs.Perms.{perm_permuted}
use Rattle.spf_group.proofs.Reach.{extent_read, start_read}
use Rattle.spf_group.proofs.Sorts.{ordered, ordered_alike}
use Rattle.spf_group.proofs.orders.ordered.Goals as goal

pub of-requires-clause-there : goal.of-requires-clause-there
of-requires-clause-there c =
    let shape = c.args.shape.now in
    let within = reach shape.loops c.args.of (extent_of shape.loops c.args.of) c.requires.there.loop_there (extent_read shape.loops c.args.of) in
    omega (arith, c.before-2.ensures, c.len.ensures, c.requires.there.positions, c.requires.there.touch_lists, within)

pub of_entries-requires : goal.of_entries-requires
of_entries-requires c = perm_permuted c.in_ok-positions.positions.items c.sort.new.positions.items c.in_ok-positions.ensures.1 c.sort.ensures.permutation

pub returns : goal.returns
returns c =
    let shape = c.args.shape.now in
    let order = c.args.order.now in
    let key = λ (position : ℕ). slice_index_or c.in_ok-keys.keys position [] in
    let inverse : AreInverse c.sort.new.positions.items c.in_ok-made.field-0 = rw c.of_entries.ensures at (rw c.in_ok-made.ensures.0 at c.inverse-2.ensures) in
    let placed = ordered key order c.in_ok-positions.positions.items c.sort.new.positions.items c.in_ok-positions.ensures.1 c.in_ok-positions.ensures.0
    c.sort.ensures.permutation c.in_ok-sort.ensures.sorted c.sort.ensures.stable c.in_ok-made.field-0 c.in_ok-made.ensures.1 inverse in
    let array = slice_index_or c.as_slice.result.now c.args.by c.index-as_slice-by.result in
    let there : slice_get shape.arrays c.args.by ≡ Some array =
    ap (λ (arrays : List ArrayShape). slice_get arrays c.args.by) (sym c.as_slice.ensures) ∙ slice_get-get_or c.as_slice.result.now c.args.by c.index-as_slice-by.result (rw c.as_slice.ensures c.requires.there.array_there) in
    let wanted = λ (start first position : ℕ). key_of c.args.key (places_of start c.args.now.now (slice_index_or c.args.touches.now (first + position) [])) in
    let alike : (position : ℕ) → position < length order → key position ≡ key_of c.args.key (places_at c.args.touches.now shape c.args.of c.args.by c.args.now.now position) = λ position lt.
    cut_read c.in_ok-keys.keys (wanted array.start c.before-2.result) c.len.result position c.in_ok-keys.ensures (omega (arith, c.len.ensures))
    ∙ ap (λ (start : ℕ). wanted start c.before-2.result position) (start_read shape.arrays c.args.by array there)
    ∙ ap (λ (first : ℕ). wanted (start_of shape.arrays c.args.by) first position) c.before-2.ensures in
    ordered_alike key _ order c.in_ok-made.field-0 alike placed
