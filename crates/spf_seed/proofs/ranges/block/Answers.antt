use Rattle.std.proofs.Common.{ℕ, ◌*◌, ◌/◌, ◌<◌, ◌≤◌, sym, arith}
use Rattle.std.proofs.Math.Nat.{div-lt_iff_lt-mul, mul_comm, mul-lt-mul_of_pos_left}
use Rattle.std.proofs.lemmas.List.FromFn.{get_or-map-range_with_len, length-map-range_with_len, map-range_with_len_more}
use Rattle.spf_seed.proofs.ranges.block.Goals as goal

pub loop-position-preserved : goal.loop-position-preserved
loop-position-preserved c =
    rw (c.in_ok-push.ensures.items, c.loop-position.invariant, c.part_of.ensures) (sym (map-range_with_len_more (λ position. position * c.args.parts / c.args.n) 0 c.loop-position.position c.loop-position.position (omega arith)))

part_below : (position n parts : ℕ) → 1 ≤ parts → position < n → position * parts / n < parts
part_below position n parts some lt = (div-lt_iff_lt-mul {k = n} {x = position * parts} {y = parts} (omega arith)).1 (rw (mul_comm position parts) (mul-lt-mul_of_pos_left {m = position} {n = n} {k = parts} lt some))

pub returns-clause-below : goal.returns-clause-below
returns-clause-below c k d lt =
    let part = λ (position : ℕ). position * c.args.parts / c.args.n in
    let inside : k < c.loop-position.position = rw (c.loop-position.invariant, length-map-range_with_len part 0 c.loop-position.position) at lt in
    rw (c.loop-position.invariant, get_or-map-range_with_len part 0 c.loop-position.position k k d inside (omega arith)) (part_below k c.args.n c.args.parts c.requires (omega arith))
