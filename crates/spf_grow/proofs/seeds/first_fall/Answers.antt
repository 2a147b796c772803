use Rattle.std.proofs.Common.{◌≡◌, ◌+◌, ◌-◌, get_or, inl, inr, ap, arith}
use Rattle.std.proofs.lemmas.Bool.{cases_eq}
use Rattle.spf_touch.specs.Repeated.{touches_at}
use Rattle.spf_grow.specs.Bounds.{IsBound}
use Rattle.spf_grow.specs.Growth.{seed_number}
use Rattle.spf_grow.proofs.Greatest.{bound_of}
use Rattle.spf_grow.proofs.Passing.{bound_within, none_falls, noted_behind}
use Rattle.spf_grow.proofs.seeds.first_fall.Goals as goal

pub unreachable-requires : goal.unreachable-requires
unreachable-requires c =
    let touches = touches_at c.args.touches.now in
    let first = c.args.first in
    let seed = c.args.seed.now in
    let unit = first + c.loop-position.position in
    let place : unit - first ≡ c.loop-position.position = omega arith in
    let part : seed_number first seed unit ≡ get_or seed c.loop-position.position 0 = ap (λ k. get_or seed k 0) place in
    let bound : IsBound touches first unit (seed_number first seed) unit c.greatest.result =
    bound_of touches first unit (seed_number first seed) c.loop-position.bounds c.loop-position.invariant.noted unit c.greatest.result
    (rw c.touched-touched.ensures at c.greatest.ensures.above) (rw c.touched-touched.ensures at c.greatest.ensures.least) in
    omega (arith, bound_within touches first seed unit c.greatest.result (omega arith) bound (λ p. c.in-None.ensures {u = tt} p))

pub loop-position-preserved : goal.loop-position-preserved
loop-position-preserved c =
    let touches = touches_at c.args.touches.now in
    let first = c.args.first in
    let seed = c.args.seed.now in
    let unit = first + c.loop-position.position in
    let place : unit - first ≡ c.loop-position.position = omega arith in
    let part : seed_number first seed unit ≡ get_or seed c.loop-position.position 0 = ap (λ k. get_or seed k 0) place in
    let bound : IsBound touches first unit (seed_number first seed) unit c.greatest.result =
    bound_of touches first unit (seed_number first seed) c.loop-position.bounds c.loop-position.invariant.noted unit c.greatest.result
    (rw c.touched-touched.ensures at c.greatest.ensures.above) (rw c.touched-touched.ensures at c.greatest.ensures.least) in
    let next : unit + 1 ≡ first + (c.loop-position.position + 1) = omega arith in
    record {
      noted = rw (← next)
          (noted_behind touches first unit (seed_number first seed) c.loop-position.bounds c.note.new.bounds (get_or seed c.loop-position.position 0) (omega arith) part c.loop-position.invariant.noted
          (rw c.touched-touched.ensures at c.note.ensures));
      nowhere = λ p q falls. elim (cases_eq q unit) [
        | inl same ↦ absurd (none_falls touches first seed unit c.greatest.result (omega arith) bound (omega (arith, part, c.if-part-greatest.false)) p (rw same at falls))
        | inr other ↦ omega (arith, c.loop-position.invariant.nowhere p q falls)
      ];
    }
