use Rattle.std.proofs.Common.{◌≤◌, length, get_or, arith}
use Rattle.spf_touch.proofs.Members.{in_at}
use Rattle.spf_legal.specs.Falling.{number_in}
use Rattle.spf_legal.proofs.Scans.{last_done, last_kept, last_taken}
use Rattle.spf_legal.proofs.falls.last_above.Goals as goal
use Rattle.spf_legal.proofs.falls.last_above.Goals.{then-bound-number, else-bound-number}

pub number-requires-clause-unit : goal.number-requires-clause-unit
number-requires-clause-unit c = c.requires.units (get_or c.args.units.now c.loop-unit.unit-index 0) (in_at c.args.units.now c.loop-unit.unit-index 0 c.loop-unit-test.true)

pub loop-unit-preserved : goal.loop-unit-preserved
loop-unit-preserved c =
    let number = number_in c.args.shape.now c.args.places.now in
    elim c.if-bound-number.branch [
      | then-bound-number w ↦ rw w.last-is
          (last_taken number c.args.units.now c.requires.ascending c.args.bound c.loop-unit.unit-index c.loop-unit-test.true (omega (arith, w.if-bound-number.true, c.number.ensures)))
      | else-bound-number w ↦ rw w.last-is
          (last_kept number c.args.units.now c.args.bound c.loop-unit.unit-index c.loop-unit.last (omega (arith, w.if-bound-number.false, c.number.ensures)) c.loop-unit.invariant)
    ]

pub returns : goal.returns
returns c =
    let past : length c.args.units.now ≤ c.loop-unit.unit-index = omega arith in
    last_done (number_in c.args.shape.now c.args.places.now) c.args.units.now c.args.bound c.loop-unit.unit-index c.loop-unit.last past c.loop-unit.invariant
