use Rattle.std.proofs.Common.{◌≤◌, get_or, arith}
use Rattle.spf_touch.proofs.Members.{in_at}
use Rattle.spf_legal.specs.Falling.{number_in}
use Rattle.spf_legal.proofs.Scans.{found_first, of_all}
use Rattle.spf_legal.proofs.falls.first_below.Goals as goal

pub number-requires-clause-unit : goal.number-requires-clause-unit
number-requires-clause-unit c = c.requires.units (get_or c.args.units.now c.loop-unit.unit-index 0) (in_at c.args.units.now c.loop-unit.unit-index 0 c.loop-unit-test.true)

pub returns-then-number-bound : goal.returns-then-number-bound
returns-then-number-bound c =
    found_first (number_in c.args.shape.now c.args.places.now) c.args.units.now c.requires.ascending c.args.bound c.loop-unit.unit-index c.loop-unit-test.true c.loop-unit.invariant
    (omega (arith, c.number.ensures, c.if-number-bound.true))

pub returns : goal.returns
returns c = of_all (number_in c.args.shape.now c.args.places.now) c.args.units.now (λ u. c.args.bound ≤ number_in c.args.shape.now c.args.places.now u) (λ k lt. c.loop-unit.invariant k (omega arith))
