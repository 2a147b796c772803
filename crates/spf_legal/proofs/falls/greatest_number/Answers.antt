use Rattle.std.proofs.Common.{◌≡◌, ◌≤◌, get_or, inl, inr, sym, ◌∙◌, arith}
use Rattle.std.proofs.lemmas.Bool.{cases_lt}
use Rattle.spf_touch.proofs.Members.{in_at}
use Rattle.spf_legal.specs.Falling.{number_in}
use Rattle.spf_legal.proofs.Scans.{of_all}
use Rattle.spf_legal.proofs.falls.greatest_number.Goals as goal
use Rattle.spf_legal.proofs.falls.greatest_number.Goals.{then-greatest-number, else-greatest-number}

pub number-number-requires-clause-unit : goal.number-number-requires-clause-unit
number-number-requires-clause-unit c = c.requires.units (get_or c.args.units.now c.loop-unit.unit-index 0) (in_at c.args.units.now c.loop-unit.unit-index 0 c.loop-unit-test.true)

pub loop-unit-preserved : goal.loop-unit-preserved
loop-unit-preserved c = elim c.if-greatest-number.branch [
  | then-greatest-number w ↦ record {
    bound = λ k lt. elim (cases_lt k c.loop-unit.unit-index) [
      | inl less ↦ omega (arith, c.loop-unit.invariant.bound k less, w.greatest-is, w.if-greatest-number.true)
      | inr more ↦ let same : k ≡ c.loop-unit.unit-index = omega arith in rw same (omega (arith, w.greatest-is, c.number-number.ensures))
    ];
    some = λ _. (get_or c.args.units.now c.loop-unit.unit-index 0, in_at c.args.units.now c.loop-unit.unit-index 0 c.loop-unit-test.true, sym c.number-number.ensures ∙ sym w.greatest-is);
  }
  | else-greatest-number w ↦ record {
    bound = λ k lt. elim (cases_lt k c.loop-unit.unit-index) [
      | inl less ↦ omega (arith, c.loop-unit.invariant.bound k less, w.greatest-is)
      | inr more ↦ let same : k ≡ c.loop-unit.unit-index = omega arith in rw same (omega (arith, w.greatest-is, w.if-greatest-number.false, c.number-number.ensures))
    ];
    some = rw w.greatest-is c.loop-unit.invariant.some;
  }
]

pub returns-clause-bound : goal.returns-clause-bound
returns-clause-bound c =
    of_all (number_in c.args.shape.now c.args.places.now) c.args.units.now (λ u. number_in c.args.shape.now c.args.places.now u ≤ c.loop-unit.greatest) (λ k lt. c.loop-unit.invariant.bound k (omega arith))
