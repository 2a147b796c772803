use Rattle.std.proofs.Common.{◌≤ℤ◌, ℤ, pos, refl, arith}
use Rattle.std.proofs.lemmas.Int.{ints}
use Rattle.spf_term.specs.Value.{value}
use Rattle.spf_term.specs.declared.term.Term.{Term}
use Rattle.spf_rel.proofs.Points.{no_more, one_more}
use Rattle.spf_rel.proofs.membership.none_below_zero.Goals as goal

pub loop-term-preserved : goal.loop-term-preserved
loop-term-preserved c =
    let told = c.value.ensures in
    let none = c.if-value-lt0.false in
    let least : pos 0 ≤ℤ value c.args.env.now c.args.point.now c.term-item.result = omega (arith, ints, told, none) in
    one_more (λ (term : Term). pos 0 ≤ℤ value c.args.env.now c.args.point.now term) c.args.terms.now c.loop-term.term-index c.term-item.result c.loop-term-test.true c.term-item.is c.loop-term.invariant least

pub returns : goal.returns
returns c = (λ is. no_more (λ (term : Term). pos 0 ≤ℤ value c.args.env.now c.args.point.now term) c.args.terms.now c.loop-term.term-index c.loop-term-test.false c.loop-term.invariant, λ all. refl)
