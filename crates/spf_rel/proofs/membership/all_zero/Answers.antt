use Rattle.std.proofs.Common.{◌≡◌, ℤ, pos, refl, arith}
use Rattle.std.proofs.lemmas.Int.{ints}
use Rattle.spf_term.specs.Value.{value}
use Rattle.spf_term.specs.declared.term.Term.{Term}
use Rattle.spf_rel.proofs.Points.{no_more, one_more}
use Rattle.spf_rel.proofs.membership.all_zero.Goals as goal

pub loop-term-preserved : goal.loop-term-preserved
loop-term-preserved c =
    let told = c.value.ensures in
    let none = c.if-value-ne0.false in
    let zero : value c.args.env.now c.args.point.now c.term-item.result ≡ pos 0 = omega (arith, ints, told, none) in
    one_more (λ (term : Term). value c.args.env.now c.args.point.now term ≡ pos 0) c.args.terms.now c.loop-term.term-index c.term-item.result c.loop-term-test.true c.term-item.is c.loop-term.invariant zero

pub returns : goal.returns
returns c = (λ is. no_more (λ (term : Term). value c.args.env.now c.args.point.now term ≡ pos 0) c.args.terms.now c.loop-term.term-index c.loop-term-test.false c.loop-term.invariant, λ all. refl)
