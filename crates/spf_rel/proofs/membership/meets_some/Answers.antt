use Rattle.std.proofs.Common.{◌≡◌, true, false, sym, ◌∙◌, subst}
use Rattle.spf_rel.specs.Rule.{KeepsRule}
use Rattle.spf_rel.proofs.Points.{Fails, meets_none, no_more, one_more}
use Rattle.spf_rel.proofs.membership.meets_some.Goals as goal

pub holds-requires-clause-keeps : goal.holds-requires-clause-keeps
holds-requires-clause-keeps c = subst KeepsRule (sym c.conj-item.is) (c.requires.keep c.loop-conj.conj-index c.conj-item.result c.loop-conj-test.true)

pub loop-conj-preserved : goal.loop-conj-preserved
loop-conj-preserved c =
    let none = c.if-holds.false in
    one_more (Fails c.args.env.now c.args.point.now) c.args.conjs.now c.loop-conj.conj-index c.conj-item.result c.loop-conj-test.true c.conj-item.is c.loop-conj.invariant
    (λ holds. let clash : true ≡ false = sym (c.holds.ensures.1 holds) ∙ none in cc)

pub returns : goal.returns
returns c = (
  λ is. cc,
  λ some. absurd (meets_none c.args.env.now c.args.point.now c.args.conjs.now c.requires.inner (no_more (Fails c.args.env.now c.args.point.now) c.args.conjs.now c.loop-conj.conj-index c.loop-conj-test.false c.loop-conj.invariant) some),
)
