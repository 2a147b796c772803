use Rattle.std.proofs.Common.{sym, ◌∙◌}
use Rattle.spf_rel.proofs.Choosing.{chosen_here}
use Rattle.spf_rel.proofs.elimination.choose.Goals as goal

pub returns-in-Some : goal.returns-in-Some
returns-in-Some c =
    chosen_here c.args.low c.args.high c.args.terms.now c.loop-place.place c.index-terms-place.result c.loop-place-test.true c.index-terms-place.is c.in-Some.found
    (sym c.in_ok-found.ensures.answer ∙ c.in-Some.is) (c.in_ok-found.ensures.ready c.in-Some.found c.in-Some.is) c.loop-place.invariant
