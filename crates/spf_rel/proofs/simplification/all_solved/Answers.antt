use Rattle.std.proofs.Common.{Ok, sym, ◌∙◌}
use Rattle.spf_rel.proofs.Listed.{solved_fails, solved_next}
use Rattle.spf_rel.proofs.simplification.all_solved.Goals as goal

pub returns-in-Err : goal.returns-in-Err
returns-in-Err c = solved_fails c.args.outer c.args.conjs.now c.loop-conj.conj-index c.conj-item.result c.loop-conj-test.true c.conj-item.is c.loop-conj.made c.in-Err.fault c.loop-conj.invariant c.in-Err.ensures

pub loop-conj-preserved : goal.loop-conj-preserved
loop-conj-preserved c =
    solved_next c.args.outer c.args.conjs.now c.loop-conj.conj-index c.conj-item.result c.loop-conj-test.true c.conj-item.is c.loop-conj.made c.in-Ok.done c.loop-conj.invariant c.in-Ok.ensures
    ∙ (λ i. Ok (sym c.in_ok-push-in-Ok.ensures.ok i))
