use Rattle.std.proofs.Common.{[], ◌∷◌, ◌++◌, sym, ◌∙◌}
use Rattle.spf_exec.proofs.Bodies.{bodies_next, is_there, loop_bounded, loop_named}
use Rattle.spf_exec.proofs.generation.bodies.Goals as goal

pub body-requires-clause-named : goal.body-requires-clause-named
body-requires-clause-named c =
    loop_named c.args.tree.now c.args.moved.now c.as_slice-each-items.result.now c.as_slice-each-items.ensures c.loop-loop_no.loop_no c.each-item.result c.loop-loop_no-test.true c.each-item.is c.requires.named

pub body-requires-clause-bounded : goal.body-requires-clause-bounded
body-requires-clause-bounded c =
    loop_bounded c.args.tree.now c.args.moved.now c.as_slice-each-items.result.now c.as_slice-each-items.ensures c.loop-loop_no.loop_no c.each-item.result c.loop-loop_no-test.true c.each-item.is c.requires.bounded

pub body-requires-clause-inside : goal.body-requires-clause-inside
body-requires-clause-inside c =
    is_there c.args.tree.now c.args.moved.now c.as_slice-each-items.result.now c.as_slice-each-items.ensures c.loop-loop_no.loop_no c.each-item.result c.loop-loop_no-test.true c.each-item.is

pub loop-loop_no-preserved : goal.loop-loop_no-preserved
loop-loop_no-preserved c =
    c.in_ok-push.ensures.ok ∙ (λ i. c.loop-loop_no.invariant i ++ c.in_ok-body.ensures i ∷ [])
    ∙ sym (bodies_next c.args.tree.now c.args.moved.now c.as_slice-each-items.result.now c.as_slice-each-items.ensures c.loop-loop_no.loop_no c.each-item.result c.loop-loop_no-test.true c.each-item.is)
