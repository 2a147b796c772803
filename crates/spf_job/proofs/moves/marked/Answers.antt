use Rattle.std.proofs.Common.{◌<◌, true, false, Some, None, [], length, refl, ap, ◌∙◌, arith}
use Rattle.std.proofs.lemmas.List.{get_or_default}
use Rattle.spf_job.proofs.PlanMoves.{pushed}
use Rattle.spf_job.proofs.moves.marked.Goals as goal
use Rattle.spf_job.proofs.moves.marked.Goals.{then-is_marked+in_ok-copied+in_ok-push, else-is_marked+in_ok-push-2}

pub loop-n-preserved : goal.loop-n-preserved
loop-n-preserved c =
    let marks = c.args.marks.now in
    let perms = c.args.perms.now in
    let n = c.loop-n.n in
    let inside : n < length perms = omega (arith, c.loop-n-test.true, c.requires) in
    let mark = get_or_default marks n true false c.loop-n-test.true in
    elim c.if-is_marked.branch [
      | then-is_marked+in_ok-copied+in_ok-push w ↦
          let perm = w.in_ok-copied.ensures ∙ (w.index-perms-n.is ∙ get_or_default perms n w.index-perms-n.result [] inside) in
          let is_mark = mark ∙ w.if-is_marked.true in
          w.moves-is ∙ (w.in_ok-push.ensures.ok ∙ pushed marks perms n c.loop-n.moves (Some w.in_ok-copied.field-0) c.loop-n.invariant (rw is_mark (ap Some perm)))
      | else-is_marked+in_ok-push-2 w ↦
          let is_mark = mark ∙ w.if-is_marked.false in
          w.moves-is ∙ (w.in_ok-push-2.ensures.ok ∙ pushed marks perms n c.loop-n.moves None c.loop-n.invariant (rw is_mark refl))
    ]
