use Rattle.std.proofs.Common.{◌+◌, take, sym, ◌∙◌, subst}
use Rattle.spf_rel.specs.Meaning.{IsFormed}
use Rattle.spf_rel.specs.Simplified.{AreDistinct}
use Rattle.spf_rel.proofs.Listed.{none_next, some_next}
use Rattle.spf_rel.proofs.Settled.{settled_kept}
use Rattle.spf_rel.proofs.tidying.tidied.Goals as goal
use Rattle.spf_rel.proofs.tidying.tidied.Goals.{in-Some+in_ok-tidy+in_ok-push_new, in_default}

pub tidy-requires : goal.tidy-requires
tidy-requires c =
    let formed = subst (IsFormed c.args.outer) (sym c.conj-item.is) (c.requires c.loop-conj.conj-index c.conj-item.result c.loop-conj-test.true) in
    (settled_kept c.conj-item.result c.args.outer c.in-Some.left formed (sym c.in_ok-left.ensures ∙ c.in-Some.is)).formed

pub loop-conj-preserved : goal.loop-conj-preserved
loop-conj-preserved c = elim c.match-branch-2.branch [
  | in-Some+in_ok-tidy+in_ok-push_new w ↦
      some_next c.args.outer c.args.conjs.now c.loop-conj.conj-index c.conj-item.result c.loop-conj-test.true c.conj-item.is c.loop-conj.made c.match-branch-2.made w.in-Some.left w.in_ok-tidy.field-0
      (sym c.in_ok-left.ensures ∙ w.in-Some.is) w.in_ok-tidy.ensures (w.made-is ∙ w.in_ok-push_new.ensures) c.loop-conj.invariant
  | in_default w ↦
      subst (AreDistinct c.args.outer (take (c.loop-conj.conj-index + 1) c.args.conjs.now)) (sym w.made-is)
      (none_next c.args.outer c.args.conjs.now c.loop-conj.conj-index c.conj-item.result c.loop-conj-test.true c.conj-item.is c.loop-conj.made (sym c.in_ok-left.ensures ∙ w.in_default.is) c.loop-conj.invariant)
]
