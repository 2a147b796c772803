use Rattle.std.proofs.Common.{◌++◌, [], ◌∷◌, sym, ◌∙◌, arith}
use Rattle.spf_rel.specs.Renumbering.{moved}
use Rattle.spf_rel.proofs.Defining.{defined_next}
use Rattle.spf_rel.proofs.definitions.definitions.Goals as goal

pub loop-term-preserved : goal.loop-term-preserved
loop-term-preserved c =
    let var = c.loop-term.invariant.var in
    record {
      var = omega (arith, var);
      made =
          c.in_ok-push.ensures.ok ∙ (λ i. c.loop-term.invariant.made i ++ c.in_ok-difference.ensures i ∷ [])
          ∙ sym (defined_next (moved c.args.blocks.now) c.args.first c.args.terms.now c.loop-term.term-index c.term-item.result c.loop-term.var c.loop-term-test.true c.term-item.is var);
    }
