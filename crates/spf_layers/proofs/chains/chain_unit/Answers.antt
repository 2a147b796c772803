use Rattle.std.proofs.Common.{◌<◌, ◌≤◌, length, get_or, ap, ◌∙◌, arith}
use Rattle.std.proofs.lemmas.List.{length-set}
use Rattle.spf_touch.specs.declared.class.Class.TheVariants.{Read}
use Rattle.spf_touch.specs.declared.touch.Touch.{Touch}
use Rattle.spf_layers.proofs.Chaining.{touch_there, unit_done, unit_more}
use Rattle.spf_layers.proofs.chains.chain_unit.Goals as goal

abbrev none : Touch
none = record { element = 0; class = Read }

pub chain-requires : goal.chain-requires
chain-requires c = omega (arith, c.loop-touch.invariant.heads, c.requires.inside _ (touch_there c.args.touches.now c.loop-touch.touch-index none c.loop-touch-test.true))

pub loop-touch-preserved : goal.loop-touch-preserved
loop-touch-preserved c =
    let inside : (get_or c.args.touches.now c.loop-touch.touch-index none).element < length c.loop-touch.heads.items =
    omega (arith, c.loop-touch.invariant.heads, c.requires.inside _ (touch_there c.args.touches.now c.loop-touch.touch-index none c.loop-touch-test.true)) in
    record {
      heads = ap length c.in_ok-chain.ensures.head ∙ length-set c.loop-touch.heads.items _ _ ∙ c.loop-touch.invariant.heads;
      chains = λ later old. rw (c.in_ok-chain.ensures.node, c.in_ok-chain.ensures.head)
          (unit_more c.loop-touch.nodes.items c.loop-touch.heads.items c.args.touches.now c.loop-touch.touch-index none c.args.unit later c.requires.once c.loop-touch-test.true inside
          (c.loop-touch.invariant.chains later old) (rw c.in_ok-chain.ensures.node at c.in_ok-chain.ensures.few));
    }

pub returns-clause-chained : goal.returns-clause-chained
returns-clause-chained c =
    let past : length c.args.touches.now ≤ c.loop-touch.touch-index = omega arith in
    λ later old. unit_done c.loop-touch.nodes.items c.loop-touch.heads.items c.args.touches.now c.loop-touch.touch-index c.args.unit later past (c.loop-touch.invariant.chains later old)
