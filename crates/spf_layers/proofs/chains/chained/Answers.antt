use Rattle.std.proofs.Common.{◌≡◌, ◌-◌, [], inl, inr, ◌∙◌, arith}
use Rattle.std.proofs.lemmas.Bool.{cases_eq}
use Rattle.std.proofs.lemmas.Option.{get_or_from_slice_get}
use Rattle.spf_touch.specs.Repeated.{touches_at}
use Rattle.spf_layers.proofs.Chaining.{units_more}
use Rattle.spf_layers.proofs.chains.chained.Goals as goal

touched : (c : goal.After-heads-in-loop-done-1) → touches_at c.args.touches.now (c.args.count - 1 - c.loop-done.done) ≡ c.of-touched.result.now
touched c = get_or_from_slice_get c.args.touches.now _ c.of-touched.result.now [] (rw c.locals.ensures at c.of-touched.ensures.list)

pub chain_unit-requires-clause-inside : goal.chain_unit-requires-clause-inside
chain_unit-requires-clause-inside c e touch =
    omega (arith, c.loop-done.invariant.heads, c.requires.inside (c.args.count - 1 - c.loop-done.done) e (omega arith) (rw touched touch))

pub loop-done-preserved : goal.loop-done-preserved
loop-done-preserved c =
    let is : touches_at c.args.touches.now (c.args.count - 1 - c.loop-done.done) ≡ c.of-touched.result.now =
    get_or_from_slice_get c.args.touches.now _ c.of-touched.result.now [] (rw c.locals.ensures at c.of-touched.ensures.list) in
    record {
      heads = c.in_ok-chain_unit.ensures.heads ∙ c.loop-done.invariant.heads;
      chains = units_more c.chain_unit.new.nodes.items c.chain_unit.new.heads.items (touches_at c.args.touches.now) c.args.count c.loop-done.done c.loop-done-test.true
          (rw is (c.in_ok-chain_unit.ensures.chained _ c.loop-done.invariant.chains));
      once = λ u low high. elim (cases_eq u (c.args.count - 1 - c.loop-done.done)) [
        | inl same ↦ rw (same, is) c.of-touched.ensures.once
        | inr other ↦ c.loop-done.invariant.once u (omega arith) high
      ];
    }
