use Rattle.std.proofs.Common.{◌≡◌, length, ap, ◌∙◌, arith}
use Rattle.spf_space.specs.Layout.{cells_in}
use Rattle.spf_touch.specs.Repeated.{touches_at}
use Rattle.spf_layers.proofs.Chaining.{touch_there}
use Rattle.spf_space.proofs.Standing.{reach_in_step, some_iterations}
use Rattle.spf_grow.proofs.growing.grow.Goals as goal

pub seeded-requires : goal.seeded-requires
seeded-requires c = omega (arith, reach_in_step c.args.shape.now.steps c.args.shape.now.loops c.args.seed_step c.args.seed_loop (length c.args.seed.now) c.requires.step c.requires.seed_loop c.requires.positions)

pub number_all-fall-requires-clause-order : goal.number_all-fall-requires-clause-order
number_all-fall-requires-clause-order c =
    omega (
      arith,
      reach_in_step c.args.shape.now.steps c.args.shape.now.loops c.args.seed_step c.args.seed_loop (length c.args.seed.now) c.requires.step c.requires.seed_loop c.requires.positions,
      c.in_ok-numbers.ensures.each,
      ap length c.as_mut_slice.ensures.value,
    )

pub number_all-fall-requires-clause-units : goal.number_all-fall-requires-clause-units
number_all-fall-requires-clause-units c =
    let numbers : length c.as_mut_slice.result.now ≡ c.units.result = ap length c.as_mut_slice.ensures.value ∙ c.in_ok-numbers.ensures.each in
    record {
      few = omega arith;
      some = λ lt. omega (arith, some_iterations c.args.shape.now.steps c.args.shape.now.loops (omega arith));
      inside = λ u lt k d inside. omega (
        arith,
        c.requires.inside u _ (touch_there (touches_at c.args.touches.now u) k d inside),
        c.in_ok-bounds.ensures.cells,
        ap length c.as_mut_slice-2.ensures.value,
        ap cells_in c.as_slice.ensures,
      );
    }
