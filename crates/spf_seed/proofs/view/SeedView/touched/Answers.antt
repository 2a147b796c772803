use Rattle.std.proofs.Common.{arith, ◌+◌}
use Rattle.std.proofs.lemmas.Grind.{common_steps}
use Rattle.spf_seed.specs.View.{positions}
use Rattle.spf_seed.proofs.view.SeedView.touched.Goals as goal

pub slice_bounds-result-end : goal.slice_bounds-result-end
slice_bounds-result-end c =
    let rises = c.requires.view.rising (c.args.position + 1) (positions c.args.self.now) 0 (omega arith) (omega arith) in
    let last = c.requires.view.last in
    grind (arith, common_steps)
