use Rattle.std.proofs.Common.{◌≡◌, ◌+◌, ◌∷◌, [], take, arith}
use Rattle.spf_store.specs.Shaped.{sizes}
use Rattle.spf_store.proofs.Layouts.{end_more, sizes-cons, front_more, laid_more}
use Rattle.spf_store.proofs.shapes.lay_all.Goals as goal

pub loop-array-preserved : goal.loop-array-preserved
loop-array-preserved c =
    let is = front_more c.args.arrays.now c.loop-array.array-index c.array-item.result c.loop-array-test.true c.array-item.is in
    let done = take c.loop-array.array-index c.args.arrays.now in
    let piece = c.array-item.result ∷ [] in
    let new : c.lay.new.laid.end ≡ c.loop-array.laid.end + sizes c.args.env.now piece = omega (arith, c.in_ok-lay.ensures.end, sizes-cons c.args.env.now c.array-item.result []) in
    record {
      shapes = laid_more c.args.env.now c.args.laid.now.end done piece is c.loop-array.invariant.end c.args.laid.now.shapes c.loop-array.invariant.shapes c.in_ok-lay.ensures.shapes;
      end = end_more c.args.env.now c.args.laid.now.end done piece is c.loop-array.invariant.end new;
    }
