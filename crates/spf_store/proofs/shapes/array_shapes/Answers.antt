use Rattle.std.proofs.Common.{◌≡◌, List, ◌++◌, ◌+◌, [], All, arith, subst, take, drop, sym, ◌∙◌, ap, flat_map}
use Rattle.spf_kernel.specs.declared.tree.DataDecl.{DataDecl}
use Rattle.spf_term.proofs.WalkParts.{all_first, all_second}
use Rattle.spf_store.specs.Accepted.{IsSize}
use Rattle.spf_store.specs.Shaped.{data_in, sizes}
use Rattle.spf_store.proofs.Layouts.{around, end_more, laid_more, pieces_more, sizes_around}
use Rattle.spf_store.proofs.shapes.array_shapes.Goals as goal

pub lay_all-requires-clause-sizes : goal.lay_all-requires-clause-sizes
lay_all-requires-clause-sizes c =
    let P = λ (array : DataDecl). IsSize c.args.env.now array.size in
    let decls = c.args.decls.now in
    let index = c.loop-decl.decl-index in
    let here = around decls index c.decl-item.result c.loop-decl-test.true c.decl-item.is data_in in
    let ahead = all_second P (flat_map data_in (take index decls)) _ (subst (All P) here c.requires.sizes) in
    subst (All P) (sym c.data_in.ensures) (all_first P (data_in c.decl-item.result) (flat_map data_in (drop (index + 1) decls)) ahead)

pub lay_all-requires-clause-few : goal.lay_all-requires-clause-few
lay_all-requires-clause-few c =
    let decls = c.args.decls.now in
    let index = c.loop-decl.decl-index in
    let here = around decls index c.decl-item.result c.loop-decl-test.true c.decl-item.is data_in in
    let within = sizes_around c.args.env.now (flat_map data_in (take index decls)) (data_in c.decl-item.result) (flat_map data_in (drop (index + 1) decls)) here in
    omega (arith, within, c.requires.few, c.loop-decl.invariant.end, ap (sizes c.args.env.now) c.data_in.ensures)

pub loop-decl-preserved : goal.loop-decl-preserved
loop-decl-preserved c =
    let index = c.loop-decl.decl-index in
    let is = pieces_more c.args.decls.now index c.decl-item.result c.loop-decl-test.true c.decl-item.is data_in ∙ ap (λ (piece : List DataDecl). flat_map data_in (take index c.args.decls.now) ++ piece) (sym c.data_in.ensures) in
    let done = flat_map data_in (take index c.args.decls.now) in
    let piece = c.data_in.result.now in
    let at : c.loop-decl.laid.end ≡ 0 + sizes c.args.env.now done = omega (arith, c.loop-decl.invariant.end) in
    record {
      shapes = laid_more c.args.env.now 0 done piece is at [] c.loop-decl.invariant.shapes c.in_ok-lay_all.ensures.shapes;
      end = omega (arith, end_more c.args.env.now 0 done piece is at c.in_ok-lay_all.ensures.end);
    }
