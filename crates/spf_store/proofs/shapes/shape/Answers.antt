use Rattle.std.proofs.Common.{◌≡◌, ◌≤◌, ◌*◌, List, ap, sym, ◌∙◌, subst, arith, flat_map, map}
use Rattle.spf_kernel.specs.declared.tree.Tree.{Tree}
use Rattle.spf_space.specs.Layout.{IsLayout, iterations}
use Rattle.spf_space.specs.declared.shape.LoopShape.{LoopShape}
use Rattle.spf_space.specs.declared.shape.ArrayShape.{ArrayShape}
use Rattle.spf_store.specs.Shaped.{array_shapes, data_in, data_of, loop_shape, loops_of, sizes}
use Rattle.spf_store.proofs.Layouts.{few_cells, few_iterations, laid_out}
use Rattle.spf_store.proofs.shapes.shape.Goals as goal

pub array_shapes-requires-clause-few : goal.array_shapes-requires-clause-few
array_shapes-requires-clause-few c =
    let decls = c.as_slice-2.ensures ∙ ap (λ (tree : Tree). tree.decls) c.tree-tree.ensures.tree in
    let bounded = rw c.tree-tree.ensures.tree at c.tree-tree.ensures.bounded in
    omega (arith, ap (λ of. sizes c.args.env.now (flat_map data_in of)) decls, few_cells c.args.env.now c.args.kernel.now c.requires.accepted bounded)

pub iterations-requires : goal.iterations-requires
iterations-requires c =
    let loops : c.as_slice-3.result.now ≡ loops_of c.args.env.now c.args.kernel.now =
    c.as_slice-3.ensures ∙ c.in_ok-loops.ensures ∙ ap (map (loop_shape c.args.env.now)) (c.as_slice.ensures ∙ ap (λ (tree : Tree). tree.loops) c.tree-tree.ensures.tree) in
    let bounded = rw c.tree-tree.ensures.tree at c.tree-tree.ensures.bounded in
    omega (arith, ap iterations loops, few_iterations c.args.env.now c.args.kernel.now c.requires.accepted bounded.few)

pub new-requires : goal.new-requires
new-requires c =
    let env = c.args.env.now in
    let tree = c.args.kernel.now in
    let bounded = rw c.tree-tree.ensures.tree at c.tree-tree.ensures.bounded in
    let loops : c.in_ok-loops.loops ≡ loops_of env tree =
    c.in_ok-loops.ensures ∙ ap (map (loop_shape env)) (c.as_slice.ensures ∙ ap (λ (tree : Tree). tree.loops) c.tree-tree.ensures.tree) in
    let arrays : c.in_ok-arrays.arrays ≡ data_of env tree =
    c.in_ok-arrays.ensures ∙ ap (λ of. array_shapes env 0 (flat_map data_in of)) (c.as_slice-2.ensures ∙ ap (λ (tree : Tree). tree.decls) c.tree-tree.ensures.tree) in
    let few : c.size-steps.result * iterations (loops_of env tree) ≤ 4194304 =
    let each = c.from-2.ensures ∙ c.iterations.ensures ∙ ap iterations (c.as_slice-3.ensures ∙ loops) in
    let product : c.from.result * c.from-2.result ≡ c.size-steps.result * iterations (loops_of env tree) = (λ i. c.from.ensures i * each i) in
    omega (arith, product) in
    let laid = laid_out env tree c.requires.accepted bounded bounded.few c.size-steps.result few in
    subst (λ (of : List LoopShape). IsLayout c.size-steps.result of c.in_ok-arrays.arrays) (sym loops)
    (subst (λ (of : List ArrayShape). IsLayout c.size-steps.result (loops_of env tree) of) (sym arrays) laid)
