use Rattle.spf_kernel.proofs.Common.{List, All, flat_map, ◌++◌, subst, sym, texts, RawDecl, RawLoop, decl_notes, head_notes, AreNames, kernel_notes, loop_notes}
use Rattle.spf_kernel.proofs.resolve.resolve.Goals as goal
use Rattle.spf_kernel.proofs.Naming.{names_each, names_left, names_right}

pub resolve_all-requires : goal.resolve_all-requires
unfolding kernel_notes
resolve_all-requires c =
    let texts = texts c.args.source.now.tokens.now in
    let kernel = c.args.kernel.now in
    let front = names_left texts (flat_map decl_notes kernel.decls ++ head_notes kernel.steps) (flat_map loop_notes kernel.loops) c.requires in
    let here = names_each texts decl_notes kernel.decls (names_left texts (flat_map decl_notes kernel.decls) (head_notes kernel.steps) front) in
    subst (λ (decls : List RawDecl). All (λ decl. AreNames texts (decl_notes decl)) decls) (sym c.as_slice.ensures) here

pub resolve_all-requires-2 : goal.resolve_all-requires-2
unfolding kernel_notes
resolve_all-requires-2 c =
    let texts = texts c.args.source.now.tokens.now in
    let kernel = c.args.kernel.now in
    let here = names_each texts loop_notes kernel.loops (names_right texts (flat_map decl_notes kernel.decls ++ head_notes kernel.steps) (flat_map loop_notes kernel.loops) c.requires) in
    subst (λ (loops : List RawLoop). All (λ each. AreNames texts (loop_notes each)) loops) (sym c.as_slice-2.ensures) here
