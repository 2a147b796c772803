use Rattle.spf_kernel.proofs.Common.{Sort, ◌∷◌, ◌++◌, arith, flat_map, subst, sym, texts, Declared, Variable, note, bound_notes, item_notes, AreNames, nothing}
use Rattle.spf_kernel.proofs.resolve.loops.RawLoopMeans.resolve.Goals as goal
use Rattle.spf_kernel.proofs.Naming.{names_right}

pub resolve_name-requires : goal.resolve_name-requires
unfolding Rattle.spf_kernel.specs.Notes.loop_notes
resolve_name-requires c = c.requires 0 c.args.self.now.name (omega arith)

pub resolve_name-requires-2 : goal.resolve_name-requires-2
unfolding Rattle.spf_kernel.specs.Notes.loop_notes
resolve_name-requires-2 c = c.requires 1 c.args.self.now.name (omega arith)

pub resolve_items-requires : goal.resolve_items-requires
unfolding Rattle.spf_kernel.specs.Notes.loop_notes
resolve_items-requires c =
    let range = c.args.self.now.range in
    let front = note c.args.self.now.name (Declared Sort.Loop) nothing ∷ note range.var Variable nothing ∷ bound_notes range.low ++ bound_notes range.high in
    let here = names_right (texts c.args.source.now.tokens.now) front (flat_map (item_notes range.var) c.args.self.now.items) c.requires in
    subst (λ items. AreNames (texts c.args.source.now.tokens.now) (flat_map (item_notes range.var) items)) (sym c.as_slice.ensures) here
