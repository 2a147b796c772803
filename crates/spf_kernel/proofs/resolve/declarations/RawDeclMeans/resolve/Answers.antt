use Rattle.spf_kernel.proofs.Common.{map, arith, subst, sym, texts, All, List, RawSized, param_note, cells_notes, decl_notes, AreNames}
use Rattle.spf_kernel.proofs.resolve.declarations.RawDeclMeans.resolve.Goals as goal
use Rattle.spf_kernel.proofs.Naming.{names_each}

pub resolve_params-requires : goal.resolve_params-requires
resolve_params-requires c =
    let here = subst (λ decl. AreNames (texts c.args.source.now.tokens.now) (decl_notes decl)) c.in-Params.is c.requires in
    subst (λ names. AreNames (texts c.args.source.now.tokens.now) (map param_note names)) (sym c.as_slice.ensures) here

pub resolve_table-requires : goal.resolve_table-requires
resolve_table-requires c = subst (λ decl. AreNames (texts c.args.source.now.tokens.now) (decl_notes decl)) c.in-Index.is c.requires 0 c.in-Index.array.name (omega arith)

pub resolve_all-requires : goal.resolve_all-requires
resolve_all-requires c =
    let texts = texts c.args.source.now.tokens.now in
    let here = names_each texts cells_notes c.in-Values.arrays (subst (λ decl. AreNames texts (decl_notes decl)) c.in-Values.is c.requires) in
    subst (λ (arrays : List RawSized). All (λ array. AreNames texts (cells_notes array)) arrays) (sym c.as_slice-in-Values.ensures) here
