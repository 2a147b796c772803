use Rattle.spf_kernel.proofs.Common.{arith, DataDecl, arrays_of}
use Rattle.spf_kernel.proofs.accessors.data_name_at.Goals as goal
use Rattle.spf_kernel.proofs.Pieces.{in_piece, past_pieces}

pub returns-then-left-arrays : goal.returns-then-left-arrays
returns-then-left-arrays c =
    let e =
    in_piece arrays_of c.args.decls.now c.loop-decl.decl-index c.loop-decl.left c.args.n c.loop-decl.invariant (λ (array : DataDecl). array.name) c.decl-item.result
    c.arrays_of-arrays.result.now c.index-arrays-left.result c.loop-decl-test.true c.decl-item.is c.arrays_of-arrays.ensures c.if-left-arrays.true c.index-arrays-left.is in
    cc

pub returns : goal.returns
returns c =
    past_pieces arrays_of c.args.decls.now c.loop-decl.decl-index c.loop-decl.left c.args.n c.loop-decl.invariant (omega (arith, c.loop-decl-test.false))
