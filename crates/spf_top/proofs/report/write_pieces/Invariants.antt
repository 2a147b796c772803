use Rattle.std.proofs.Common.{take, ◌≤◌}
use Rattle.std.specs.Prelude.{flat_map}
use Rattle.spf_io.specs.Stream.{Appends}
use Rattle.spf_top.proofs.report.write_pieces.Given as goal

abbrev pub invariant-loop-piece : goal.invariant-loop-piece
invariant-loop-piece g l = record {
  so_far : Appends (g.E.Sink.written l.fn.err) (flat_map (λ piece. piece.now) (take l.piece-index l.pieces)) (g.E.Sink.written l.err);
  faults : g.E.Sink.faults l.fn.err ≤ g.E.Sink.faults l.err;
}
