use Rattle.spf_top.proofs.Pieces.{failed_front}
use Rattle.spf_top.proofs.report.write_pieces.Goals as goal

pub returns-in-Err : goal.returns-in-Err
returns-in-Err g c =
    let front = c.in-Err.ensures.front in
    failed_front c.args.pieces.now c.loop-piece.piece-index _ (g.E.Sink.written c.args.err.now) (g.E.Sink.written c.loop-piece.err) (g.E.Sink.written c.write_all.new.sink)
    (g.E.Sink.faults c.args.err.now) (g.E.Sink.faults c.loop-piece.err) (g.E.Sink.faults c.write_all.new.sink) front.0 c.loop-piece-test.true c.loop-piece.invariant.so_far c.loop-piece.invariant.faults
    front.1 front.2 c.in-Err.ensures.fault
