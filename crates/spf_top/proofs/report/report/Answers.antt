use Rattle.std.proofs.Common.{◌≡◌, ℕ, List, [], ◌++◌, subst, refl}
use Rattle.spf_top.specs.Outcome.{line_of}
use Rattle.spf_top.specs.Report.{AppendsOrFails}
use Rattle.spf_top.proofs.report.report.Goals as goal

pub returns-in-ReadFault : goal.returns-in-ReadFault
returns-in-ReadFault g c =
    let line : c.as_slice-in-ReadFault.result.now ++ [] ≡ line_of c.args.shape.now.loops c.args.outcome.now = rw (c.as_slice-in-ReadFault.ensures, c.in-ReadFault.is) refl in
    subst (λ (text : List ℕ). AppendsOrFails (g.E.Sink.written c.args.err.now) (g.E.Sink.faults c.args.err.now) text (g.E.Sink.written c.write_pieces-in-ReadFault.new.err) (g.E.Sink.faults c.write_pieces-in-ReadFault.new.err)) line
    c.write_pieces-in-ReadFault.ensures
