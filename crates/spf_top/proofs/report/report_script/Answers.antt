use Rattle.std.proofs.Common.{◌≡◌, ℕ, List, [], ◌++◌, codes, decimal, subst, refl}
use Rattle.spf_top.specs.Report.{AppendsOrFails}
use Rattle.spf_top.proofs.report.report_script.Goals as goal

pub returns : goal.returns
returns g c =
    let line : c.as_slice.result.now ++ (c.as_bytes.result.now ++ (c.as_slice-2.result.now ++ (c.as_bytes-2.result.now ++ (c.as_slice-3.result.now ++ []))))
    ≡ codes "script: step " ++ (decimal c.args.step ++ (codes " rule " ++ (decimal c.args.rule ++ codes "\n"))) =
    rw (c.as_slice.ensures, c.as_slice-2.ensures, c.as_slice-3.ensures, c.as_bytes.ensures.value, c.as_bytes-2.ensures.value, c.format.ensures.text, c.format-2.ensures.text) refl in
    subst (λ (text : List ℕ). AppendsOrFails (g.E.Sink.written c.args.err.now) (g.E.Sink.faults c.args.err.now) text (g.E.Sink.written c.write_pieces.new.err) (g.E.Sink.faults c.write_pieces.new.err)) line
    c.write_pieces.ensures
