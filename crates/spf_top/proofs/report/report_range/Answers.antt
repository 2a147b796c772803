use Rattle.std.proofs.Common.{◌≡◌, ℕ, List, [], ◌++◌, codes, decimal, subst, rules}
use Rattle.std.specs.Int.{w64}
use Rattle.std.proofs.lemmas.Int.{to_z-of_z}
use Rattle.std.specs.Fmt.{signed_decimal}
use Rattle.spf_top.specs.Outcome.{iteration_text}
use Rattle.spf_top.specs.Report.{AppendsOrFails}
use Rattle.spf_top.proofs.Lines.{range_line}
use Rattle.spf_top.proofs.report.report_range.Goals as goal

pub returns : goal.returns
returns g c =
    let line : c.as_slice.result.now ++ (c.args.name.now ++ (c.as_slice-2.result.now ++ (c.as_bytes.result.now ++ (c.as_slice-3.result.now ++ (c.as_bytes-2.result.now ++ (c.as_slice-4.result.now ++ (c.as_bytes-3.result.now ++ (c.as_slice-5.result.now ++ []))))))))
    ≡ codes "range: " ++ (iteration_text c.args.name.now c.args.iteration ++ (codes " site " ++ (decimal c.args.site ++ (codes " value " ++ (signed_decimal c.args.value ++ codes "\n"))))) =
    rw (c.as_slice.ensures, c.as_slice-2.ensures, c.as_slice-3.ensures, c.as_slice-4.ensures, c.as_slice-5.ensures, c.as_bytes.ensures.value, c.as_bytes-2.ensures.value, c.as_bytes-3.ensures.value, c.format.ensures.text, c.format-2.ensures.text, c.format-3.ensures.text, to_z-of_z w64 c.args.iteration (search rules), to_z-of_z w64 c.args.value (search rules))
    (range_line c.args.name.now c.args.iteration c.args.site c.args.value) in
    subst (λ (text : List ℕ). AppendsOrFails (g.E.Sink.written c.args.err.now) (g.E.Sink.faults c.args.err.now) text (g.E.Sink.written c.write_pieces.new.err) (g.E.Sink.faults c.write_pieces.new.err)) line
    c.write_pieces.ensures
