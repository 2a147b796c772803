use Rattle.std.proofs.Common.{◌≡◌, ℕ, pos, ◌+ℤ◌, List, [], ◌++◌, codes, decimal, ap, ◌∙◌, subst, rules}
use Rattle.std.specs.Int.{w64}
use Rattle.std.proofs.lemmas.Int.{to_z-of_z}
use Rattle.spf_space.specs.declared.shape.LoopShape.{LoopShape}
use Rattle.spf_top.specs.Outcome.{iteration_text, loop_at}
use Rattle.spf_top.specs.Report.{AppendsOrFails}
use Rattle.spf_top.proofs.Lines.{illegal_line}
use Rattle.spf_top.proofs.report.report_illegal.Goals as goal

pub returns : goal.returns
returns g c =
    let loops = c.args.shape.now.loops in
    let p = c.args.p.now in
    let q = c.args.q.now in
    let name : c.name_of.result.now ≡ (loop_at loops p.loop_no).name = c.name_of.ensures ∙ ap (λ (of : List LoopShape). (loop_at of p.loop_no).name) c.as_slice-loops.ensures in
    let name' : c.name_of-2.result.now ≡ (loop_at loops q.loop_no).name = c.name_of-2.ensures ∙ ap (λ (of : List LoopShape). (loop_at of q.loop_no).name) c.as_slice-loops.ensures in
    let first : c.iteration_at-first.result ≡ (loop_at loops p.loop_no).lower +ℤ pos p.position = c.iteration_at-first.ensures ∙ ap (λ (of : List LoopShape). (loop_at of p.loop_no).lower +ℤ pos p.position) c.as_slice-loops.ensures in
    let second : c.iteration_at-second.result ≡ (loop_at loops q.loop_no).lower +ℤ pos q.position = c.iteration_at-second.ensures ∙ ap (λ (of : List LoopShape). (loop_at of q.loop_no).lower +ℤ pos q.position) c.as_slice-loops.ensures in
    let pieces : c.as_slice.result.now ++ (c.as_bytes.result.now ++ (c.as_slice-2.result.now ++ (c.as_bytes-2.result.now ++ (c.as_slice-3.result.now ++ (c.name_of.result.now ++ (c.as_slice-4.result.now ++ (c.as_bytes-3.result.now
    ++ (c.as_slice-5.result.now ++ (c.as_bytes-4.result.now ++ (c.as_slice-6.result.now ++ (c.name_of-2.result.now ++ (c.as_slice-7.result.now ++ (c.as_bytes-5.result.now ++ (c.as_slice-8.result.now ++ []))))))))))))))
    ≡ codes "illegal: step " ++ (decimal c.args.step ++ (codes " reverses " ++ ((decimal p.step ++ (codes " " ++ iteration_text c.name_of.result.now c.iteration_at-first.result))
    ++ (codes " and " ++ ((decimal q.step ++ (codes " " ++ iteration_text c.name_of-2.result.now c.iteration_at-second.result)) ++ codes "\n"))))) =
    rw (
      c.as_slice.ensures,
      c.as_slice-2.ensures,
      c.as_slice-3.ensures,
      c.as_slice-4.ensures,
      c.as_slice-5.ensures,
      c.as_slice-6.ensures,
      c.as_slice-7.ensures,
      c.as_slice-8.ensures,
      c.as_bytes.ensures.value,
      c.as_bytes-2.ensures.value,
      c.as_bytes-3.ensures.value,
      c.as_bytes-4.ensures.value,
      c.as_bytes-5.ensures.value,
      c.format.ensures.text,
      c.format-2.ensures.text,
      c.format-3.ensures.text,
      c.format-4.ensures.text,
      c.format-5.ensures.text,
      to_z-of_z w64 c.iteration_at-first.result (search rules),
      to_z-of_z w64 c.iteration_at-second.result (search rules),
    )
    (illegal_line c.args.step p.step c.name_of.result.now c.iteration_at-first.result q.step c.name_of-2.result.now c.iteration_at-second.result) in
    let line = pieces ∙ λ i. codes "illegal: step " ++ (decimal c.args.step ++ (codes " reverses " ++ ((decimal p.step ++ (codes " " ++ iteration_text (name i) (first i)))
    ++ (codes " and " ++ ((decimal q.step ++ (codes " " ++ iteration_text (name' i) (second i))) ++ codes "\n"))))) in
    subst (λ (text : List ℕ). AppendsOrFails (g.E.Sink.written c.args.err.now) (g.E.Sink.faults c.args.err.now) text (g.E.Sink.written c.write_pieces.new.err) (g.E.Sink.faults c.write_pieces.new.err)) line
    c.write_pieces.ensures
