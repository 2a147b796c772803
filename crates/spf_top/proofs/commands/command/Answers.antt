use Rattle.std.proofs.Common.{map, string_bytes}
use Rattle.spf_io.specs.Stream.{Rose}
use Rattle.spf_top.proofs.Complete.{completes}
use Rattle.spf_top.proofs.commands.command.Goals as goal

pub returns-clause-complete : goal.returns-clause-complete
returns-clause-complete g c asked asks =
    let said = c.answer-ended.ensures in
    completes (record { resolve = c.one_resolve_answer.ensures; plan = c.one_plan_answer.ensures; calculation = c.one_calculation.ensures }) asked (map string_bytes c.args.words.now) (g.S.Source.held c.args.source.now) (g.K.Sink.written c.args.out.now) (g.K.Sink.written c.answer-ended.new.out)
    (Rose (g.S.Source.faults c.args.source.now) (g.S.Source.faults c.answer-ended.new.source)) (Rose (g.K.Sink.faults c.args.out.now) (g.K.Sink.faults c.answer-ended.new.out))
    c.answer-ended.result.outcome said.words said.input said.read_fault said.write_fault asks
