use Rattle.std.proofs.Common.{List, ℕ, map, string_bytes, ap, subst, Err}
use Rattle.spf_top.specs.Command.{AnswersInput, IsOfBytes}
use Rattle.spf_top.specs.Words.{AsksFor}
use Rattle.spf_top.specs.declared.outcome.Outcome.TheVariants.{Done, WriteFault}
use Rattle.spf_top.specs.declared.words.Asked.{Asked}
use Rattle.spf_top.proofs.Complete.{of_asked, of_whole, refusal_answers, too_many, words_accepted}
use Rattle.spf_top.proofs.commands.answer.Goals as goal

pub returns-in-Err-answer_bytes-clause-input : goal.returns-in-Err-answer_bytes-clause-input
returns-in-Err-answer_bytes-clause-input g c =
    let refused = rw c.deref.ensures.value at c.in-Err-answer_bytes.ensures.refused in
    of_whole (g.S.Source.held c.args.source.now) c.in-Ok-read_all.bytes.items c.in-Ok-read_all.ensures.whole
    (λ (bytes : List ℕ). (asked : Asked) → AsksFor (map string_bytes c.args.words.now) asked → AnswersInput asked bytes (g.K.Sink.written c.args.out.now) (g.K.Sink.written c.args.out.now) c.in-Err-answer_bytes.ended.outcome)
    (of_asked (map string_bytes c.args.words.now) c.in-Ok.asked c.in-Ok.ensures.asked
    (λ (asked : Asked). AnswersInput asked c.in-Ok-read_all.bytes.items (g.K.Sink.written c.args.out.now) (g.K.Sink.written c.args.out.now) c.in-Err-answer_bytes.ended.outcome)
    (refusal_answers c.in-Ok.asked c.in-Ok-read_all.bytes.items _ _ c.in-Err-answer_bytes.ended.outcome c.in-Err-answer_bytes.ensures.of_bytes refused))

pub returns-in-Ok-write_all-clause-input : goal.returns-in-Ok-write_all-clause-input
returns-in-Ok-write_all-clause-input g c =
    let wrote = rw c.deref.ensures.value at c.in-Ok-answer_bytes.ensures.text in
    let all = rw c.deref-2.ensures.value at c.in-Ok-write_all.ensures.all in
    rw c.without_loops-in-Ok-write_all.ensures.outcome (of_whole (g.S.Source.held c.args.source.now) c.in-Ok-read_all.bytes.items c.in-Ok-read_all.ensures.whole
    (λ (bytes : List ℕ). (asked : Asked) → AsksFor (map string_bytes c.args.words.now) asked → AnswersInput asked bytes (g.K.Sink.written c.args.out.now) (g.K.Sink.written c.write_all.new.sink) Done)
    (of_asked (map string_bytes c.args.words.now) c.in-Ok.asked c.in-Ok.ensures.asked
    (λ (asked : Asked). AnswersInput asked c.in-Ok-read_all.bytes.items (g.K.Sink.written c.args.out.now) (g.K.Sink.written c.write_all.new.sink) Done)
    (c.in-Ok-answer_bytes.text.items, wrote, all)))

pub returns-clause-input : goal.returns-clause-input
returns-clause-input g c =
    let wrote = rw c.deref.ensures.value at c.in-Ok-answer_bytes.ensures.text in
    let front = rw c.deref-2.ensures.value at c.in-Err-write_all.ensures.front in
    rw c.without_loops-in-Err-write_all.ensures.outcome (of_whole (g.S.Source.held c.args.source.now) c.in-Ok-read_all.bytes.items c.in-Ok-read_all.ensures.whole
    (λ (bytes : List ℕ). (asked : Asked) → AsksFor (map string_bytes c.args.words.now) asked → AnswersInput asked bytes (g.K.Sink.written c.args.out.now) (g.K.Sink.written c.write_all.new.sink) WriteFault)
    (of_asked (map string_bytes c.args.words.now) c.in-Ok.asked c.in-Ok.ensures.asked
    (λ (asked : Asked). AnswersInput asked c.in-Ok-read_all.bytes.items (g.K.Sink.written c.args.out.now) (g.K.Sink.written c.write_all.new.sink) WriteFault)
    (c.in-Ok-answer_bytes.text.items, wrote, front.0, front.1, front.2)))

pub returns-in-Err-TooLong-clause-input : goal.returns-in-Err-TooLong-clause-input
returns-in-Err-TooLong-clause-input g c =
    let front = c.in-Err-TooLong.ensures.too_long (ap Err c.in-Err-TooLong.field-0-is) in
    rw c.without_loops-in-Err-TooLong.ensures.outcome (too_many (map string_bytes c.args.words.now) (g.S.Source.held c.args.source.now) (g.S.Source.held c.read_all.new.source) front.0 front.1 front.2)

pub returns-in-Err-answer_bytes-clause-words : goal.returns-in-Err-answer_bytes-clause-words
returns-in-Err-answer_bytes-clause-words g c = words_accepted _ c.in-Err-answer_bytes.ended.outcome c.in-Err-answer_bytes.ensures.of_bytes (c.in-Ok.asked, c.in-Ok.ensures.asked)

pub returns-in-Err-answer_bytes-clause-unread : goal.returns-in-Err-answer_bytes-clause-unread
returns-in-Err-answer_bytes-clause-unread g c = λ word is. absurd (subst IsOfBytes is c.in-Err-answer_bytes.ensures.of_bytes)

pub returns-in-Err-answer_bytes-clause-read_fault : goal.returns-in-Err-answer_bytes-clause-read_fault
returns-in-Err-answer_bytes-clause-read_fault g c = λ is. absurd (subst IsOfBytes is c.in-Err-answer_bytes.ensures.of_bytes)
