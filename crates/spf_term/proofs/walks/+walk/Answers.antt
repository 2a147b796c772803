use Rattle.std.proofs.Common.{rules, w64, ◌∙◌}
use Rattle.std.proofs.lemmas.Int.{to_z-of_z}
use Rattle.std.proofs.lemmas.Result.{err_from_is_err_and}
use Rattle.spf_term.specs.declared.term.Term.{out-Term, the_lemmas}
use Rattle.spf_term.proofs.WalkParts.{stopped_walk}
use Rattle.spf_term.proofs.Progress.{argument_is_small, argument_stopped, entry_accepted, entry_refused, entry_value, begun, next_is_small, next_numbered, gone_on, stopped, gone_through, sum_is_value, next_is_last}
use Rattle.spf_term.proofs.walks.+walk.Goals as goal

pub walk_atom-walk_term-requires : goal.walk_atom-walk_term-requires
walk_atom-walk_term-requires g t c κs within =
    let small = argument_is_small c.args.env.now c.args.variables.now c.args.site c.in-App.is c.requires.small in
    search (rules, the_lemmas)

pub walk_atom-returns-in_err-walked-in-App-clause-walks : goal.walk_atom-returns-in_err-walked-in-App-clause-walks
walk_atom-returns-in_err-walked-in-App-clause-walks g t c =
    stopped_walk c.walk_term.new.reader (err_from_is_err_and c.from_residual.result c.from_residual.ensures.1)
    (argument_stopped c.args.env.now c.args.variables.now c.args.site c.in-App.is c.requires.small c.in_err-walked-in-App.ensures.walks)

pub walk_atom-returns-in_err-entry-in-App-clause-walks : goal.walk_atom-returns-in_err-entry-in-App-clause-walks
walk_atom-returns-in_err-entry-in-App-clause-walks g t c =
    let place = to_z-of_z w64 c.in_ok-walked-in-App.walked.value (search rules) ∙ c.in_ok-walked-in-App.ensures.value in
    let exit = c.from_residual-in_err-entry-in-App in
    stopped_walk c.entry.new.self (err_from_is_err_and exit.result exit.ensures.1)
    (entry_refused c.args.env.now c.args.variables.now c.args.site c.in-App.is c.requires.small place g.R.Reader.accepts c.args.reader.now c.walk_term.new.reader c.in_ok-walked-in-App.ensures.walks g.R.Reader.refuses c.in_err-entry-in-App.field-0.0 c.in_err-entry-in-App.ensures)

pub walk_atom-returns-in_ok-entry-in-App-clause-walks : goal.walk_atom-returns-in_ok-entry-in-App-clause-walks
walk_atom-returns-in_ok-entry-in-App-clause-walks g t c =
    let place = to_z-of_z w64 c.in_ok-walked-in-App.walked.value (search rules) ∙ c.in_ok-walked-in-App.ensures.value in
    entry_accepted c.args.env.now c.args.variables.now c.args.site c.in-App.is c.requires.small place g.R.Reader.accepts c.args.reader.now c.walk_term.new.reader c.in_ok-walked-in-App.ensures.walks c.entry.new.self c.in_ok-entry-in-App.ensures

pub walk_atom-returns-in_ok-entry-in-App-clause-value : goal.walk_atom-returns-in_ok-entry-in-App-clause-value
walk_atom-returns-in_ok-entry-in-App-clause-value g t c =
    let place = to_z-of_z w64 c.in_ok-walked-in-App.walked.value (search rules) ∙ c.in_ok-walked-in-App.ensures.value in
    to_z-of_z w64 c.number_at-in-App.result (search rules) ∙ entry_value c.args.env.now c.args.variables.now c.args.site c.in-App.is c.requires.small place c.table.ensures c.number_at-in-App.ensures

pub walk_term-loop-mono-init : goal.walk_term-loop-mono-init
walk_term-loop-mono-init g t c =
    let constant = to_z-of_z w64 (out-Term c.args.term.now).constant (search rules) in
    begun g.R.Reader.accepts c.args.env.now c.args.variables.now c.args.site c.args.term.now c.args.reader.now c.as_slice-mono-items.ensures constant c.requires.small

pub walk_term-walk_atom-requires : goal.walk_term-walk_atom-requires
walk_term-walk_atom-requires g t c κs within =
    let small = next_is_small c.as_slice-mono-items.result.now c.loop-mono.mono-index c.loop-mono.invariant c.mono-item.result c.loop-mono-test.true c.mono-item.is in
    let numbered = next_numbered c.as_slice-mono-items.result.now c.loop-mono.mono-index c.loop-mono.invariant c.mono-item.result c.loop-mono-test.true c.mono-item.is c.requires.numbered in
    search (rules, the_lemmas)

pub walk_term-returns-in_err-walked-clause-walks : goal.walk_term-returns-in_err-walked-clause-walks
walk_term-returns-in_err-walked-clause-walks g t c =
    stopped_walk c.walk_atom.new.reader (err_from_is_err_and c.from_residual.result c.from_residual.ensures.1)
    (stopped c.as_slice-mono-items.result.now c.loop-mono.mono-index c.loop-mono.invariant c.mono-item.result c.loop-mono-test.true c.mono-item.is c.in_err-walked.ensures.walks)

pub walk_term-loop-mono-preserved : goal.walk_term-loop-mono-preserved
walk_term-loop-mono-preserved g t c =
    let coef = to_z-of_z w64 c.mono-item.result.coef (search rules) in
    let value = to_z-of_z w64 c.in_ok-walked.walked.value (search rules) in
    let product = to_z-of_z w64 c.wmul.result (search rules) in
    let sum = to_z-of_z w64 c.wadd-sum.result (search rules) in
    gone_on c.as_slice-mono-items.result.now c.loop-mono.mono-index c.loop-mono.invariant c.mono-item.result c.loop-mono-test.true c.mono-item.is
    {number = c.in_ok-walked.walked.value} c.in_ok-walked.ensures.walks c.in_ok-walked.ensures.value (cc) c.in_ok-walked.ensures.next

pub walk_term-returns-clause-walks : goal.walk_term-returns-clause-walks
walk_term-returns-clause-walks g t c = gone_through c.as_slice-mono-items.result.now c.loop-mono.mono-index c.loop-mono.invariant c.loop-mono-test.false

pub walk_term-returns-clause-value : goal.walk_term-returns-clause-value
walk_term-returns-clause-value g t c = sum_is_value c.as_slice-mono-items.result.now c.loop-mono.mono-index c.loop-mono.invariant c.loop-mono-test.false (search rules)

pub walk_term-returns-clause-next : goal.walk_term-returns-clause-next
walk_term-returns-clause-next g t c = next_is_last c.as_slice-mono-items.result.now c.loop-mono.mono-index c.loop-mono.invariant c.loop-mono-test.false
