use Rattle.spf_calc.proofs.Answering.{is_text, results_of, rule_fault}
use Rattle.spf_calc.proofs.calculation.calculate.Goals as goal

pub returns-clause-fault : goal.returns-clause-fault
returns-clause-fault c =
    let text = is_text c.args.text.now c.in_ok-tokens.tokens c.in_ok-raw.raw c.in_ok-tokens.ensures.text c.in_ok-tokens.ensures.found c.in_ok-raw.ensures.found in
    rule_fault c.args.text.now c.in_ok-raw.raw c.in-Err.fault text (rw (c.in_ok-names.ensures, c.new.ensures, c.as_slice-statements.ensures) at c.in-Err.ensures)

pub returns-in-Ok-clause-results : goal.returns-in-Ok-clause-results
returns-in-Ok-clause-results c =
    let text = is_text c.args.text.now c.in_ok-tokens.tokens c.in_ok-raw.raw c.in_ok-tokens.ensures.text c.in_ok-tokens.ensures.found c.in_ok-raw.ensures.found in
    results_of c.args.text.now c.in_ok-raw.raw c.in-Ok.end c.into_text.result.items text (rw (c.in_ok-names.ensures, c.new.ensures, c.as_slice-statements.ensures) at c.in-Ok.ensures) c.into_text.ensures
