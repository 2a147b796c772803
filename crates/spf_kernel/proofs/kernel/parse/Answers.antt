use Rattle.spf_kernel.proofs.Common.{Ok, Err}
use Rattle.spf_lex.specs.declared.parts.PartFault.TheVariants.{Syntax}
use Rattle.spf_kernel.proofs.kernel.parse.Goals as goal
use Rattle.spf_kernel.proofs.OneKernel.{finds_kernel}
use Rattle.spf_kernel.proofs.Parsing.{parses, rule_fault}

pub judge-requires-clause-stands : goal.judge-requires-clause-stands
judge-requires-clause-stands c = (c.args.from, c.in-Ok.found.1, finds_kernel c.args.tokens.now c.args.from (Ok c.in-Ok.found) c.in-Ok.ensures.found)

pub returns-in-Ok-judge : goal.returns-in-Ok-judge
returns-in-Ok-judge c =
    let stands = finds_kernel c.args.tokens.now c.args.from (Ok c.in-Ok.found) c.in-Ok.ensures.found in
    parses c.args.tokens.now c.args.from c.in-Ok.found.1 c.in-Ok.found.0 stands c.in-Ok-judge.kernel c.in-Ok-judge.ensures

pub returns-in-Err-Rule : goal.returns-in-Err-Rule
returns-in-Err-Rule c =
    let stands = finds_kernel c.args.tokens.now c.args.from (Ok c.in-Ok.found) c.in-Ok.ensures.found in
    rule_fault c.args.tokens.now c.args.from c.in-Ok.found.1 c.in-Ok.found.0 stands c.in-Err-Rule.place c.in-Err-Rule.rule (rw c.in-Err-Rule.field-0-is at c.in-Err-Rule.ensures)

pub returns-in-Err-Syntax : goal.returns-in-Err-Syntax
returns-in-Err-Syntax c =
    rw c.in-Err-Syntax.field-0-is
    (finds_kernel c.args.tokens.now c.args.from (Err (Syntax c.in-Err-Syntax.place c.in-Err-Syntax.kind)) (rw c.in-Err-Syntax.field-0-is at c.in-Err-Syntax.ensures.found))
