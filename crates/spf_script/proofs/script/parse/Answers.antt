use Rattle.std.proofs.Common.{Ok, Err}
use Rattle.spf_lex.specs.declared.parts.PartFault.TheVariants.{Syntax}
use Rattle.spf_script.proofs.Scripts.{script_found}
use Rattle.spf_script.proofs.script.parse.Goals as goal

pub script_of-requires-clause-stands : goal.script_of-requires-clause-stands
script_of-requires-clause-stands c = (c.args.from, c.in-Ok.next, script_found c.args.tokens.now c.args.from (Ok (c.in-Ok.steps, c.in-Ok.next)) c.in-Ok.ensures.found)

pub returns-in-Ok : goal.returns-in-Ok
returns-in-Ok c = rw c.script_of.ensures (script_found c.args.tokens.now c.args.from (Ok (c.in-Ok.steps, c.in-Ok.next)) c.in-Ok.ensures.found)

pub returns-in-Err-Syntax : goal.returns-in-Err-Syntax
returns-in-Err-Syntax c = script_found c.args.tokens.now c.args.from (Err (Syntax c.in-Err-Syntax.place c.in-Err-Syntax.kind)) (rw c.in-Err-Syntax.field-0-is at c.in-Err-Syntax.ensures.found)
