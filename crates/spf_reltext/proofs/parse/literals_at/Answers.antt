use Rattle.spf_reltext.proofs.LiteralTexts.{literals_read, literals_fault, tested_read}
use Rattle.spf_reltext.proofs.parse.literals_at.Goals as goal

pub returns-in-Ok : goal.returns-in-Ok
returns-in-Ok c =
    tested_read c.args.tokens.now c.args.from c.args.wanted c.in-Ok.literals c.in-Ok.next c.tested.result
    (literals_read c.args.tokens.now c.args.from c.in-Ok.literals c.in-Ok.next c.in-Ok.ensures.found) c.tested.ensures

pub returns-in-Err : goal.returns-in-Err
returns-in-Err c = rw c.fault_of.ensures (literals_fault c.args.tokens.now c.args.from c.args.wanted c.in-Err.fault c.in-Err.ensures.found)
