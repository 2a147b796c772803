use Rattle.std.proofs.Common.{arith}
use Rattle.std.proofs.lemmas.Grind.{common_steps}
use Rattle.spf_reltext.proofs.Signs.{wrap_pos, wrap_neg}
use Rattle.spf_reltext.proofs.terms.signed.Goals as goal

pub returns-then-minus : goal.returns-then-minus
returns-then-minus c =
    let e = wrap_neg c.args.number c.ranges.number.fits in
    grind (arith, common_steps)

pub returns-else-minus : goal.returns-else-minus
returns-else-minus c =
    let e = wrap_pos c.args.number c.ranges.number.fits in
    grind (arith, common_steps)
