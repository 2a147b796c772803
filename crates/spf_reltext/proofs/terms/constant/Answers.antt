use Rattle.std.proofs.Common.{arith, fold, pos, take, ◌+ℤ◌}
use Rattle.std.proofs.lemmas.Grind.{common_steps}
use Rattle.spf_reltext.specs.Resolved.{part_of}
use Rattle.spf_reltext.specs.declared.raw.RawMono.{RawMono}
use Rattle.spf_reltext.proofs.Signs.{wrap_sum, wrap_zero}
use Rattle.spf_reltext.proofs.terms.constant.Goals as goal

pub loop-mono-init : goal.loop-mono-init
loop-mono-init c = wrap_zero

pub loop-mono-preserved : goal.loop-mono-preserved
loop-mono-preserved c =
    let before = fold (λ total (mono : RawMono). total +ℤ part_of c.args.flips mono) (pos 0) (take c.loop-mono.mono-index c.as_slice-mono-items.result.now) in
    let e = wrap_sum before (part_of c.args.flips c.mono-item.result) in
    grind (arith, common_steps)
