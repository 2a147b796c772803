use Rattle.std.proofs.Common.{◌≡◌, take, fold, pos, ◌+ℤ◌}
use Rattle.spf_base.specs.Wrap.{wrap}
use Rattle.spf_reltext.specs.Resolved.{part_of}
use Rattle.spf_reltext.specs.declared.raw.RawMono.{RawMono}
use Rattle.spf_reltext.proofs.terms.constant.Given as goal

abbrev pub invariant-loop-mono : goal.invariant-loop-mono
invariant-loop-mono l = l.constant ≡ wrap (fold (λ total (mono : RawMono). total +ℤ part_of l.flips mono) (pos 0) (take l.mono-index l.mono-items))
