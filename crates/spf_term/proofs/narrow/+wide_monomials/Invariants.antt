use Rattle.std.proofs.Common.{◌≡◌, ◌+◌, ◌-◌, ◌^◌, ◌<◌, drop, map, min}
use Rattle.spf_term.specs.Bounded.{monomials}
use Rattle.spf_term.specs.Wide.{plain, plain_mono}
use Rattle.spf_term.proofs.Numbers.{list_monomials}
use Rattle.spf_term.proofs.narrow.+wide_monomials.Given as goal

abbrev pub invariant-wide_monomials-loop-mono : goal.invariant-wide_monomials-loop-mono
invariant-wide_monomials-loop-mono l = record {
  counted : min (l.count + list_monomials (map plain_mono (drop l.mono-index l.mono-items))) (2 ^ 64 - 1) ≡ min (monomials (plain l.term)) (2 ^ 64 - 1);
  fits : l.count < 2 ^ 64;
}
