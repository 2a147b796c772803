use Rattle.std.proofs.Common.{ℕ, ◌-◌, ◌^◌, ap, sym, ◌∙◌, arith, map, min}
use Rattle.std.proofs.Math.Nat.{zero-add}
use Rattle.spf_term.specs.Wide.{plain_mono}
use Rattle.spf_term.proofs.NarrowParts.{wide_monomials_are}
use Rattle.spf_term.proofs.Numbers.{list_monomials}
use Rattle.spf_term.proofs.narrow.+wide_monomials.Goals as goal

pub wide_monomials-loop-mono-init : goal.wide_monomials-loop-mono-init
wide_monomials-loop-mono-init t c = record {
  counted =
      ap (λ (n : ℕ). min n (2 ^ 64 - 1))
      (zero-add (list_monomials (map plain_mono c.as_slice-mono-items.result.now)) ∙ ap (λ of. list_monomials (map plain_mono of)) c.as_slice-mono-items.ensures ∙ sym (wide_monomials_are c.args.term.now));
  fits = omega arith;
}
