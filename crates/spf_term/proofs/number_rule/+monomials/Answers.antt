use Rattle.std.proofs.Common.{ℕ, ◌-◌, ◌^◌, ap, sym, ◌∙◌, arith, min}
use Rattle.std.proofs.Math.Nat.{zero-add}
use Rattle.spf_term.specs.Bounded.{monomials}
use Rattle.spf_term.proofs.Numbers.{all_counted, list_monomials, monomials_are}
use Rattle.spf_term.proofs.number_rule.+monomials.Goals as goal

pub monomials-loop-mono-init : goal.monomials-loop-mono-init
monomials-loop-mono-init t c = record {
  counted = ap (λ (n : ℕ). min n (2 ^ 64 - 1)) (zero-add (list_monomials c.as_slice-mono-items.result.now) ∙ ap list_monomials c.as_slice-mono-items.ensures ∙ sym (monomials_are c.args.term.now));
  fits = omega arith;
}

pub monomials-returns : goal.monomials-returns
monomials-returns t c = all_counted c.as_slice-mono-items.result.now c.loop-mono.mono-index c.loop-mono.count (monomials c.args.term.now) c.loop-mono-test.false c.loop-mono.invariant.fits c.loop-mono.invariant.counted
