-- Numbers of 64 bits with a sign in front of them, and their sums.
use Rattle.spf_kernel.proofs.Common.{◌≡◌, ℕ, ℤ, pos, ◌+ℤ◌, ◌<◌, ◌^◌, ◌%◌, arith, w64, sym, ap, ◌∙◌, ints, neg_ℤ, ◌-ℤ◌, int_wrap-add_left, int_wrap-add_right, int_wrap-sub_right, cast_signed, int_wrap, wrap}

pub wrap_pos : (n : ℕ) → n < 2 ^ 64 → cast_signed w64 n ≡ wrap (pos n)
unfolding wrap int_wrap
wrap_pos n h =
    let e : n % 2 ^ 64 ≡ n = omega arith in
    ap (cast_signed w64) (sym e)

pub wrap_zero : pos 0 ≡ wrap (pos 0)
wrap_zero = wrap_pos 0 (omega arith)

pub wrap_neg : (n : ℕ) → n < 2 ^ 64 → wrap (pos 0 -ℤ cast_signed w64 n) ≡ wrap (neg_ℤ (pos n))
unfolding wrap
wrap_neg n h = ap (λ z. int_wrap w64 (pos 0 -ℤ z)) (wrap_pos n h) ∙ int_wrap-sub_right w64 (pos 0) (pos n) ∙ ap (int_wrap w64) (omega (arith, ints))

pub wrap_sum : (a b : ℤ) → wrap (wrap a +ℤ wrap b) ≡ wrap (a +ℤ b)
unfolding wrap
wrap_sum a b = int_wrap-add_left w64 a (int_wrap w64 b) ∙ int_wrap-add_right w64 a b
