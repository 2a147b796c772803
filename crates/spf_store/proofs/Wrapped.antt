-- Wrapping on the way through sums and products changes nothing at their ends.
use Rattle.std.proofs.Common.{◌≡◌, ℕ, ◌<◌, ◌^◌, ◌%◌, ℤ, pos, ◌+ℤ◌, ◌*ℤ◌, Bool, true, false, ap, sym, ◌∙◌, arith, FitsSigned, w64, to_z, of_z}
use Rattle.std.proofs.lemmas.Int.{ints, int_wrap_fits, int_wrap-add_left, int_wrap-add_right, int_wrap-add_same, int_wrap-mul_left, int_wrap-mul_right, int_wrap-sub_right, to_z-of_z}
use Rattle.std.specs.Int.{int_wrap}
use Rattle.spf_base.specs.Wrap.{wrap}
use Rattle.spf_store.specs.Effect.{signed}
use Rattle.spf_store.proofs.Assoc.{times_assoc}

pub wrap_small : (z : ℤ) → FitsSigned w64 z → wrap z ≡ z
unfolding wrap
wrap_small z fits = int_wrap_fits w64 z fits

-- a number that fits is its own wrap, as the code has it
pub wraps_itself : (r z : ℤ) → FitsSigned w64 r → r ≡ z → to_z w64 (of_z w64 r) ≡ wrap z
wraps_itself r z fits is = to_z-of_z w64 r fits ∙ sym (wrap_small r fits) ∙ ap wrap is

pub number_wraps : (n : ℕ) → n < 2 ^ 64 → to_z w64 n ≡ wrap (pos n)
unfolding wrap int_wrap
number_wraps n fits = let small : n ≡ n % 2 ^ 64 = omega arith in ap (to_z w64) small

pub times_step : (product factor rest : ℤ) → wrap (wrap (product *ℤ wrap factor) *ℤ rest) ≡ wrap (product *ℤ (factor *ℤ rest))
unfolding wrap
times_step product factor rest =
    let regrouped : (product *ℤ factor) *ℤ rest ≡ product *ℤ (factor *ℤ rest) = times_assoc product factor rest in
    int_wrap-mul_left w64 (product *ℤ int_wrap w64 factor) rest ∙ sym (int_wrap-mul_left w64 (product *ℤ int_wrap w64 factor) rest)
    ∙ ap (λ z. int_wrap w64 (z *ℤ rest)) (int_wrap-mul_right w64 product factor) ∙ int_wrap-mul_left w64 (product *ℤ factor) rest ∙ ap (int_wrap w64) regrouped

signed_step : (sum product : ℤ) (minus : Bool) → wrap (sum +ℤ signed minus (wrap product)) ≡ wrap (sum +ℤ signed minus product)
unfolding wrap
signed_step sum product false = int_wrap-add_right w64 sum product
signed_step sum product true = int_wrap-sub_right w64 sum product

pub plus_step : (sum product rest : ℤ) (minus : Bool) → wrap (wrap (sum +ℤ signed minus (wrap product)) +ℤ rest) ≡ wrap (sum +ℤ (signed minus product +ℤ rest))
unfolding wrap
plus_step sum product rest minus =
    let regrouped : (sum +ℤ signed minus product) +ℤ rest ≡ sum +ℤ (signed minus product +ℤ rest) = omega (arith, ints) in
    int_wrap-add_left w64 (sum +ℤ signed minus (wrap product)) rest
    ∙ int_wrap-add_same w64 (sum +ℤ signed minus (wrap product)) (sum +ℤ signed minus product) rest (signed_step sum product minus) ∙ ap (int_wrap w64) regrouped
