-- Wrapping to 64 bits: `wrap` is in range and congruent, and it is the only number that is.
use Rattle.std.proofs.Common.{◌≡◌, ℕ, ℤ, pos, negsuc, ◌+ℤ◌, ◌+◌, ◌-◌, ◌*◌, ◌/◌, ◌%◌, ◌<◌, ◌≤◌, ◌^◌, inl, inr, suc, arith, w64, to_z}
use Rattle.std.proofs.lemmas.Int.{ints}
use Rattle.std.proofs.lemmas.Bool.{cases_lt}
use Rattle.std.proofs.lemmas.Bool.Decides.{nat_tests}
use Rattle.std.specs.Int.{int_wrap}
use Rattle.spf_base.specs.Wrap.{IsWrap, wrap}

-- from 2 ^ 63 on a remainder is read as a negative number
reads_negative : (r : ℕ) → 2 ^ 63 ≤ r → to_z w64 r ≡ negsuc (2 ^ 64 - suc r)
reads_negative r h = grind (arith, nat_tests)

-- a remainder of 2 ^ 64 is read as itself, or as a whole turn less
reads_back : (r : ℕ) → r < 2 ^ 64 → (n : ℕ) × (pos r ≡ to_z w64 r +ℤ pos (n * 2 ^ 64))
reads_back r h = elim (cases_lt r (2 ^ 63)) [ inl small ↦ (0, omega (arith, ints)) | inr large ↦ (1, rw (reads_negative r large) (omega (arith, ints))) ]

-- what is a remainder of 2 ^ 64 and whole turns is congruent to it
from_remainder : (z : ℤ) (r m n : ℕ) → r < 2 ^ 64 → z +ℤ pos (m * 2 ^ 64) ≡ pos (r + n * 2 ^ 64) → IsWrap z (to_z w64 r)
from_remainder z r m n h e = record {
  low = omega (arith, ints);
  high = omega (arith, ints);
  congruent = (m, n + (reads_back r h).0, omega (arith, ints, (reads_back r h).1));
}

pub IsWrap-wrap : (z : ℤ) → IsWrap z (wrap z)
unfolding wrap int_wrap
IsWrap-wrap (pos a) = from_remainder (pos a) (a % 2 ^ 64) 0 (a / 2 ^ 64) (omega arith) (omega (arith, ints))
IsWrap-wrap (negsuc a) = from_remainder (negsuc a) (2 ^ 64 - 1 - a % 2 ^ 64) (a / 2 ^ 64 + 1) 0 (omega arith) (omega (arith, ints))

same_wrap : (z v w : ℤ) → IsWrap z v → IsWrap z w → v ≡ w
same_wrap z v w p q = omega (arith, ints, p.congruent.2, q.congruent.2)

pub wrap_only : (z w : ℤ) → IsWrap z w → w ≡ wrap z
wrap_only z w h = same_wrap z w (wrap z) h (IsWrap-wrap z)
