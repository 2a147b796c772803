-- Two's complement arithmetic on 64 bits, said of all integers.
use Rattle.std.specs.Prelude.{◌≡◌, ℕ, ℤ, pos, neg_ℤ, ◌+ℤ◌, ◌≤ℤ◌, ◌<ℤ◌, ◌*◌, ◌^◌}
use Rattle.std.specs.Int.{w64, int_wrap}

-- w is a number of 64 bits, and as many whole turns of 2 ^ 64 as it takes lead from z to it
pub record IsWrap (z w : ℤ) : Type 0 where
  pub low : neg_ℤ (pos (2 ^ 63)) ≤ℤ w
  pub high : w <ℤ pos (2 ^ 63)
  pub congruent : (m : ℕ) × (n : ℕ) × (z +ℤ pos (m * 2 ^ 64) ≡ w +ℤ pos (n * 2 ^ 64))

-- the number of 64 bits that is congruent to z modulo 2 ^ 64
unfoldable pub wrap : ℤ → ℤ
wrap z = int_wrap w64 z
