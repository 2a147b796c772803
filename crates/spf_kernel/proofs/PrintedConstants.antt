-- A constant of an index expression is printed as few numbers whose sum it is, and no fewer would do.
use Rattle.spf_kernel.proofs.Common.{◌≡◌, ℕ, ℤ, pos, ◌+ℤ◌, ◌+◌, ◌*◌, ◌/◌, ◌%◌, ◌<◌, ◌≤◌, ◌^◌, suc, zero, Bool, true, false, List, [], ◌∷◌, length, replicate, unsigned_abs, refl, sym, ◌∙◌, arith, w64, true≢false, length-append, ◌==◌, if◌then◌else◌, is_negative, AllByRecursion, ints, nat_tests, sum_by-append, sum_by-cons, join_each, limit, pieces, fits, negsuc, sum, int_wrap_fits, fits_signed_from_abs, length-replicate, sum_by-replicate, wrap, signed, ◌-◌, nat_lt, min, ◌++◌, All, All-from_recursion, recursion_from_All}
use Rattle.std.proofs.lemmas.Nat.{div-add-mod'}
use Rattle.spf_base.proofs.Wraps.{IsWrap-wrap, wrap_only}

-- ---- numbers of 64 bits

pub wrap_small : (z : ℤ) → unsigned_abs z < 2 ^ 63 → wrap z ≡ z
unfolding wrap
wrap_small z small = int_wrap_fits w64 z (fits_signed_from_abs w64 z small)

-- to wrap makes no number larger
pub wrap_no_larger : (z : ℤ) → unsigned_abs (wrap z) ≤ unsigned_abs z
wrap_no_larger z = let w = IsWrap-wrap z in omega (arith, ints, w.low, w.high, w.congruent.2)

pub wrap_twice : (z : ℤ) → wrap (wrap z) ≡ wrap z
wrap_twice z = let w = IsWrap-wrap z in sym (wrap_only (wrap z) (wrap z) (record { low = w.low; high = w.high; congruent = (0, 0, refl) }))

-- ---- a number and its sign

pub signed_back : (c : ℤ) → signed (is_negative c) (unsigned_abs c) ≡ c
signed_back (pos n) = by (is_negative (pos n)) (grind (arith, nat_tests)) where
  by : (minus : Bool) → minus ≡ false → signed minus n ≡ pos n
  by true e = absurd (true≢false e)
  by false e = refl
signed_back (negsuc n) = refl

pub signed_size : (minus : Bool) (n : ℕ) → unsigned_abs (signed minus n) ≡ n
signed_size true n = omega (arith, ints)
signed_size false n = omega (arith, ints)

pub signed_sum : (minus : Bool) (a b : ℕ) → signed minus (a + b) ≡ signed minus a +ℤ signed minus b
signed_sum true a b = omega (arith, ints)
signed_sum false a b = omega (arith, ints)

-- ---- pieces

pub first_sum : (n : ℕ) (ns : List ℕ) → sum (n ∷ ns) ≡ n + sum ns
first_sum n ns = sum_by-cons (λ (x : ℕ). x) n ns

-- the number is within the limit
abbrev pub IsPiece : ℕ → Type 0
IsPiece n = n ≤ limit

limits_small : (k : ℕ) → AllByRecursion IsPiece (replicate k limit)
limits_small zero = tt
limits_small (suc k) = (omega arith, limits_small k)

-- what is left behind the largest pieces
abbrev left_over : Bool → ℕ → List ℕ
left_over none n = if none then [] else n ∷ []

left_sum : (none : Bool) (n : ℕ) → (n == 0) ≡ none → sum (left_over none n) ≡ n
left_sum true n e = grind (arith, nat_tests)
left_sum false n e = omega arith

left_small : (none : Bool) (n : ℕ) → n ≤ limit → AllByRecursion IsPiece (left_over none n)
left_small true n small = tt
left_small false n small = (small, tt)

left_few : (none : Bool) (n d k : ℕ) → (n == 0) ≡ none → d * limit + n ≤ k * limit → d + length (left_over none n) ≤ k
left_few true n d k e fits = omega arith
left_few false n d k e fits =
    let some : 0 < n = grind (arith, nat_tests) in
    omega arith

pub pieces_sum : (n : ℕ) → sum (pieces n) ≡ n
pieces_sum n =
    sum_by-append (λ (x : ℕ). x) (replicate (n / limit) limit) (left_over (n % limit == 0) (n % limit))
    ∙ omega (arith, sum_by-replicate (λ (x : ℕ). x) (n / limit) limit, left_sum (n % limit == 0) (n % limit) refl, div-add-mod' n limit)

pub pieces_small : (n : ℕ) → AllByRecursion IsPiece (pieces n)
pieces_small n =
    join_each IsPiece (replicate (n / limit) limit) (left_over (n % limit == 0) (n % limit)) (limits_small (n / limit)) (left_small (n % limit == 0) (n % limit) (omega arith))

-- a number that is the sum of k numbers within the limit falls into at most k pieces
pub pieces_few : (n k : ℕ) → n ≤ k * limit → length (pieces n) ≤ k
pieces_few n k fits =
    let few = left_few (n % limit == 0) (n % limit) (n / limit) k refl (omega (arith, div-add-mod' n limit)) in
    omega (arith, length-append (replicate (n / limit) limit) (left_over (n % limit == 0) (n % limit)), length-replicate (n / limit) limit, few)

pub pieces_within : (n : ℕ) → All (λ piece. piece ≤ limit) (pieces n)
pieces_within n = All-from_recursion IsPiece (pieces n) (pieces_small n)

sum_within : (ns : List ℕ) → AllByRecursion IsPiece ns → sum ns ≤ length ns * limit
sum_within [] each = omega arith
sum_within (n ∷ ns) each = omega (arith, first_sum n ns, each.0, sum_within ns each.1)

pub pieces_fewest : (ns : List ℕ) → All (λ number. number ≤ limit) ns → length (pieces (sum ns)) ≤ length ns
pieces_fewest ns each = pieces_few (sum ns) (length ns) (sum_within ns (recursion_from_All IsPiece ns each))

-- so many of the largest pieces, and one of what is left
abbrev parts : ℕ → ℕ → List ℕ
parts largest left = replicate largest limit ++ (if left == 0 then [] else left ∷ [])

none_or_one : (none : Bool) (n : ℕ) → (n == 0) ≡ none → 0 < n → (if none then [] else n ∷ []) ≡ n ∷ []
none_or_one true n e some = absurd (grind (arith, nat_tests))
none_or_one false n e some = refl

one_piece : (n : ℕ) → 0 < n → n < limit → min n limit ∷ pieces (n - limit) ≡ pieces n
one_piece n some small =
    let first : min n limit ≡ n = omega arith in
    let rest : n - limit ≡ 0 = omega arith in
    let largest : n / limit ≡ 0 = omega arith in
    let left : n % limit ≡ n = omega arith in
    (λ i. first i ∷ pieces (rest i)) ∙ (sym (none_or_one (n == 0) n refl some) ∙ (λ i. parts (sym largest i) (sym left i)))

more_pieces : (n : ℕ) → limit ≤ n → min n limit ∷ pieces (n - limit) ≡ pieces n
more_pieces n large =
    let first : min n limit ≡ limit = omega arith in
    let largest : n / limit ≡ suc ((n - limit) / limit) = omega arith in
    let left : n % limit ≡ (n - limit) % limit = omega arith in
    (λ i. first i ∷ pieces (n - limit)) ∙ (λ i. parts (sym largest i) (sym left i))

-- a first piece in front of those of the rest
pub pieces_alone : (n : ℕ) → 0 < n → min n limit ∷ pieces (n - limit) ≡ pieces n
pieces_alone n some = by (nat_lt n limit) refl where
  by : (b : Bool) → nat_lt n limit ≡ b → min n limit ∷ pieces (n - limit) ≡ pieces n
  by true e = one_piece n some (grind (arith, nat_tests))
  by false e = more_pieces n (grind (arith, nat_tests))
