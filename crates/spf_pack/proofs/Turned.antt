-- The inverse of a permutation has its elements by where they go.
use Rattle.std.proofs.Common.{◌≡◌, ℕ, ◌<◌, List, length, sym, ap, ◌∙◌, eqb, arith}
use Rattle.std.proofs.lemmas.Bool.{eq-eqb, ne_eqb}
use Rattle.std.proofs.lemmas.Grind.{same_number_lists}
use Rattle.std.proofs.lemmas.List.FromFn.{get_or-map-range_with_len, length-map-range_with_len}
use Rattle.std.proofs.lemmas.List.Sums.{position_or_len_is}
use Rattle.std.specs.List.{position_or_len}
use Rattle.spf_perm.specs.Perm.{AreInverse, IsPerm, at}
use Rattle.spf_pack.specs.FirstTouch.{in_turn}

pub flipped : (perm back : List ℕ) → AreInverse perm back → AreInverse back perm
flipped perm back inverse = record {
  lengths = sym inverse.lengths;
  returns = λ e lt. inverse.reaches e (omega (arith, inverse.lengths));
  reaches = λ e lt. inverse.returns e (omega (arith, inverse.lengths));
}

pub inverse_in_turn : (perm back : List ℕ) → IsPerm back → AreInverse perm back → back ≡ in_turn perm
inverse_in_turn perm back is inverse =
    same_number_lists back (in_turn perm) (inverse.lengths ∙ sym (length-map-range_with_len (λ position. position_or_len (eqb position) perm) 0 (length perm))) (λ k lt.
    let inside : k < length perm = omega (arith, inverse.lengths) in
    sym (get_or-map-range_with_len (λ position. position_or_len (eqb position) perm) 0 (length perm) k k 0 inside (omega arith) ∙ stands k inside))
  where
    stands : (k : ℕ) → k < length perm → position_or_len (eqb k) perm ≡ at back k
    stands k lt =
        let there : at back k < length perm = omega (arith, is.below k (omega (arith, inverse.lengths)), inverse.lengths) in
        position_or_len_is (eqb k) perm (at back k) 0 (omega arith) (λ j before. ne_eqb k (at perm j) (λ same.
        let e : at back k ≡ j = ap (at back) same ∙ inverse.returns j (omega arith) in omega arith)) (λ inside. eq-eqb k (at perm (at back k)) (sym (inverse.reaches k lt)))

-- a permutation has one inverse
pub one_inverse : (perm a b : List ℕ) → IsPerm a → AreInverse perm a → AreInverse perm b → a ≡ b
one_inverse perm a b is is_a is_b = same_number_lists a b (is_a.lengths ∙ sym is_b.lengths) (λ k lt.
    let inside : at a k < length perm = omega (arith, is.below k lt, is_a.lengths) in
    sym (is_b.returns (at a k) inside) ∙ ap (at b) (is_a.reaches k (omega (arith, is_a.lengths))))

pub length-in_turn : (perm : List ℕ) → length (in_turn perm) ≡ length perm
length-in_turn perm = length-map-range_with_len (λ position. position_or_len (eqb position) perm) 0 (length perm)
