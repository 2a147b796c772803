-- The laws of the classes' blends.
use Rattle.std.proofs.Common.{◌≡◌, ℤ, pos, ◌+ℤ◌, ◌+◌, sym, true, arith, w64}
use Rattle.std.proofs.lemmas.Int.{ints}
use Rattle.std.specs.Prelude.{FitsSigned}
use Rattle.spf_base.specs.Wrap.{IsWrap, wrap}
use Rattle.spf_base.proofs.Wraps.{IsWrap-wrap, wrap_only}
use Rattle.spf_touch.specs.Blend.{blend, neutral, is_reduction}
use Rattle.spf_touch.specs.declared.class.Class.{Class}
use Rattle.spf_touch.specs.declared.class.Class.TheVariants.{Read, Write, Add}

-- a wrap of a wrap and a third number is a wrap of the first number and the wrap of the others
regroup : (x y z xy yz w : ℤ) → IsWrap (x +ℤ y) xy → IsWrap (xy +ℤ z) w → IsWrap (y +ℤ z) yz → IsWrap (x +ℤ yz) w
regroup x y z xy yz w p q r = record {
  low = q.low;
  high = q.high;
  congruent = (
    r.congruent.1 + p.congruent.0 + q.congruent.0,
    q.congruent.1 + p.congruent.1 + r.congruent.0,
    omega (arith, ints, p.congruent.2, q.congruent.2, r.congruent.2),
  );
}

turned : (x y w : ℤ) → IsWrap (x +ℤ y) w → IsWrap (y +ℤ x) w
turned x y w p = record {
  low = p.low;
  high = p.high;
  congruent = (p.congruent.0, p.congruent.1, omega (arith, ints, p.congruent.2));
}

itself : (x : ℤ) → FitsSigned w64 x → IsWrap (pos 0 +ℤ x) x
itself x f = record { low = omega (arith, ints); high = omega (arith, ints); congruent = (0, 0, omega (arith, ints)) }

pub blend_assoc : (c : Class) (x y z : ℤ) → is_reduction c ≡ true → blend c (blend c x y) z ≡ blend c x (blend c y z)
blend_assoc Read x y z h = cc
blend_assoc Write x y z h = cc
blend_assoc Add x y z h = wrap_only _ _ (regroup x y z _ _ _ (IsWrap-wrap (x +ℤ y)) (IsWrap-wrap (wrap (x +ℤ y) +ℤ z)) (IsWrap-wrap (y +ℤ z)))

pub blend_comm : (c : Class) (x y : ℤ) → is_reduction c ≡ true → blend c x y ≡ blend c y x
blend_comm Read x y h = cc
blend_comm Write x y h = cc
blend_comm Add x y h = wrap_only _ _ (turned x y _ (IsWrap-wrap (x +ℤ y)))

pub blend-neutral : (c : Class) (x : ℤ) → is_reduction c ≡ true → FitsSigned w64 x → blend c (neutral c) x ≡ x
blend-neutral Read x h f = cc
blend-neutral Write x h f = cc
blend-neutral Add x h f = sym (wrap_only _ _ (itself x f))

pub wrap_inner : (x y : ℤ) → wrap (x +ℤ wrap y) ≡ wrap (x +ℤ y)
wrap_inner x y =
    let whole = IsWrap-wrap (x +ℤ wrap y) in
    let inner = IsWrap-wrap y in
    wrap_only (x +ℤ y) _ (record {
      low = whole.low;
      high = whole.high;
      congruent = (whole.congruent.0 + inner.congruent.0, whole.congruent.1 + inner.congruent.1, omega (arith, ints, whole.congruent.2, inner.congruent.2));
    })
