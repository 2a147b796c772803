-- Products of integers may be regrouped.
use Rattle.std.proofs.Common.{◌≡◌, ℕ, zero, suc, ◌*◌, ℤ, pos, negsuc, neg_ℤ, ◌*ℤ◌, ap, sym, ◌∙◌}
use Rattle.std.proofs.Math.IntN.{*ℤ-zero, *ℤ_comm, *ℤ-negsuc, neg_ℤ-neg_ℤ, pos-*ℤ-pos}
use Rattle.std.proofs.Math.Nat.{mul_assoc}

times_neg : (a b : ℤ) → a *ℤ neg_ℤ b ≡ neg_ℤ (a *ℤ b)
times_neg a (pos zero) = *ℤ-zero a ∙ ap neg_ℤ (sym (*ℤ-zero a))
times_neg a (pos (suc n)) = *ℤ-negsuc a n
times_neg a (negsuc n) = sym (neg_ℤ-neg_ℤ (a *ℤ pos (suc n))) ∙ ap neg_ℤ (sym (*ℤ-negsuc a n))

neg_times : (a b : ℤ) → neg_ℤ a *ℤ b ≡ neg_ℤ (a *ℤ b)
neg_times a b = *ℤ_comm (neg_ℤ a) b ∙ times_neg b a ∙ ap neg_ℤ (*ℤ_comm b a)

-- of positive numbers, and then of any last, middle and first one
of_positive : (a b c : ℕ) → (pos a *ℤ pos b) *ℤ pos c ≡ pos a *ℤ (pos b *ℤ pos c)
of_positive a b c =
    ap (λ z. z *ℤ pos c) (pos-*ℤ-pos a b) ∙ pos-*ℤ-pos (a * b) c ∙ ap pos (mul_assoc a b c)
    ∙ sym (ap (λ z. pos a *ℤ z) (pos-*ℤ-pos b c) ∙ pos-*ℤ-pos a (b * c))

any_last : (a b : ℕ) (z : ℤ) → (pos a *ℤ pos b) *ℤ z ≡ pos a *ℤ (pos b *ℤ z)
any_last a b (pos c) = of_positive a b c
any_last a b (negsuc c) =
    let z = pos (suc c) in
    times_neg (pos a *ℤ pos b) z ∙ ap neg_ℤ (of_positive a b (suc c)) ∙ sym (ap (λ y. pos a *ℤ y) (times_neg (pos b) z) ∙ times_neg (pos a) (pos b *ℤ z))

any_middle : (a : ℕ) (y z : ℤ) → (pos a *ℤ y) *ℤ z ≡ pos a *ℤ (y *ℤ z)
any_middle a (pos b) z = any_last a b z
any_middle a (negsuc b) z =
    let y = pos (suc b) in
    ap (λ x. x *ℤ z) (times_neg (pos a) y) ∙ neg_times (pos a *ℤ y) z ∙ ap neg_ℤ (any_last a (suc b) z) ∙ sym (ap (λ x. pos a *ℤ x) (neg_times y z) ∙ times_neg (pos a) (y *ℤ z))

pub times_assoc : (x y z : ℤ) → (x *ℤ y) *ℤ z ≡ x *ℤ (y *ℤ z)
times_assoc (pos a) y z = any_middle a y z
times_assoc (negsuc a) y z =
    let x = pos (suc a) in
    ap (λ w. w *ℤ z) (neg_times x y) ∙ neg_times (x *ℤ y) z ∙ ap neg_ℤ (any_middle (suc a) y z) ∙ sym (neg_times x (y *ℤ z))
