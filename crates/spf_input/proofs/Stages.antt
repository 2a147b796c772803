-- Stages that have one answer have one when they stand one behind the other.
use Rattle.std.proofs.Common.{◌≡◌, Result, Ok, Err, refl, ap, subst, inl, inr}
use Rattle.std.specs.Prelude.{◌⊎◌}
use Rattle.spf_input.specs.Stage.{◌then◌, OneAnswer}

module _ {R A B C : Type 0} (free : R) (p : A → Result B R → Type 0) (q : B → Result C R → Type 0) (one : OneAnswer free p) (two : OneAnswer free q) where
  same : (x y : B) (result : Result B R) → result ≡ Ok y → (result ≡ Ok x) ⊎ (result ≡ Err free) → y ≡ x
  same x y result is (inl e) = cc
  same x y result is (inr e) = absurd cc

  refused : (x : B) (refusal : R) (result : Result B R) → result ≡ Err refusal → (result ≡ Ok x) ⊎ (result ≡ Err free) → refusal ≡ free
  refused x refusal result is (inl e) = absurd cc
  refused x refusal result is (inr e) = cc

  pub one_then : OneAnswer free (p then q)
  one_then a c (Ok d) (b, took, made) (other, took_too, made_too) =
      let is = same b other (Ok other) refl (one a b (Ok other) took took_too) in
      two b c (Ok d) made (subst (λ (x : B). q x (Ok d)) is made_too)
  one_then a c (Err r) (b, took, made) (inl bad) = inr (ap Err (refused b r (Err r) refl (one a b (Err r) took bad)))
  one_then a c (Err r) (b, took, made) (inr (other, took_too, bad)) =
      let is = same b other (Ok other) refl (one a b (Ok other) took took_too) in
      two b c (Err r) made (subst (λ (x : B). q x (Err r)) is bad)
