-- What monomials weigh, where each atom has a weight: the value of a term, or a coefficient in it.
use Rattle.std.proofs.Common.{◌≡◌, ℕ, zero, suc, ◌+◌, ℤ, pos, negsuc, ◌+ℤ◌, ◌-ℤ◌, ◌*ℤ◌, if◌then◌else◌, List, [], ◌∷◌, ◌++◌, Bool, true, false, refl, ap, sym, ◌∙◌, arith}
use Rattle.std.proofs.Math.IntN.{*ℤ_comm, -ℤ-+ℤ_cancel, +ℤ_assoc, +ℤ_idl, zero-*ℤ, suc_ℤ-+ℤ, pred_ℤ-+ℤ, suc_ℤ-*ℤ, pred_ℤ-*ℤ}
use Rattle.std.proofs.lemmas.Bool.Decides.{Decides-int_eq}
use Rattle.std.proofs.lemmas.Int.{ints}
use Rattle.std.proofs.lemmas.List.Sorted.{sum_by-IsPermutation}
use Rattle.std.proofs.lemmas.List.Sums.{sum_by-cons}
use Rattle.std.specs.List.{sum_by}
use Rattle.std.specs.List.Sorted.{IsPermutation}
use Rattle.std.specs.declared.cmp.Ordering.{Ordering}
use Rattle.std.specs.declared.cmp.Ordering.TheVariants.{Less, Equal, Greater}
use Rattle.std.specs.Ordering.{int_eq}
use Rattle.spf_term.specs.Normal.{added, by_order, kept}
use Rattle.spf_term.specs.Order.{atom_cmp}
use Rattle.spf_term.specs.declared.term.Atom.{Atom}
use Rattle.spf_term.specs.declared.term.Mono.{Mono}
use Rattle.spf_term.proofs.Exact.{exact_atom}

-- ---- products of sums

regrouped : (x y z p q k : ℤ) → x ≡ y +ℤ k → y ≡ p +ℤ q → z ≡ p +ℤ k → x ≡ z +ℤ q
regrouped x y z p q k first second third = omega (arith, ints)

regrouped_back : (x y z p q k : ℤ) → x ≡ y -ℤ k → y ≡ p +ℤ q → z ≡ p -ℤ k → x ≡ z +ℤ q
regrouped_back x y z p q k first second third = omega (arith, ints)

swapped : (a b c : ℤ) → a +ℤ (b +ℤ c) ≡ b +ℤ (a +ℤ c)
swapped a b c = omega (arith, ints)

spread_pos : (n : ℕ) (b k : ℤ) → (pos n +ℤ b) *ℤ k ≡ (pos n *ℤ k) +ℤ (b *ℤ k)
spread_pos zero b k = ap (λ (sum : ℤ). sum *ℤ k) (+ℤ_idl b) ∙ sym (ap (λ (product : ℤ). product +ℤ (b *ℤ k)) (zero-*ℤ k) ∙ +ℤ_idl (b *ℤ k))
spread_pos (suc n) b k =
    regrouped _ ((pos n +ℤ b) *ℤ k) (pos (suc n) *ℤ k) (pos n *ℤ k) (b *ℤ k) k (ap (λ (sum : ℤ). sum *ℤ k) (suc_ℤ-+ℤ (pos n) b) ∙ suc_ℤ-*ℤ (pos n +ℤ b) k) (spread_pos n b k) (suc_ℤ-*ℤ (pos n) k)

spread_negative : (n : ℕ) (b k : ℤ) → (negsuc n +ℤ b) *ℤ k ≡ (negsuc n *ℤ k) +ℤ (b *ℤ k)
spread_negative zero b k =
    regrouped_back _ ((pos zero +ℤ b) *ℤ k) (negsuc zero *ℤ k) (pos zero *ℤ k) (b *ℤ k) k (ap (λ (sum : ℤ). sum *ℤ k) (pred_ℤ-+ℤ (pos zero) b) ∙ pred_ℤ-*ℤ (pos zero +ℤ b) k) (spread_pos zero b k) (pred_ℤ-*ℤ (pos zero) k)
spread_negative (suc n) b k =
    regrouped_back _ ((negsuc n +ℤ b) *ℤ k) (negsuc (suc n) *ℤ k) (negsuc n *ℤ k) (b *ℤ k) k (ap (λ (sum : ℤ). sum *ℤ k) (pred_ℤ-+ℤ (negsuc n) b) ∙ pred_ℤ-*ℤ (negsuc n +ℤ b) k) (spread_negative n b k) (pred_ℤ-*ℤ (negsuc n) k)

spread : (a b k : ℤ) → (a +ℤ b) *ℤ k ≡ (a *ℤ k) +ℤ (b *ℤ k)
spread (pos n) b k = spread_pos n b k
spread (negsuc n) b k = spread_negative n b k

pub spread_right : (k a b : ℤ) → k *ℤ (a +ℤ b) ≡ (k *ℤ a) +ℤ (k *ℤ b)
spread_right k a b = *ℤ_comm k (a +ℤ b) ∙ spread a b k ∙ (λ i. *ℤ_comm a k i +ℤ *ℤ_comm b k i)

apart : (x y z : ℤ) → x ≡ y +ℤ z → y ≡ x -ℤ z
apart x y z is = omega (arith, ints)

spread_back : (a b k : ℤ) → (a -ℤ b) *ℤ k ≡ (a *ℤ k) -ℤ (b *ℤ k)
spread_back a b k = apart (a *ℤ k) ((a -ℤ b) *ℤ k) (b *ℤ k) (ap (λ (sum : ℤ). sum *ℤ k) (sym (-ℤ-+ℤ_cancel a b)) ∙ spread (a -ℤ b) b k)

grouped_pos : (n : ℕ) (b k : ℤ) → (pos n *ℤ b) *ℤ k ≡ pos n *ℤ (b *ℤ k)
grouped_pos zero b k = ap (λ (product : ℤ). product *ℤ k) (zero-*ℤ b) ∙ zero-*ℤ k ∙ sym (zero-*ℤ (b *ℤ k))
grouped_pos (suc n) b k =
    ap (λ (product : ℤ). product *ℤ k) (suc_ℤ-*ℤ (pos n) b) ∙ spread (pos n *ℤ b) b k ∙ ap (λ (product : ℤ). product +ℤ (b *ℤ k)) (grouped_pos n b k) ∙ sym (suc_ℤ-*ℤ (pos n) (b *ℤ k))

grouped_negative : (n : ℕ) (b k : ℤ) → (negsuc n *ℤ b) *ℤ k ≡ negsuc n *ℤ (b *ℤ k)
grouped_negative zero b k =
    ap (λ (product : ℤ). product *ℤ k) (pred_ℤ-*ℤ (pos zero) b) ∙ spread_back (pos zero *ℤ b) b k ∙ ap (λ (product : ℤ). product -ℤ (b *ℤ k)) (grouped_pos zero b k) ∙ sym (pred_ℤ-*ℤ (pos zero) (b *ℤ k))
grouped_negative (suc n) b k =
    ap (λ (product : ℤ). product *ℤ k) (pred_ℤ-*ℤ (negsuc n) b) ∙ spread_back (negsuc n *ℤ b) b k ∙ ap (λ (product : ℤ). product -ℤ (b *ℤ k)) (grouped_negative n b k) ∙ sym (pred_ℤ-*ℤ (negsuc n) (b *ℤ k))

pub grouped : (a b k : ℤ) → (a *ℤ b) *ℤ k ≡ a *ℤ (b *ℤ k)
grouped (pos n) b k = grouped_pos n b k
grouped (negsuc n) b k = grouped_negative n b k

-- ---- the two parts of an integer, of which one is 0

abbrev above : ℤ → ℕ
above (pos n) = n
above (negsuc n) = 0

abbrev below : ℤ → ℕ
below (pos n) = 0
below (negsuc n) = suc n

parted : (x : ℤ) (a b : ℕ) → x +ℤ (pos a -ℤ pos b) ≡ pos (above x + a) -ℤ pos (below x + b)
parted (pos n) a b = omega (arith, ints)
parted (negsuc n) a b = omega (arith, ints)

-- ---- weights

module _ (weight : Atom → ℤ) where
  abbrev pub weighed : List Mono → ℤ
  weighed [] = pos 0
  weighed (mono ∷ monos) = (mono.coef *ℤ weight mono.atom) +ℤ weighed monos

  pub weighed_append : (a b : List Mono) → weighed (a ++ b) ≡ weighed a +ℤ weighed b
  weighed_append [] b = sym (+ℤ_idl (weighed b))
  weighed_append (mono ∷ monos) b = ap (λ (more : ℤ). (mono.coef *ℤ weight mono.atom) +ℤ more) (weighed_append monos b) ∙ sym (+ℤ_assoc (mono.coef *ℤ weight mono.atom) (weighed monos) (weighed b))

  abbrev above_of : Mono → ℕ
  above_of mono = above (mono.coef *ℤ weight mono.atom)

  abbrev below_of : Mono → ℕ
  below_of mono = below (mono.coef *ℤ weight mono.atom)

  in_parts : (monos : List Mono) → weighed monos ≡ pos (sum_by above_of monos) -ℤ pos (sum_by below_of monos)
  in_parts [] = refl
  in_parts (mono ∷ monos) =
      ap (λ (more : ℤ). (mono.coef *ℤ weight mono.atom) +ℤ more) (in_parts monos)
      ∙ parted (mono.coef *ℤ weight mono.atom) (sum_by above_of monos) (sum_by below_of monos)
      ∙ (λ i. pos (sym (sum_by-cons above_of mono monos) i) -ℤ pos (sym (sum_by-cons below_of mono monos) i))

  pub weighed_permutation : (xs ys : List Mono) → IsPermutation xs ys → weighed ys ≡ weighed xs
  weighed_permutation xs ys is =
      in_parts ys
      ∙ (λ i. pos (sum_by-IsPermutation above_of xs ys is i) -ℤ pos (sum_by-IsPermutation below_of xs ys is i))
      ∙ sym (in_parts xs)

  kept_by : (zero' : Bool) (coef : ℤ) (atom : Atom) (monos : List Mono) → (zero' ≡ true → coef ≡ pos 0) → weighed (if zero' then monos else record { coef = coef; atom = atom } ∷ monos) ≡ (coef *ℤ weight atom) +ℤ weighed monos
  kept_by true coef atom monos is = sym (ap (λ (of : ℤ). (of *ℤ weight atom) +ℤ weighed monos) (is refl) ∙ ap (λ (product : ℤ). product +ℤ weighed monos) (zero-*ℤ (weight atom)) ∙ +ℤ_idl (weighed monos))
  kept_by false coef atom monos is = refl

  kept_weighed : (coef : ℤ) (atom : Atom) (monos : List Mono) → weighed (kept coef atom monos) ≡ (coef *ℤ weight atom) +ℤ weighed monos
  kept_weighed coef atom monos = kept_by (int_eq coef (pos 0)) coef atom monos (Decides-int_eq coef (pos 0)).0

  -- whichever of the three is taken
  ordered_by : (order : Ordering) (less equal greater : List Mono) (total : ℤ) → weighed less ≡ total → (order ≡ Equal → weighed equal ≡ total) → weighed greater ≡ total → weighed (by_order order less equal greater) ≡ total
  ordered_by Less less equal greater total a b c = a
  ordered_by Equal less equal greater total a b c = b refl
  ordered_by Greater less equal greater total a b c = c

  pub added_weighed : (coef : ℤ) (atom : Atom) (monos : List Mono) → weighed (added coef atom monos) ≡ (coef *ℤ weight atom) +ℤ weighed monos
  added_weighed coef atom [] = kept_weighed coef atom []
  added_weighed coef atom (mono ∷ monos) =
      let here = coef *ℤ weight atom in
      let first = mono.coef *ℤ weight mono.atom in
      ordered_by (atom_cmp atom mono.atom) _ _ _ _ (kept_weighed coef atom (mono ∷ monos))
      (λ alike.
      kept_weighed (coef +ℤ mono.coef) mono.atom monos ∙ ap (λ (product : ℤ). product +ℤ weighed monos) (spread coef mono.coef (weight mono.atom))
      ∙ ap (λ (of : Atom). ((coef *ℤ weight of) +ℤ first) +ℤ weighed monos) (sym (exact_atom atom mono.atom alike)) ∙ +ℤ_assoc here first (weighed monos))
      (ap (λ (more : ℤ). first +ℤ more) (added_weighed coef atom monos) ∙ swapped first here (weighed monos))
