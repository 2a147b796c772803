-- The first pair of a relation, and of two relations together.
use Rattle.std.proofs.Common.{◌≡◌, ℕ, ◌<◌, ◌≤◌, ◌⊎◌, Option, Some, None, inl, inr, subst, arith, ltb}
use Rattle.std.proofs.lemmas.Bool.{cases_Bool, ltb-false, ltb-true}
use Rattle.spf_layers.specs.Legality.{IsFirst, IsFirstPair}
use Rattle.spf_legal.specs.Falling.{earlier_of}

module _ (R S : ℕ → ℕ → Type 0) where
  pub first_like : ((p q : ℕ) → R p q → S p q) → ((p q : ℕ) → S p q → R p q) → (o : Option (ℕ × ℕ)) → IsFirst R o → IsFirst S o
  first_like to back None none = λ p q s. none p q (back p q s)
  first_like to back (Some (p, q)) first = record {
    there = to p q first.there;
    least = λ a b s. first.least a b (back a b s);
    greatest = λ a s. first.greatest a (back a q s);
  }

  abbrev pub Either : ℕ → ℕ → Type 0
  Either p q = R p q ⊎ S p q

  left : (p q r s : ℕ) → IsFirstPair R p q → IsFirstPair S r s → q < s → IsFirstPair Either p q
  left p q r s one other lt = record {
    there = inl one.there;
    least = λ a b e. elim e [ inl x ↦ one.least a b x | inr y ↦ omega (arith, other.least a b y) ];
    greatest = λ a e. elim e [ inl x ↦ one.greatest a x | inr y ↦ absurd (omega (arith, other.least a q y)) ];
  }

  right : (p q r s : ℕ) → IsFirstPair R p q → IsFirstPair S r s → s < q → IsFirstPair Either r s
  right p q r s one other lt = record {
    there = inr other.there;
    least = λ a b e. elim e [ inl x ↦ omega (arith, one.least a b x) | inr y ↦ other.least a b y ];
    greatest = λ a e. elim e [ inl x ↦ absurd (omega (arith, one.least a s x)) | inr y ↦ other.greatest a y ];
  }

  left_same : (p q r s : ℕ) → IsFirstPair R p q → IsFirstPair S r s → s ≡ q → r ≤ p → IsFirstPair Either p q
  left_same p q r s one other same le = record {
    there = inl one.there;
    least = λ a b e. elim e [ inl x ↦ one.least a b x | inr y ↦ omega (arith, other.least a b y) ];
    greatest = λ a e. elim e [ inl x ↦ one.greatest a x | inr y ↦ omega (arith, other.greatest a (rw same y)) ];
  }

  right_same : (p q r s : ℕ) → IsFirstPair R p q → IsFirstPair S r s → s ≡ q → p < r → IsFirstPair Either r s
  right_same p q r s one other same lt = record {
    there = inr other.there;
    least = λ a b e. elim e [ inl x ↦ omega (arith, one.least a b x) | inr y ↦ other.least a b y ];
    greatest = λ a e. elim e [ inl x ↦ omega (arith, one.greatest a (rw (← same) x)) | inr y ↦ other.greatest a y ];
  }

  pub first_join : (a b : Option (ℕ × ℕ)) → IsFirst R a → IsFirst S b → IsFirst Either (earlier_of a b)
  first_join None None none none' = λ p q e. elim e [ inl x ↦ none p q x | inr y ↦ none' p q y ]
  first_join None (Some (r, s)) none other = record {
    there = inr other.there;
    least = λ a b e. elim e [ inl x ↦ absurd (none a b x) | inr y ↦ other.least a b y ];
    greatest = λ a e. elim e [ inl x ↦ absurd (none a s x) | inr y ↦ other.greatest a y ];
  }
  first_join (Some (p, q)) None one none = record {
    there = inl one.there;
    least = λ a b e. elim e [ inl x ↦ one.least a b x | inr y ↦ absurd (none a b y) ];
    greatest = λ a e. elim e [ inl x ↦ one.greatest a x | inr y ↦ absurd (none a q y) ];
  }
  first_join (Some (p, q)) (Some (r, s)) one other = elim (cases_Bool (ltb q s)) [
    | inl less ↦ rw less (left p q r s one other (ltb-true q s less))
    | inr not ↦ elim (cases_Bool (ltb s q)) [
      | inl more ↦ rw (not, more) (right p q r s one other (ltb-true s q more))
      | inr same ↦
          let at : s ≡ q = omega (arith, ltb-false q s not, ltb-false s q same) in
          elim (cases_Bool (ltb p r)) [
            | inl less ↦ rw (not, same, less) (right_same p q r s one other at (ltb-true p r less))
            | inr more ↦ rw (not, same, more) (left_same p q r s one other at (ltb-false p r more))
          ]
    ]
  ]

-- the first pair of one relation more
module _ (In More : ℕ → Type 0) (R : ℕ → ℕ → ℕ → Type 0) (k : ℕ) where
  pub first_more : ((n : ℕ) → More n → In n ⊎ (n ≡ k)) → ((n : ℕ) → In n → More n) → More k → (a b : Option (ℕ × ℕ)) →
      IsFirst (λ p q. (n : ℕ) × In n × R n p q) a → IsFirst (R k) b → IsFirst (λ p q. (n : ℕ) × More n × R n p q) (earlier_of a b)
  first_more split old new a b first other =
      let Before : ℕ → ℕ → Type 0 = λ p q. (n : ℕ) × In n × R n p q in
      first_like (Either Before (R k)) (λ p q. (n : ℕ) × More n × R n p q)
      (λ p q e. elim e [ inl x ↦ (x.0, old x.0 x.1, x.2) | inr y ↦ (k, new, y) ])
      (λ p q x. elim (split x.0 x.1) [ inl before ↦ inl (x.0, before, x.2) | inr same ↦ inr (subst (λ n. R n p q) same x.2) ])
      (earlier_of a b) (first_join Before (R k) a b first other)
