-- How many notes pass a test, and what is counted part by part is no more.
use Rattle.spf_kernel.proofs.Common.{◌≡◌, ℕ, ◌+◌, ◌≤◌, Bool, true, List, [], ◌∷◌, ◌++◌, map, flat_map, refl, ap, sym, ◌∙◌, arith, sum_by-append, sum_by-cons, sum_by, Note, Says, Fact, fact_of, facts_of, count_that, count_by, cond}

module _ (test : Says → Bool) where
  abbrev pub notes_that : List Note → ℕ
  notes_that = count_by (λ (note : Note). test note.says)

  pub both : (xs ys : List Note) → notes_that (xs ++ ys) ≡ notes_that xs + notes_that ys
  both = sum_by-append (λ (x : Note). cond (test x.says) 1 0)

  pub join : {m n : ℕ} (xs ys : List Note) → m ≤ notes_that xs → n ≤ notes_that ys → m + n ≤ notes_that (xs ++ ys)
  join xs ys few more = omega (arith, both xs ys, few, more)

  pub behind : (first : Note) (others : List Note) → notes_that others ≤ notes_that (first ∷ others)
  behind first others = omega (arith, sum_by-cons (λ (x : Note). cond (test x.says) 1 0) first others)

  pub inside_last : {n : ℕ} (front last : List Note) → n ≤ notes_that last → n ≤ notes_that (front ++ last)
  inside_last front last few = omega (arith, few, both front last)

  -- one that passes, and those behind it
  pub counted : (first : Note) (others : List Note) → test first.says ≡ true → notes_that (first ∷ others) ≡ notes_that others + 1
  counted first others is = omega (arith, sum_by-cons (λ (x : Note). cond (test x.says) 1 0) first others, ap {B = ℕ} (λ (b : Bool). cond b 1 0) is)

  -- the facts have as many
  pub same_facts : (texts : List (List ℕ)) (notes : List Note) → count_that test (facts_of texts notes) ≡ notes_that notes
  same_facts texts [] = refl
  same_facts texts (note ∷ notes) =
      sum_by-cons (λ (x : Fact). cond (test x.says) 1 0) (fact_of texts note) (facts_of texts notes)
      ∙ ap (λ n. cond (test note.says) 1 0 + n) (same_facts texts notes) ∙ sym (sum_by-cons (λ (x : Note). cond (test x.says) 1 0) note notes)

  pub sums_within : {A B : Type 0} (f : B → ℕ) (g : A → B) (notes : A → List Note) → ((x : A) → f (g x) ≤ notes_that (notes x)) → (xs : List A) → sum_by f (map g xs) ≤ notes_that (flat_map notes xs)
  sums_within f g notes each [] = omega arith
  sums_within f g notes each (x ∷ xs) =
      omega (arith, sum_by-cons f (g x) (map g xs), both (notes x) (flat_map notes xs), each x, sums_within f g notes each xs)
