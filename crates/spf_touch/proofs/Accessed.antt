-- Accesses, noted one behind the other.
use Rattle.std.proofs.Common.{◌≡◌, ℕ, Bool, true, false, cond, Option, Some, None, List, [], ◌∷◌, ◌++◌, ◌⊎◌, inl, inr, refl, eqb}
use Rattle.std.proofs.lemmas.Bool.{cases_Bool, eqb-true, eq-eqb}
use Rattle.std.proofs.lemmas.List.Elements.{All-from_recursion}
use Rattle.std.specs.List.{All, AllByRecursion}
use Rattle.std.specs.Prelude.{IsSome}
use Rattle.spf_touch.specs.ActionLaw.{class_at-noted}
use Rattle.spf_touch.specs.Copy.{joined}
use Rattle.spf_touch.specs.Frame.{IsTouched, class_at}
use Rattle.spf_touch.specs.Noted.{noted, noted_all}
use Rattle.spf_touch.proofs.Classes.{covers, covers_trans, covers_itself, joined_covers, joined_covers_first, covered_touched}
use Rattle.spf_touch.specs.declared.class.Class.{Class}
use Rattle.spf_touch.specs.declared.touch.Touch.{Touch}

pub noted_append : (ts : List Touch) (xs ys : List (ℕ × Class)) → noted_all ts (xs ++ ys) ≡ noted_all (noted_all ts xs) ys
noted_append ts [] ys = refl
noted_append ts ((e, c) ∷ xs) ys = noted_append (noted ts e c) xs ys

-- one list of touches stands for all of another
abbrev pub Stands : List Touch → List Touch → Type 0
Stands ts ss = (x : ℕ) → covers (class_at ts x) (class_at ss x) ≡ true

noted_grows : (ts : List Touch) (e : ℕ) (c : Class) → Stands (noted ts e c) ts
noted_grows ts e c x = rw class_at-noted (elim (cases_Bool (eqb e x)) [
  | inl here ↦ rw here (joined_covers_first (class_at ts x) (Some c))
  | inr other ↦ rw other (covers_itself (class_at ts x))
])

noted_more : (ts ss : List Touch) (e : ℕ) (c : Class) → Stands ts ss → Stands (noted ts e c) (noted ss e c)
noted_more ts ss e c h x = rw (class_at-noted ts e c x, class_at-noted ss e c x) (elim (cases_Bool (eqb e x)) [
  | inl here ↦ rw here (joined_covers (class_at ts x) (class_at ss x) c (h x))
  | inr other ↦ rw other (h x)
])

pub all_grow : (ts : List Touch) (xs : List (ℕ × Class)) → Stands (noted_all ts xs) ts
all_grow ts [] x = covers_itself (class_at ts x)
all_grow ts ((e, c) ∷ xs) x = covers_trans _ _ _ (all_grow (noted ts e c) xs x) (noted_grows ts e c x)

pub all_more : (ts ss : List Touch) (xs : List (ℕ × Class)) → Stands ts ss → Stands (noted_all ts xs) (noted_all ss xs)
all_more ts ss [] h = h
all_more ts ss ((e, c) ∷ xs) h = all_more (noted ts e c) (noted ss e c) xs (noted_more ts ss e c h)

joined_some : (c : Option Class) (d : Class) → IsSome (joined c (Some d))
joined_some None d = refl
joined_some (Some c) d = refl

noted_touched : (ts : List Touch) (e : ℕ) (c : Class) → IsTouched (noted ts e c) e
noted_touched ts e c = rw (class_at-noted, eq-eqb e e refl) (joined_some (class_at ts e) c)

first_touched : (ts : List Touch) (e : ℕ) (c : Class) (xs : List (ℕ × Class)) → IsTouched (noted_all (noted ts e c) xs) e
first_touched ts e c xs = covered_touched (class_at (noted_all (noted ts e c) xs) e) (class_at (noted ts e c) e) (all_grow (noted ts e c) xs e) (noted_touched ts e c)

some_cases : (b : Bool) (c d : Option Class) → IsSome (cond b c d) → (b ≡ true) ⊎ IsSome d
some_cases true c d h = inl refl
some_cases false c d h = inr h

-- what is touched was touched before, or is accessed
pub all_some : (ts : List Touch) (xs : List (ℕ × Class)) (x : ℕ) → IsTouched (noted_all ts xs) x → IsTouched ts x ⊎ IsTouched (noted_all [] xs) x
all_some ts [] x h = inl h
all_some ts ((e, c) ∷ xs) x h = elim (all_some (noted ts e c) xs x h) [
  | inl now ↦ elim (some_cases (eqb e x) _ (class_at ts x) (rw class_at-noted at now)) [
    | inl here ↦ inr (rw (← eqb-true e x here) (first_touched [] e c xs))
    | inr old ↦ inl old
  ]
  | inr later ↦ inr (covered_touched (class_at (noted_all (noted [] e c) xs) x) (class_at (noted_all [] xs) x) (all_more (noted [] e c) [] xs (λ y. refl) x) later)
]

-- what holds of all touched elements holds of those that are accessed
pub accessed : (P : ℕ → Type 0) (ts : List Touch) (xs : List (ℕ × Class)) → ((e : ℕ) → IsTouched (noted_all ts xs) e → P e) → AllByRecursion (λ access. P access.0) xs
accessed P ts [] h = tt
accessed P ts ((e, c) ∷ xs) h = (h e (first_touched ts e c xs), accessed P (noted ts e c) xs h)

pub accesses_hold : (P : ℕ → Type 0) (xs : List (ℕ × Class)) → ((e : ℕ) → IsTouched (noted_all [] xs) e → P e) → All (λ access. P access.0) xs
accesses_hold P xs h = All-from_recursion (λ access. P access.0) xs (accessed P [] xs h)
