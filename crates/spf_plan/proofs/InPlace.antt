-- What isn't marked as moved stays in its own place.
use Rattle.std.proofs.Common.{◌≡◌, ℕ, zero, suc, ◌<◌, Bool, true, false, List, [], ◌∷◌, length, map, slice_index_or, slice_set, refl, sym, ap, ◌∙◌, subst, inl, inr, arith, length-set, get_or-set_other}
use Rattle.std.proofs.lemmas.Bool.{cases_eq, cases_lt, ne_eqb}
use Rattle.std.proofs.lemmas.Grind.{get_or-set_at}
use Rattle.std.proofs.lemmas.List.{get_or_past}
use Rattle.std.proofs.lemmas.List.FromFn.{length-range_with_len}
use Rattle.std.specs.List.{range_with_len}
use Rattle.spf_plan.specs.Packed.{AreNextPackings, is_listed, marked}
use Rattle.spf_plan.specs.Planned.{IsInPlace, OthersInPlace}

-- a mark that is off is there
is_there : (marks : List Bool) (n : ℕ) → slice_index_or marks n true ≡ false → n < length marks
is_there marks n off = elim (cases_lt n (length marks)) [
  | inl inside ↦ inside
  | inr past ↦ let e = sym (get_or_past marks n true past) ∙ off in absurd cc
]

-- and it isn't one that was set
not_set : (marks : List Bool) (at n : ℕ) → slice_index_or (slice_set marks at true) n true ≡ false → ((n ≡ at → ⊥) × (slice_index_or marks n true ≡ false))
not_set marks at n off = elim (cases_eq n at) [
  | inl e ↦
      let inside : at < length marks = omega (arith, is_there (slice_set marks at true) n off, length-set marks at true, e) in
      let set = sym (get_or-set_at marks at n true true e inside) ∙ off in
      absurd cc
  | inr ne ↦ (ne, sym (get_or-set_other marks at n true true ne) ∙ off)
]

unmarked : (arrays : List ℕ) (marks : List Bool) (n : ℕ) → slice_index_or (marked arrays marks) n true ≡ false → ((is_listed arrays n ≡ false) × (slice_index_or marks n true ≡ false))
unmarked [] marks n off = (refl, off)
unmarked (array ∷ arrays) marks n off =
    let rest = unmarked arrays (slice_set marks array true) n off in
    let here = not_set marks array n rest.1 in
    (rw (ne_eqb array n (λ e. here.0 (sym e))) rest.0, here.1)

pub identities_in_place : {A : Type 0} (size : A → ℕ) (xs : List A) (n : ℕ) → IsInPlace (slice_index_or (map (λ x. range_with_len 0 (size x)) xs) n [])
identities_in_place size [] n = refl
identities_in_place size (x ∷ xs) zero = ap (range_with_len 0) (sym (length-range_with_len 0 (size x)))
identities_in_place size (x ∷ xs) (suc n) = identities_in_place size xs n

pub reordered_in_place : (moved : List Bool) (perms : List (List ℕ)) (of : ℕ) (perm : List ℕ) → OthersInPlace moved perms → OthersInPlace (slice_set moved of true) (slice_set perms of perm)
reordered_in_place moved perms of perm all n off =
    let here = not_set moved of n off in
    subst IsInPlace (sym (get_or-set_other perms of n perm [] here.0)) (all n here.1)

pub packed_in_place : (arrays : List ℕ) (IsPacking : ℕ → List ℕ → Type 0) (moved : List Bool) (packs next : List (List ℕ)) → length moved ≡ length packs → AreNextPackings arrays IsPacking packs next
    → OthersInPlace moved packs → OthersInPlace (marked arrays moved) next
packed_in_place arrays IsPacking moved packs next same are all n off =
    let here = unmarked arrays moved n off in
    let inside : n < length packs = omega (arith, is_there moved n here.1, same) in
    subst IsInPlace (sym ((are.packings n inside).other here.0)) (all n here.1)
