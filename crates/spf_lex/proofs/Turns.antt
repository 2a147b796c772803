-- The turns of a repetition: behind a part it goes on as it began.
use Rattle.std.proofs.Common.{◌≡◌, ◌≤◌, ◌<◌, ℕ, zero, suc, Bool, true, false, List, [], ◌∷◌, length, Result, Ok, Err, refl, sym, ◌∙◌, arith, le_refl}
use Rattle.spf_lex.specs.Grammar.{Grammar, Many, IsExact}
use Rattle.spf_lex.specs.LookAhead.{is_clear}
use Rattle.spf_lex.specs.Reading.{run, many_of, starts}
use Rattle.spf_lex.proofs.Follows.{starts_passes}
use Rattle.spf_lex.proofs.Readings.{follows}
use Rattle.spf_lex.proofs.Steps.{many_none}

module _ {K : Type 0} (same : K → K → Bool) (exact : IsExact same) (g : Grammar K) (clear : is_clear same g ≡ true) where
  -- a part takes a token at least
  pub part_shorter : (kinds rest : List K) → starts same g kinds ≡ true → run same g kinds ≡ Ok rest → length rest < length kinds
  part_shorter [] rest s e = absurd cc
  part_shorter (k ∷ kinds) rest s e =
      let behind : length rest ≤ length kinds = rw e at (starts_passes same exact g (follows same exact g clear) k kinds s) in
      omega arith

  -- as many turns as tokens are enough
  many_enough : (n m : ℕ) (kinds : List K) → length kinds ≤ n → length kinds ≤ m → many_of (starts same g) (run same g) n kinds ≡ many_of (starts same g) (run same g) m kinds
  many_enough n m [] le le' = many_none same g n [] refl ∙ sym (many_none same g m [] refl)
  many_enough zero m (k ∷ kinds) le le' = absurd (omega arith)
  many_enough (suc n) zero (k ∷ kinds) le le' = absurd (omega arith)
  many_enough (suc n) (suc m) (k ∷ kinds) le le' = by_next (starts same g (k ∷ kinds)) refl (run same g (k ∷ kinds)) refl (many_enough n m)
    where
      by_next : (b : Bool) → starts same g (k ∷ kinds) ≡ b → (outcome : Result (List K) (List K)) → run same g (k ∷ kinds) ≡ outcome → ((kinds : List K) → length kinds ≤ n → length kinds ≤ m → many_of (starts same g) (run same g) n kinds ≡ many_of (starts same g) (run same g) m kinds) → many_of (starts same g) (run same g) (suc n) (k ∷ kinds) ≡ many_of (starts same g) (run same g) (suc m) (k ∷ kinds)
      by_next false s outcome e again = rw s refl
      by_next true s (Err rest) e again = rw (s, e) refl
      by_next true s (Ok rest) e again =
          let short : length rest < suc (length kinds) = part_shorter (k ∷ kinds) rest s e in
          rw (s, e) (again rest (omega arith) (omega arith))

  -- behind a first part it goes on as it began: the step of a loop
  pub run_many_part : (kinds rest : List K) → starts same g kinds ≡ true → run same g kinds ≡ Ok rest → run same (Many g) kinds ≡ run same (Many g) rest
  unfolding run
  run_many_part [] rest s e = absurd cc
  run_many_part (k ∷ kinds) rest s e =
      let short : length rest < suc (length kinds) = part_shorter (k ∷ kinds) rest s e in
      rw (s, e) (many_enough (length kinds) (length rest) rest (omega arith) (le_refl _))
