-- How `run` goes on, one production at a time: what ties a reader of slices to its grammar.
use Rattle.std.proofs.Common.{◌≡◌, ℕ, zero, suc, Bool, true, false, List, [], ◌∷◌, ◌++◌, length, Ok, Err, refl}
use Rattle.spf_lex.specs.Grammar.{Grammar, Nothing, One, Then, Or, Many, optional, sequence, IsExact}
use Rattle.spf_lex.specs.LookAhead.{nullable}
use Rattle.spf_lex.specs.Reading.{run, many_of, starts, prefers}

module _ {K : Type 0} (same : K → K → Bool) where
  pub run_nothing : (kinds : List K) → run same Nothing kinds ≡ Ok kinds
  unfolding run
  run_nothing kinds = refl

  pub run_one : (k next : K) (kinds : List K) → same next k ≡ true → run same (One k) (next ∷ kinds) ≡ Ok kinds
  unfolding run
  run_one k next kinds e = rw e refl

  pub run_other : (k next : K) (kinds : List K) → same next k ≡ false → run same (One k) (next ∷ kinds) ≡ Err (next ∷ kinds)
  unfolding run
  run_other k next kinds e = rw e refl

  pub run_at_end : (k : K) → run same (One k) [] ≡ Err []
  unfolding run
  run_at_end k = refl

  pub run_then : (g h : Grammar K) (kinds rest : List K) → run same g kinds ≡ Ok rest → run same (Then g h) kinds ≡ run same h rest
  unfolding run
  run_then g h kinds rest e = rw e refl

  pub run_then_fault : (g h : Grammar K) (kinds rest : List K) → run same g kinds ≡ Err rest → run same (Then g h) kinds ≡ Err rest
  unfolding run
  run_then_fault g h kinds rest e = rw e refl

  pub run_first : (g h : Grammar K) (kinds : List K) → prefers same g h kinds ≡ true → run same (Or g h) kinds ≡ run same g kinds
  unfolding run
  run_first g h kinds e = rw e refl

  pub run_second : (g h : Grammar K) (kinds : List K) → prefers same g h kinds ≡ false → run same (Or g h) kinds ≡ run same h kinds
  unfolding run
  run_second g h kinds e = rw e refl

  pub run_optional : (g : Grammar K) (kinds : List K) → starts same g kinds ≡ true → run same (optional g) kinds ≡ run same g kinds
  run_optional g kinds e = run_first g Nothing kinds (rw e refl)

  pub run_optional_none : (g : Grammar K) (kinds : List K) → nullable g ≡ false → starts same g kinds ≡ false → run same (optional g) kinds ≡ Ok kinds
  unfolding run
  run_optional_none g kinds n e = run_second g Nothing kinds (rw (e, n) refl)

  pub run_sequence : IsExact same → (ks rest : List K) → run same (sequence ks) (ks ++ rest) ≡ Ok rest
  unfolding run
  run_sequence exact [] rest = refl
  run_sequence exact (k ∷ ks) rest = rw ((exact k k).1 refl) (run_sequence exact ks rest)

  -- ---- repetitions

  pub many_none : (g : Grammar K) (n : ℕ) (kinds : List K) → starts same g kinds ≡ false → many_of (starts same g) (run same g) n kinds ≡ Ok kinds
  many_none g zero kinds e = refl
  many_none g (suc n) kinds e = rw e refl

  -- where the next kind begins no part, there is none
  pub run_many_none : (g : Grammar K) (kinds : List K) → starts same g kinds ≡ false → run same (Many g) kinds ≡ Ok kinds
  unfolding run
  run_many_none g kinds e = many_none g (length kinds) kinds e

  -- a first part with a fault is the fault of them all
  pub run_many_fault : (g : Grammar K) (kinds rest : List K) → starts same g kinds ≡ true → run same g kinds ≡ Err rest → run same (Many g) kinds ≡ Err rest
  unfolding run
  run_many_fault g [] rest s e = absurd cc
  run_many_fault g (k ∷ kinds) rest s e = rw (s, e) refl
