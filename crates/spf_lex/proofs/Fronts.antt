-- The front of a text: its first byte, and its longest run.
use Rattle.std.proofs.Common.{◌≡◌, ℕ, zero, suc, ◌<◌, ◌≤◌, List, [], ◌∷◌, length, take, drop, get_or, All, subst, inl, inr, arith, get_or-take, length-take-le}
use Rattle.std.proofs.lemmas.Bool.{cases_lt}
use Rattle.spf_lex.specs.Front.{BeginsWith, IsRun, IsLongest}

-- no byte is both, so no text begins with both
pub BeginsWith-apart : (P Q : ℕ → Type 0) → ((b : ℕ) → P b → Q b → ⊥) → (text : List ℕ) → BeginsWith P text → BeginsWith Q text → ⊥
BeginsWith-apart P Q apart [] p q = p
BeginsWith-apart P Q apart (b ∷ bs) p q = apart b p q

pub BeginsWith-weaker : (P Q : ℕ → Type 0) → ((b : ℕ) → P b → Q b) → (text : List ℕ) → BeginsWith P text → BeginsWith Q text
BeginsWith-weaker P Q weaker [] p = p
BeginsWith-weaker P Q weaker (b ∷ bs) p = weaker b p

-- a front that begins with P isn't empty, and the text begins as it does
pub BeginsWith-take : (P : ℕ → Type 0) (n : ℕ) (text : List ℕ) → BeginsWith P (take n text) → (0 < n) × BeginsWith P text
BeginsWith-take P zero text p = absurd p
BeginsWith-take P (suc n) [] p = absurd p
BeginsWith-take P (suc n) (b ∷ bs) p = (omega arith, p)

pub BeginsWith-drop : (P : ℕ → Type 0) (n : ℕ) (text : List ℕ) → n < length text → P (get_or text n 0) → BeginsWith P (drop n text)
BeginsWith-drop P n [] inside p = absurd (omega arith)
BeginsWith-drop P zero (b ∷ bs) inside p = p
BeginsWith-drop P (suc n) (b ∷ bs) inside p = BeginsWith-drop P n bs (omega arith) p

pub length-begins : (P : ℕ → Type 0) (text : List ℕ) → BeginsWith P text → 0 < length text
length-begins P [] p = absurd p
length-begins P (b ∷ bs) p = omega arith

module _ (P : ℕ → Type 0) (text : List ℕ) (n : ℕ) (run : IsRun P text n) where
  -- no front of P is longer than the run
  pub run_is_longest : (m : ℕ) → m ≤ length text → All P (take m text) → m ≤ n
  run_is_longest m inside each =
      elim (cases_lt n m) [
        | inl less ↦ absurd (run.ends (BeginsWith-drop P n text (omega arith) (subst P (get_or-take m text n 0 less) (each n 0 (omega (arith, length-take-le m text inside))))))
        | inr not_less ↦ not_less
      ]

pub run_nonempty : (P : ℕ → Type 0) (text : List ℕ) (n : ℕ) → IsRun P text n → BeginsWith P text → 0 < n
run_nonempty P text zero run begins = absurd (run.ends begins)
run_nonempty P text (suc n) run begins = omega arith

pub run_unique : (P : ℕ → Type 0) (text : List ℕ) (m n : ℕ) → IsRun P text m → IsRun P text n → m ≡ n
run_unique P text m n a b =
    omega (arith, run_is_longest P text m a n b.within b.each, run_is_longest P text n b m a.within a.each)

pub longest_unique : (P : List ℕ → Type 0) (text : List ℕ) (m n : ℕ) → IsLongest P text m → IsLongest P text n → m ≡ n
longest_unique P text m n a b = omega (arith, a.longest n b.within b.stands, b.longest m a.within a.stands)
