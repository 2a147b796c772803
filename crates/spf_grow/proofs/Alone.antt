-- One growth of a seed, and none of a seed that falls.
use Rattle.std.proofs.Common.{◌≡◌, ℕ, ◌+◌, ◌<◌, ◌≤◌, List, length, get_or, sym, ◌∙◌, arith}
use Rattle.std.proofs.lemmas.Grind.{same_number_lists}
use Rattle.spf_touch.specs.declared.touch.Touch.{Touch}
use Rattle.spf_grow.specs.Growth.{Falls, IsGrown, IsGrowth}
use Rattle.spf_grow.proofs.Grown.{seed_is}
use Rattle.spf_grow.proofs.Passing.{number_at}

module _ (touches : ℕ → List Touch) (count first : ℕ) (seed : List ℕ) (parts : ℕ) where
  least_of_two : (numbers others : ℕ → ℕ) → IsGrowth touches count first seed parts numbers → IsGrowth touches count first seed parts others →
      (u : ℕ) → first ≤ u → u < count → numbers u ≤ others u
  least_of_two numbers others one other = one.least others other.seeded (λ p q low lt high conflict. other.rises p q (omega arith) lt high conflict)

  same_behind : (numbers others : ℕ → ℕ) → IsGrowth touches count first seed parts numbers → IsGrowth touches count first seed parts others →
      (u : ℕ) → first ≤ u → u < count → numbers u ≡ others u
  same_behind numbers others one other u low high = omega (arith, least_of_two numbers others one other u low high, least_of_two others numbers other one u low high)

  pub one : (numbers others : ℕ → ℕ) → IsGrowth touches count first seed parts numbers → IsGrowth touches count first seed parts others →
      (u : ℕ) → u < count → numbers u ≡ others u
  one numbers others here there u high = omega (
    arith,
    here.greatest others there.below (same_behind others numbers there here) there.rises u high,
    there.greatest numbers here.below (same_behind numbers others here there) here.rises u high,
  )

  pub one_list : (numbers others : List ℕ) → IsGrown touches count first seed parts numbers → IsGrown touches count first seed parts others → numbers ≡ others
  one_list numbers others here there =
      let all : (k : ℕ) → k < count → get_or numbers k 0 ≡ get_or others k 0 = one (number_at numbers) (number_at others) here.growth there.growth in
      let each = here.each in
      same_number_lists numbers others (here.each ∙ sym there.each) (λ k inside. all k (omega arith))

  pub nowhere : (numbers : ℕ → ℕ) → first + length seed ≤ count → IsGrowth touches count first seed parts numbers → (p q : ℕ) → ¬ Falls touches first seed p q
  nowhere numbers fits here p q pair =
      let ascend = pair.ascend in
      let behind = pair.behind in
      let inside = pair.inside in
      let falls = pair.falls in
      omega (
        arith,
        here.rises p q (omega arith) ascend (omega arith) pair.conflict,
        seed_is touches count first seed numbers here.seeded p behind (omega arith),
        seed_is touches count first seed numbers here.seeded q (omega arith) inside,
      )
