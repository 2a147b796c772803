-- The tables of orders, one more.
use Rattle.std.proofs.Common.{◌≡◌, ℕ, ◌+◌, ◌<◌, ℤ, pos, negsuc, FitsSigned, w64, Option, None, List, [], ◌∷◌, ◌++◌, length, get_or, sym, ap, ◌∙◌, subst, inl, inr, arith}
use Rattle.std.proofs.lemmas.Bool.{cases_lt}
use Rattle.std.proofs.lemmas.Int.{ints}
use Rattle.std.proofs.lemmas.List.{get_or_append_left}
use Rattle.std.proofs.Math.Seq.{get_or-append_seam}
use Rattle.spf_space.specs.declared.shape.LoopShape.{LoopShape}
use Rattle.spf_exec.specs.Executor.{IsOrderTable}
use Rattle.spf_exec.specs.Moves.{IsLower}

-- a lower bound is a number of 64 bits
pub lower_fits : (lower : ℤ) → IsLower lower → FitsSigned w64 lower
lower_fits (pos n) is = omega (arith, ints, is.1)
lower_fits (negsuc n) is = omega (arith, ints, is.0)

abbrev pub extent_of : LoopShape → ℕ
extent_of each = each.extent

module _ (loops : List LoopShape) (moves : List (Option (List ℕ))) where
  abbrev pub IsTableOf : ℕ → List ℤ → Type 0
  IsTableOf n table = (d : LoopShape) → IsOrderTable (get_or loops n d).lower (get_or moves n None) table

  pub one_more : (tables : List (List ℤ)) (number : ℕ) (table : List ℤ) → length tables ≡ number → ((n : ℕ) (d : LoopShape) → n < number → IsOrderTable (get_or loops n d).lower (get_or moves n None) (get_or tables n [])) →
      IsTableOf number table → (n : ℕ) (d : LoopShape) → n < number + 1 → IsOrderTable (get_or loops n d).lower (get_or moves n None) (get_or (tables ++ table ∷ []) n [])
  one_more tables number table long each is n d inside = elim (cases_lt n number) [
    | inl before ↦ subst (IsOrderTable (get_or loops n d).lower (get_or moves n None)) (sym (get_or_append_left tables (table ∷ []) [] n (omega (arith, long, before)))) (each n d before)
    | inr last ↦
        let here : number ≡ n = omega (arith, inside, last) in
        subst (λ (at : ℕ). IsOrderTable (get_or loops at d).lower (get_or moves at None) (get_or (tables ++ table ∷ []) at [])) here
        (subst (IsOrderTable (get_or loops number d).lower (get_or moves number None)) (sym (ap (λ at. get_or (tables ++ table ∷ []) at []) (sym long) ∙ get_or-append_seam tables table [] [])) (is d))
  ]
