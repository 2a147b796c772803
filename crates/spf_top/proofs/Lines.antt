-- Lines on standard error, put together from their pieces.
use Rattle.std.proofs.Common.{◌≡◌, ℕ, ℤ, List, [], ◌++◌, codes, decimal, ap, sym, ◌∙◌, append_assoc}
use Rattle.std.specs.Fmt.{signed_decimal}
use Rattle.spf_top.specs.Outcome.{iteration_text}

-- an iteration, and what follows it
pub after_iteration : (name : List ℕ) (iteration : ℤ) (rest : List ℕ) → name ++ (codes " " ++ (signed_decimal iteration ++ rest)) ≡ iteration_text name iteration ++ rest
after_iteration name iteration rest = sym (append_assoc name (codes " " ++ signed_decimal iteration) rest)

pub range_line : (name : List ℕ) (iteration : ℤ) (site : ℕ) (value : ℤ) →
    codes "range: " ++ (name ++ (codes " " ++ (signed_decimal iteration ++ (codes " site " ++ (decimal site ++ (codes " value " ++ (signed_decimal value ++ (codes "\n" ++ []))))))))
    ≡ codes "range: " ++ (iteration_text name iteration ++ (codes " site " ++ (decimal site ++ (codes " value " ++ (signed_decimal value ++ codes "\n")))))
range_line name iteration site value =
    ap (λ (rest : List ℕ). codes "range: " ++ rest) (after_iteration name iteration (codes " site " ++ (decimal site ++ (codes " value " ++ (signed_decimal value ++ codes "\n")))))

-- a unit, and what follows it
pub after_unit : (step : ℕ) (name : List ℕ) (iteration : ℤ) (rest : List ℕ) →
    decimal step ++ (codes " " ++ (name ++ (codes " " ++ (signed_decimal iteration ++ rest)))) ≡ (decimal step ++ (codes " " ++ iteration_text name iteration)) ++ rest
after_unit step name iteration rest =
    ap (λ (more : List ℕ). decimal step ++ (codes " " ++ more)) (after_iteration name iteration rest)
    ∙ sym (append_assoc (decimal step) (codes " " ++ iteration_text name iteration) rest)

pub illegal_line : (number step : ℕ) (name : List ℕ) (iteration : ℤ) (step' : ℕ) (name' : List ℕ) (iteration' : ℤ) →
    codes "illegal: step " ++ (decimal number ++ (codes " reverses " ++ (decimal step ++ (codes " " ++ (name ++ (codes " " ++ (signed_decimal iteration
    ++ (codes " and " ++ (decimal step' ++ (codes " " ++ (name' ++ (codes " " ++ (signed_decimal iteration' ++ (codes "\n" ++ []))))))))))))))
    ≡ codes "illegal: step " ++ (decimal number ++ (codes " reverses " ++ ((decimal step ++ (codes " " ++ iteration_text name iteration))
    ++ (codes " and " ++ ((decimal step' ++ (codes " " ++ iteration_text name' iteration')) ++ codes "\n")))))
illegal_line number step name iteration step' name' iteration' =
    ap (λ (rest : List ℕ). codes "illegal: step " ++ (decimal number ++ (codes " reverses " ++ rest)))
    (after_unit step name iteration (codes " and " ++ (decimal step' ++ (codes " " ++ (name' ++ (codes " " ++ (signed_decimal iteration' ++ codes "\n"))))))
    ∙ ap (λ (rest : List ℕ). (decimal step ++ (codes " " ++ iteration_text name iteration)) ++ (codes " and " ++ rest)) (after_unit step' name' iteration' (codes "\n")))
