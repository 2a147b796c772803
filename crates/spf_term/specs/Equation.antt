-- The equality of a variable and a term.
use Rattle.std.specs.Prelude.{◌≡◌, ℕ, ◌≤◌, ◌<◌, pos, negsuc, ◌*ℤ◌, ◌∷◌, false}
use Rattle.spf_term.specs.Normal.{normal}
use Rattle.spf_term.specs.Solution.{mentions, oriented}
use Rattle.spf_term.specs.Substitution.{scaled}
use Rattle.spf_term.specs.declared.term.Atom.{Var}
use Rattle.spf_term.specs.declared.term.Term.{Term, out-Term, roll-Term}

-- the variable less the term
abbrev pub difference : ℕ → Term → Term
difference var term = roll-Term (record { monos = record { coef = pos 1; atom = Var var } ∷ scaled (negsuc 0) (out-Term term).monos; constant = negsuc 0 *ℤ (out-Term term).constant })

-- the same as a constraint: normal, with a positive coefficient first
abbrev pub equation : ℕ → Term → Term
equation var term = oriented (normal (difference var term))

-- no variable of these numbers, from `low` to below `high`, occurs
abbrev pub IsApart : ℕ → ℕ → Term → Type 0
IsApart low high term = (number : ℕ) → low ≤ number → number < high → mentions number term ≡ false
