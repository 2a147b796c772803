-- Terms that tests build, and where they are evaluated.
use Rattle.std.specs.Prelude.{ℕ, ℤ, pos, negsuc, List, [], ◌∷◌}
use Rattle.spf_term.specs.Environment.{Environment}
use Rattle.spf_term.specs.declared.term.Atom.{App}
use Rattle.spf_term.specs.declared.term.Mono.{Mono}
use Rattle.spf_term.specs.declared.term.Term.{Term, roll-Term}

-- the sum of these monomials and the constant
abbrev pub sum_of : List Mono → ℤ → Term
sum_of monos constant = roll-Term (record { monos = monos; constant = constant })

-- a coefficient times the entry of a table at a place, and a constant
abbrev pub reading : ℤ → ℕ → ℤ → ℤ → Term
reading coef table place constant = sum_of (record { coef = coef; atom = App table (sum_of [] place) } ∷ []) constant

-- the entry of the first table at the entry of the second at a place
abbrev pub nested : ℤ → Term
nested place = sum_of (record { coef = pos 1; atom = App 0 (reading (pos 1) 1 place (pos 0)) } ∷ []) (pos 0)

-- that at the first place, and the entry of the second table at the place behind its last
abbrev pub pair_monos : List Mono
pair_monos = record { coef = pos 1; atom = App 0 (reading (pos 1) 1 (pos 0) (pos 0)) } ∷ record { coef = pos 1; atom = App 1 (sum_of [] (pos 3)) } ∷ []

abbrev pub pair : Term
pair = sum_of pair_monos (pos 0)

-- a parameter, and two tables of three entries
abbrev pub small_env : Environment
small_env = record {
  params = pos 7 ∷ [];
  tables = (pos 10 ∷ pos 20 ∷ pos 30 ∷ []) ∷ (pos 2 ∷ negsuc 0 ∷ pos 3 ∷ []) ∷ [];
}
