-- The variables of terms, and other numbers for them.
use Rattle.std.specs.Prelude.{ℕ, ◌+◌, ◌-◌, List, [], ◌∷◌, if◌then◌else◌, nat_lt, ⊤}
use Rattle.spf_term.specs.declared.term.Atom.{Atom, Var, Param, App}
use Rattle.spf_term.specs.declared.term.Mono.{Mono}
use Rattle.spf_term.specs.declared.term.Term.{Term, Term', roll-Term, Row_of-Mono, end_of-Mono, more_of-Mono}
use Rattle.spf_rel.specs.declared.renumber.Blocks.{Blocks}

-- something holds of the number of each variable in a term, in arguments too
abbrev mutual
  pub Variables : (ℕ → Type 0) → Term → Type 0
  Variables P (Term' shape monos constant) = SumVariables P monos

  pub SumVariables : {n : _} → (ℕ → Type 0) → Row_of-Mono n → Type 0
  SumVariables P end_of-Mono = ⊤
  SumVariables P (more_of-Mono coef atom others) = AtomVariables P atom × SumVariables P others

  pub AtomVariables : (ℕ → Type 0) → Atom → Type 0
  AtomVariables P (Var number) = P number
  AtomVariables P (Param number) = ⊤
  AtomVariables P (App fun arg) = Variables P arg

-- the term with these numbers in place of those of its variables, in arguments too
abbrev mutual
  pub renumbered : (ℕ → ℕ) → Term → Term
  renumbered to (Term' shape monos constant) = roll-Term (record { monos = renumbered_monos to monos; constant = constant })

  pub renumbered_monos : {n : _} → (ℕ → ℕ) → Row_of-Mono n → List Mono
  renumbered_monos to end_of-Mono = []
  renumbered_monos to (more_of-Mono coef atom others) = record { coef = coef; atom = renumbered_atom to atom } ∷ renumbered_monos to others

  pub renumbered_atom : (ℕ → ℕ) → Atom → Atom
  renumbered_atom to (Var number) = Var (to number)
  renumbered_atom to (Param number) = Param number
  renumbered_atom to (App fun arg) = App fun (renumbered to arg)

-- where a number goes: those of the first block, those of the second one, and the others, each block from its new start on
abbrev pub moved : Blocks → ℕ → ℕ
moved blocks number =
    if nat_lt number blocks.first then blocks.to_first + number
    else if nat_lt (number - blocks.first) blocks.second then blocks.to_second + (number - blocks.first)
    else blocks.to_others + (number - blocks.first - blocks.second)
