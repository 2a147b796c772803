-- A term in place of a variable.
use Rattle.std.specs.Prelude.{◌≡◌, ℕ, ℤ, pos, ◌+ℤ◌, ◌*ℤ◌, Bool, false, if◌then◌else◌, nat_eq, List, [], ◌∷◌, ◌++◌, map}
use Rattle.spf_term.specs.Value.{number_at}
use Rattle.spf_term.specs.declared.term.Atom.{Atom, Var, Param, App}
use Rattle.spf_term.specs.declared.term.Mono.{Mono}
use Rattle.spf_term.specs.declared.term.Term.{Term, Term', out-Term, roll-Term, Row_of-Mono, end_of-Mono, more_of-Mono}

abbrev pub scaled : ℤ → List Mono → List Mono
scaled factor monos = map (λ (mono : Mono). record { coef = factor *ℤ mono.coef; atom = mono.atom }) monos

abbrev pub is_variable : ℕ → Atom → Bool
is_variable var (Var number) = nat_eq number var
is_variable var (Param number) = false
is_variable var (App fun arg) = false

-- in place of each monomial of the variable stands the term times its coefficient, in arguments too
module _ (var : ℕ) (by : Term) where
  abbrev mutual
    pub substituted : Term → Term
    substituted (Term' shape monos constant) = roll-Term (record { monos = substituted_monos monos; constant = constant +ℤ substituted_constants monos })

    pub substituted_monos : {n : _} → Row_of-Mono n → List Mono
    substituted_monos end_of-Mono = []
    substituted_monos (more_of-Mono coef atom others) = (if is_variable var atom then scaled coef (out-Term by).monos else record { coef = coef; atom = substituted_atom atom } ∷ []) ++ substituted_monos others

    pub substituted_constants : {n : _} → Row_of-Mono n → ℤ
    substituted_constants end_of-Mono = pos 0
    substituted_constants (more_of-Mono coef atom others) = (if is_variable var atom then coef *ℤ (out-Term by).constant else pos 0) +ℤ substituted_constants others

    pub substituted_atom : Atom → Atom
    substituted_atom (Var number) = Var number
    substituted_atom (Param number) = Param number
    substituted_atom (App fun arg) = App fun (substituted arg)

-- the variable has this value, and the others those that they had
pub record IsReplaced (var : ℕ) (number : ℤ) (before after : List ℤ) : Type 0 where
  pub new : number_at after (pos var) ≡ number
  pub others : (other : ℕ) → nat_eq other var ≡ false → number_at after (pos other) ≡ number_at before (pos other)
