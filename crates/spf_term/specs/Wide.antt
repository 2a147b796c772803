-- Terms whose numbers have 128 bits.
use Rattle.std.specs.Prelude.{◌≡◌, ℕ, ◌+◌, ◌<◌, ◌^◌, ℤ, unsigned_abs, None, Some, List, [], ◌∷◌, Result, Ok, Err, ⊤}
use Rattle.std.specs.List.{AllByRecursion, find}
use Rattle.spf_term.specs.Normal.{by_order}
use Rattle.spf_term.specs.NumberRule.{is_outside}
use Rattle.spf_term.specs.Order.{atom_cmp}
use Rattle.spf_term.specs.declared.fault.TermFault.{TermFault}
use Rattle.spf_term.specs.declared.fault.TermFault.TheVariants.{Wide, Memory}
use Rattle.spf_term.specs.declared.term.Atom.{Atom, Var, Param, App}
use Rattle.spf_term.specs.declared.term.Mono.{Mono}
use Rattle.spf_term.specs.declared.term.Term.{Term, out-Term, roll-Term}
use Rattle.spf_term.specs.declared.wide.WideAtom.{WideAtom, Var as WideVar, Param as WideParam, App as WideApp}
use Rattle.spf_term.specs.declared.wide.WideMono.{WideMono}
use Rattle.spf_term.specs.declared.wide.WideTerm.{WideTerm, WideTerm', Row_of-WideMono, end_of-WideMono, more_of-WideMono}

-- the term of the same numbers
abbrev mutual
  pub plain : WideTerm → Term
  plain (WideTerm' shape monos constant) = roll-Term (record { monos = plain_monos monos; constant = constant })

  pub plain_monos : {n : _} → Row_of-WideMono n → List Mono
  plain_monos end_of-WideMono = []
  plain_monos (more_of-WideMono coef atom others) = record { coef = coef; atom = plain_atom atom } ∷ plain_monos others

  pub plain_atom : WideAtom → Atom
  plain_atom (WideVar number) = Var number
  plain_atom (WideParam number) = Param number
  plain_atom (WideApp fun arg) = App fun (plain arg)

abbrev pub plain_mono : WideMono → Mono
plain_mono mono = record { coef = mono.coef; atom = plain_atom mono.atom }

-- the sum of the distances from 0 of the coefficients of an atom
abbrev pub load_of : Atom → Mono → ℕ
load_of atom mono = by_order (atom_cmp atom mono.atom) 0 (unsigned_abs mono.coef) 0

abbrev pub load : Atom → List Mono → ℕ
load atom [] = 0
load atom (mono ∷ monos) = load_of atom mono + load atom monos

-- the negated term has numbers of 128 bits
abbrev pub HasOpposites : Term → Type 0
HasOpposites term = AllByRecursion (λ (mono : Mono). unsigned_abs mono.coef < 2 ^ 127) (out-Term term).monos × (unsigned_abs (out-Term term).constant < 2 ^ 127)

-- what has these numbers is made, or the first number that is too large is told
abbrev pub IsNarrowed : {A : Type 0} → List ℤ → A → Result A TermFault → Type 0
IsNarrowed numbers wanted (Ok made) = (made ≡ wanted) × (find is_outside numbers ≡ None)
IsNarrowed numbers wanted (Err (Wide number)) = find is_outside numbers ≡ Some number
IsNarrowed numbers wanted (Err Memory) = ⊤
