-- The normal form of a term.
use Rattle.std.specs.Prelude.{◌≡◌, ℤ, pos, ◌+ℤ◌, List, [], ◌∷◌, if◌then◌else◌, false, ⊤}
use Rattle.std.specs.List.{AllByRecursion}
use Rattle.std.specs.declared.cmp.Ordering.{Ordering}
use Rattle.std.specs.declared.cmp.Ordering.TheVariants.{Less, Equal, Greater}
use Rattle.std.specs.Ordering.{int_eq}
use Rattle.spf_term.specs.Order.{atom_cmp}
use Rattle.spf_term.specs.declared.term.Atom.{Atom, Var, Param, App}
use Rattle.spf_term.specs.declared.term.Mono.{Mono}
use Rattle.spf_term.specs.declared.term.Term.{Term, Term', roll-Term, Row_of-Mono, end_of-Mono, more_of-Mono}

-- the monomial in front of others, unless its coefficient is 0
abbrev pub kept : ℤ → Atom → List Mono → List Mono
kept coef atom monos = if int_eq coef (pos 0) then monos else record { coef = coef; atom = atom } ∷ monos

-- one of three, by how two atoms compare
abbrev pub by_order : {A : Type 0} → Ordering → A → A → A → A
by_order Less less equal greater = less
by_order Equal less equal greater = equal
by_order Greater less equal greater = greater

-- the monomial at its place among others in order, added to that of its atom
abbrev pub added : ℤ → Atom → List Mono → List Mono
added coef atom [] = kept coef atom []
added coef atom (mono ∷ monos) =
    by_order (atom_cmp atom mono.atom) (kept coef atom (mono ∷ monos)) (kept (coef +ℤ mono.coef) mono.atom monos) (mono ∷ added coef atom monos)

-- monomials with normal atoms in order, those of one atom added
abbrev pub all_added : List Mono → List Mono
all_added [] = []
all_added (mono ∷ monos) = added mono.coef mono.atom (all_added monos)

-- monomials in order, each atom once, no coefficient 0, and normal arguments
abbrev mutual
  pub normal : Term → Term
  normal (Term' shape monos constant) = roll-Term (record { monos = normal_monos monos; constant = constant })

  pub normal_monos : {n : _} → Row_of-Mono n → List Mono
  normal_monos end_of-Mono = []
  normal_monos (more_of-Mono coef atom others) = added coef (normal_atom atom) (normal_monos others)

  pub normal_atom : Atom → Atom
  normal_atom (Var number) = Var number
  normal_atom (Param number) = Param number
  normal_atom (App fun arg) = App fun (normal arg)

abbrev pub normal_mono : Mono → Mono
normal_mono mono = record { coef = mono.coef; atom = normal_atom mono.atom }

-- the atom is before that of each monomial
abbrev pub IsBefore : {n : _} → Atom → Row_of-Mono n → Type 0
IsBefore atom end_of-Mono = ⊤
IsBefore atom (more_of-Mono coef' atom' others) = (atom_cmp atom atom' ≡ Less) × IsBefore atom others

abbrev mutual
  pub IsNormal : Term → Type 0
  IsNormal (Term' shape monos constant) = AreNormal monos

  pub AreNormal : {n : _} → Row_of-Mono n → Type 0
  AreNormal end_of-Mono = ⊤
  AreNormal (more_of-Mono coef atom others) = (int_eq coef (pos 0) ≡ false) × AtomIsNormal atom × IsBefore atom others × AreNormal others

  pub AtomIsNormal : Atom → Type 0
  AtomIsNormal (Var number) = ⊤
  AtomIsNormal (Param number) = ⊤
  AtomIsNormal (App fun arg) = IsNormal arg

-- ---- the same of a list of monomials

-- something holds of each atom
abbrev pub AllAtoms : (Atom → Type 0) → List Mono → Type 0
AllAtoms P monos = AllByRecursion (λ (mono : Mono). P mono.atom) monos

-- the atom is before each of theirs
abbrev pub IsBeforeAll : Atom → List Mono → Type 0
IsBeforeAll atom monos = AllAtoms (λ other. atom_cmp atom other ≡ Less) monos

abbrev pub ListIsNormal : List Mono → Type 0
ListIsNormal [] = ⊤
ListIsNormal (mono ∷ monos) = (int_eq mono.coef (pos 0) ≡ false) × AtomIsNormal mono.atom × IsBeforeAll mono.atom monos × ListIsNormal monos
