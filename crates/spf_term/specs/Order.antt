-- The order of atoms and of terms.
use Rattle.std.specs.declared.cmp.Ordering.{Ordering}
use Rattle.std.specs.declared.cmp.Ordering.TheVariants.{Less, Equal, Greater}
use Rattle.std.specs.Ordering.{int_cmp, nat_cmp, ordering_then}
use Rattle.spf_term.specs.declared.term.Atom.{Atom, Var, Param, App}
use Rattle.spf_term.specs.declared.term.Term.{Term, Term', Row_of-Mono, end_of-Mono, more_of-Mono}

abbrev mutual
  -- the list of monomials, each by atom and then by coefficient, and then the constant
  pub term_cmp : Term → Term → Ordering
  term_cmp (Term' shape monos constant) (Term' shape' monos' constant') = ordering_then (monos_cmp monos monos') (int_cmp constant constant')

  -- compared from the front, a proper prefix first
  pub monos_cmp : {m n : _} → Row_of-Mono m → Row_of-Mono n → Ordering
  monos_cmp end_of-Mono end_of-Mono = Equal
  monos_cmp end_of-Mono (more_of-Mono coef' atom' others') = Less
  monos_cmp (more_of-Mono coef atom others) end_of-Mono = Greater
  monos_cmp (more_of-Mono coef atom others) (more_of-Mono coef' atom' others') = ordering_then (atom_cmp atom atom') (ordering_then (int_cmp coef coef') (monos_cmp others others'))

  -- variables, parameters, applications; variables and parameters by number, applications by table and then by argument
  pub atom_cmp : Atom → Atom → Ordering
  atom_cmp (Var number) (Var number') = nat_cmp number number'
  atom_cmp (Var number) other = Less
  atom_cmp (Param number) (Var number') = Greater
  atom_cmp (Param number) (Param number') = nat_cmp number number'
  atom_cmp (Param number) (App fun arg) = Less
  atom_cmp (App fun arg) (App fun' arg') = ordering_then (nat_cmp fun fun') (term_cmp arg arg')
  atom_cmp (App fun arg) other = Greater
