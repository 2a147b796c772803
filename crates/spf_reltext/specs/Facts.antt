-- The monomials of index expressions, one fact for each in the order of the text, nested ones behind the one that they stand in.
use Rattle.std.specs.Prelude.{ℕ, List, [], ◌∷◌, ◌++◌, flat_map}
use Rattle.spf_reltext.specs.declared.fact.Fact.{Fact}
use Rattle.spf_reltext.specs.declared.fact.Role.{Role}
use Rattle.spf_reltext.specs.declared.raw.RawAtom.{RawAtom}
use Rattle.spf_reltext.specs.declared.raw.RawAtom.TheVariants.{Unit, Plain, Entry}
use Rattle.spf_reltext.specs.declared.raw.RawConstraint.{RawConstraint}
use Rattle.spf_reltext.specs.declared.raw.RawIx.{RawIx, RawIx', Row_of-RawMono, end_of-RawMono, more_of-RawMono}

abbrev pub fact : ℕ → Role → Fact
fact number role = record { number = number; role = role }

abbrev mutual
  pub ix_facts : RawIx → List Fact
  ix_facts (RawIx' shape monos) = monos_facts monos

  pub monos_facts : {n : _} → Row_of-RawMono n → List Fact
  monos_facts end_of-RawMono = []
  monos_facts (more_of-RawMono minus number atom others) = atom_facts number atom ++ monos_facts others

  pub atom_facts : ℕ → RawAtom → List Fact
  atom_facts number Unit = fact number Role.Alone ∷ []
  atom_facts number (Plain name) = fact number (Role.Plain name) ∷ []
  atom_facts number (Entry name at) = fact number (Role.Entry name) ∷ ix_facts at

abbrev pub constraint_facts : RawConstraint → List Fact
constraint_facts constraint = ix_facts constraint.left ++ ix_facts constraint.right

abbrev pub constraints_facts : List RawConstraint → List Fact
constraints_facts constraints = flat_map constraint_facts constraints
