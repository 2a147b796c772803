-- What literals mean, one case for each production. A term has its monomials in the order of the text.
use Rattle.std.specs.Prelude.{ℕ, ℤ, pos, neg_ℤ, ◌+ℤ◌, Bool, true, false, not, if◌then◌else◌, List, [], ◌∷◌, ◌++◌, length, map, flat_map, fold}
use Rattle.std.specs.List.{list_any}
use Rattle.std.specs.Str.{bytes_eq}
use Rattle.spf_base.specs.Wrap.{wrap}
use Rattle.spf_rel.specs.declared.relation.Conj.{Conj}
use Rattle.spf_rel.specs.declared.relation.Rel.{Rel}
use Rattle.spf_rel.specs.declared.relation.Set.{Set}
use Rattle.spf_reltext.specs.Names.{number_of}
use Rattle.spf_reltext.specs.Rules.{shape_of_all, variables}
use Rattle.spf_reltext.specs.declared.names.RelNames.{RelNames}
use Rattle.spf_reltext.specs.declared.raw.Compare.TheVariants.{Equal, AtMost, Less, AtLeast, Greater}
use Rattle.spf_reltext.specs.declared.raw.Compare.{Compare}
use Rattle.spf_reltext.specs.declared.raw.RawAtom.{RawAtom}
use Rattle.spf_reltext.specs.declared.raw.RawAtom.TheVariants.{Unit, Plain, Entry}
use Rattle.spf_reltext.specs.declared.raw.RawConstraint.{RawConstraint}
use Rattle.spf_reltext.specs.declared.raw.RawIx.{RawIx, RawIx', Row_of-RawMono, end_of-RawMono, more_of-RawMono, out-RawIx}
use Rattle.spf_reltext.specs.declared.raw.RawLiteral.{RawLiteral}
use Rattle.spf_reltext.specs.declared.raw.RawMono.{RawMono}
use Rattle.spf_reltext.specs.declared.rules.Shape.{Shape}
use Rattle.spf_reltext.specs.declared.rules.Shape.TheVariants.{Points, Pairs}
use Rattle.spf_term.specs.declared.term.Atom.{Atom}
use Rattle.spf_term.specs.declared.term.Mono.{Mono, roll-Mono}
use Rattle.spf_term.specs.declared.term.Term.{Term, roll-Term}

-- a number with the sign in front of it
abbrev pub signed : Bool → ℕ → ℤ
signed false n = pos n
signed true n = neg_ℤ (pos n)

-- the sign, or the opposite one
abbrev pub opposite : Bool → Bool → Bool
opposite flips minus = if flips then not minus else minus

-- a number that stands alone
abbrev pub part_with : Bool → ℕ → RawAtom → ℤ
part_with minus number Unit = signed minus number
part_with minus number (Plain name) = pos 0
part_with minus number (Entry name at) = pos 0

abbrev pub part_of : Bool → RawMono → ℤ
part_of flips mono = part_with (opposite flips mono.minus) mono.number mono.atom

-- the sum of the numbers that stand alone
abbrev pub constant_of : Bool → RawIx → ℤ
constant_of flips ix = fold (λ total (mono : RawMono). total +ℤ part_of flips mono) (pos 0) (out-RawIx ix).monos

abbrev pub constant_between : RawIx → RawIx → ℤ → ℤ
constant_between left right number = wrap (constant_of false left +ℤ constant_of true right +ℤ number)

abbrev pub monomial : Bool → ℕ → Atom → List Mono
monomial minus number atom = roll-Mono (record { coef = wrap (signed minus number); atom = atom }) ∷ []

module _ (variables : List (List ℕ)) (names : RelNames) where
  abbrev pub plain_atom : List ℕ → Atom
  plain_atom name = if list_any (bytes_eq name) variables then Atom.Var (number_of variables name) else Atom.Param (number_of names.params name)

  abbrev mutual
    pub term_of : RawIx → Term
    term_of (RawIx' shape monos) = roll-Term (record { monos = monos_of false monos; constant = wrap (constant_of false (RawIx' shape monos)) })

    pub monos_of : {n : _} → Bool → Row_of-RawMono n → List Mono
    monos_of flips end_of-RawMono = []
    monos_of flips (more_of-RawMono minus number atom others) = mono_of (opposite flips minus) number atom ++ monos_of flips others

    -- the monomial, where it has an atom
    pub mono_of : Bool → ℕ → RawAtom → List Mono
    mono_of minus number Unit = []
    mono_of minus number (Plain name) = monomial minus number (plain_atom name)
    mono_of minus number (Entry name at) = monomial minus number (Atom.App (number_of names.funs name) (term_of at))

  -- the monomials, each with its sign or with the opposite one
  abbrev pub ix_monos : Bool → RawIx → List Mono
  ix_monos flips (RawIx' shape monos) = monos_of flips monos

  -- the first less the other, and the number
  abbrev pub difference : RawIx → RawIx → ℤ → Term
  difference left right number = roll-Term (record { monos = ix_monos false left ++ ix_monos true right; constant = constant_between left right number })

  -- `a = b` says that a - b is 0
  abbrev pub equal_by : Compare → RawIx → RawIx → List Term
  equal_by Equal left right = difference left right (pos 0) ∷ []
  equal_by _ left right = []

  -- `a <= b` says that b - a is at least 0, and `a < b` that b - a - 1 is
  abbrev pub least_by : Compare → RawIx → RawIx → List Term
  least_by Equal left right = []
  least_by AtMost left right = difference right left (pos 0) ∷ []
  least_by Less left right = difference right left (neg_ℤ (pos 1)) ∷ []
  least_by AtLeast left right = difference left right (pos 0) ∷ []
  least_by Greater left right = difference left right (neg_ℤ (pos 1)) ∷ []

  abbrev pub equal_terms : RawConstraint → List Term
  equal_terms constraint = equal_by constraint.sign constraint.left constraint.right

  abbrev pub least_terms : RawConstraint → List Term
  least_terms constraint = least_by constraint.sign constraint.left constraint.right

abbrev pub conj_of : RelNames → RawLiteral → Conj
conj_of names literal = record {
  inner = length literal.inner;
  equal = flat_map (equal_terms (variables literal) names) literal.constraints;
  least = flat_map (least_terms (variables literal) names) literal.constraints;
}

abbrev pub ins_of : Shape → ℕ
ins_of (Points arity) = arity
ins_of (Pairs ins outs) = ins

abbrev pub outputs_of : Shape → ℕ
outputs_of (Points arity) = 0
outputs_of (Pairs ins outs) = outs

abbrev pub rel_of : RelNames → List RawLiteral → Rel
rel_of names literals = record { ins = ins_of (shape_of_all literals); outs = outputs_of (shape_of_all literals); conjs = map (conj_of names) literals }

abbrev pub set_of : RelNames → List RawLiteral → Set
set_of names literals = record { arity = ins_of (shape_of_all literals); conjs = map (conj_of names) literals }
