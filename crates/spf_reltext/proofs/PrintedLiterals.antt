-- The raw literals that printed conjunctions are read as, and the words that they are printed as.
use Rattle.std.proofs.Common.{ℕ, Bool, true, false, List, [], ◌∷◌, ◌++◌, map, flat_map, Option, Some, None, unwrap_or, codes}
use Rattle.std.specs.List.{range_with_len}
use Rattle.spf_rel.specs.declared.relation.Conj.{Conj}
use Rattle.spf_reltext.proofs.PrintedRaws.{raw_term, term_words}
use Rattle.spf_reltext.proofs.SidesPrinted.{side_term}
use Rattle.spf_reltext.specs.Printed.{Naming, numbered, rel_naming}
use Rattle.spf_reltext.specs.declared.names.RelNames.{RelNames}
use Rattle.spf_reltext.specs.declared.print_sides.Side.TheVariants.{Left, Right}
use Rattle.spf_reltext.specs.declared.raw.Compare.{Compare}
use Rattle.spf_reltext.specs.declared.raw.Compare.TheVariants.{Equal, AtLeast}
use Rattle.spf_reltext.specs.declared.raw.RawConstraint.{RawConstraint}
use Rattle.spf_reltext.specs.declared.raw.RawLiteral.{RawLiteral}
use Rattle.spf_term.specs.declared.term.Term.{Term}

-- the words of the parts, with this word between two
abbrev pub list_words : {A : Type 0} → List ℕ → (A → List (List ℕ)) → List A → List (List ℕ)
list_words between print [] = []
list_words between print (x ∷ xs) = print x ++ flat_map (λ y. between ∷ print y) xs

-- behind a word, where there are parts
abbrev pub led_words : {A : Type 0} → List ℕ → List ℕ → (A → List (List ℕ)) → List A → List (List ℕ)
led_words opening between print [] = []
led_words opening between print (x ∷ xs) = opening ∷ list_words between print (x ∷ xs)

-- ---- names of variables

abbrev pub numbers : ℕ → List ℕ
numbers count = range_with_len 0 count

abbrev pub letters : List ℕ → ℕ → List (List ℕ)
letters letter count = map (numbered letter) (numbers count)

abbrev pub letter_words : List ℕ → ℕ → List (List ℕ)
letter_words letter n = numbered letter n ∷ []

abbrev pub tuple_words : List ℕ → ℕ → List (List ℕ)
tuple_words letter count = codes "[" ∷ (list_words (codes ",") (letter_words letter) (numbers count) ++ codes "]" ∷ [])

abbrev pub outs_words : Option ℕ → List (List ℕ)
outs_words None = []
outs_words (Some outs) = codes "->" ∷ tuple_words (codes "Y") outs

abbrev pub raw_outs : Option ℕ → Option (List (List ℕ))
raw_outs None = None
raw_outs (Some outs) = Some (letters (codes "Y") outs)

-- ---- constraints: a term, and whether it is 0 or at least 0

abbrev pub Constraint : Type 0
Constraint = Bool × Term

abbrev pub compare_of : Bool → Compare
compare_of true = Equal
compare_of false = AtLeast

abbrev pub sign_of : Bool → List ℕ
sign_of true = codes "="
sign_of false = codes ">="

abbrev pub constraints_of : Conj → List Constraint
constraints_of conj = map (λ (term : Term). (true, term)) conj.equal ++ map (λ (term : Term). (false, term)) conj.least

module _ (naming : Naming) where
  abbrev pub raw_constraint : Constraint → RawConstraint
  raw_constraint x = record { left = raw_term naming (side_term Left x.1); sign = compare_of x.0; right = raw_term naming (side_term Right x.1) }

  abbrev pub constraint_words : Constraint → List (List ℕ)
  constraint_words x = term_words naming (side_term Left x.1) ++ (sign_of x.0 ∷ term_words naming (side_term Right x.1))

-- ---- literals

module _ (ins : ℕ) (outs : Option ℕ) (names : RelNames) where
  abbrev pub naming_of : Naming
  naming_of = rel_naming ins (unwrap_or outs 0) names

  abbrev pub raw_literal : Conj → RawLiteral
  raw_literal conj = record {
    ins = letters (codes "X") ins;
    outs = raw_outs outs;
    inner = letters (codes "E") conj.inner;
    constraints = map (raw_constraint naming_of) (constraints_of conj);
  }

  abbrev pub literal_words : Conj → List (List ℕ)
  literal_words conj =
      codes "{" ∷ (tuple_words (codes "X") ins ++ (outs_words outs ++ (led_words (codes "with") (codes ",") (letter_words (codes "E")) (numbers conj.inner)
      ++ (led_words (codes ":") (codes "and") (constraint_words naming_of) (constraints_of conj) ++ codes "}" ∷ []))))

  abbrev pub conjs_words : List Conj → List (List ℕ)
  conjs_words conjs = list_words (codes "|") literal_words conjs
