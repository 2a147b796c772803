-- Rules 22 to 24, of the literals of one set or relation. The least rule that some literal breaks is reported.
use Rattle.std.specs.Prelude.{ℕ, ◌==◌, nat_lt, Bool, true, false, not, ◌&&◌, ◌||◌, if◌then◌else◌, List, [], ◌∷◌, ◌++◌, length, count_by, Option, None, Some}
use Rattle.std.specs.List.{list_any}
use Rattle.std.specs.Option.{unwrap_or}
use Rattle.std.specs.Str.{bytes_eq}
use Rattle.spf_reltext.specs.Facts.{constraints_facts, ix_facts}
use Rattle.spf_reltext.specs.declared.fact.Fact.{Fact}
use Rattle.spf_reltext.specs.declared.fact.Role.{Role}
use Rattle.spf_reltext.specs.declared.raw.RawConstraint.{RawConstraint}
use Rattle.spf_reltext.specs.declared.raw.RawIx.{RawIx}
use Rattle.spf_reltext.specs.declared.raw.RawLiteral.{RawLiteral}
use Rattle.spf_reltext.specs.declared.rules.Shape.{Shape}
use Rattle.spf_reltext.specs.declared.rules.Shape.TheVariants.{Points, Pairs}
use Rattle.spf_reltext.specs.declared.rules.TheConstants.{MOST_NAMES, MOST_CONSTRAINTS, MOST_MONOMIALS, LARGEST_FACTOR, LARGEST_NUMBER}
use Rattle.spf_reltext.specs.declared.rules.Wanted.{Wanted}
use Rattle.spf_reltext.specs.declared.rules.Wanted.TheVariants as wanted

-- ---- arities

-- a literal with a tuple of outputs is one of a relation
abbrev pub shape_with : ℕ → Option (List (List ℕ)) → Shape
shape_with ins None = Points ins
shape_with ins (Some outs) = Pairs ins (length outs)

abbrev pub shape_of : RawLiteral → Shape
shape_of literal = shape_with (length literal.ins) literal.outs

-- the shape of the first literal
abbrev pub shape_of_all : List RawLiteral → Shape
shape_of_all [] = Points 0
shape_of_all (literal ∷ literals) = shape_of literal

abbrev pub same_shape : Shape → Shape → Bool
same_shape (Points a) (Points b) = a == b
same_shape (Pairs a b) (Pairs c d) = (a == c) && (b == d)
same_shape _ _ = false

abbrev pub is_wanted : Wanted → Shape → Bool
is_wanted wanted.Set (Points arity) = true
is_wanted wanted.Relation (Pairs ins outs) = true
is_wanted _ _ = false

-- a literal of another shape
abbrev pub differ : Shape → List RawLiteral → Bool
differ shape literals = list_any (λ literal. not (same_shape (shape_of literal) shape)) literals

-- 22: a set where a relation is wanted, or a relation where a set is, or literals of unequal arities
abbrev pub breaks_arities : Wanted → List RawLiteral → Bool
breaks_arities wanted literals = not (is_wanted wanted (shape_of_all literals)) || differ (shape_of_all literals) literals

-- ---- names

abbrev pub outs_of : RawLiteral → List (List ℕ)
outs_of literal = unwrap_or literal.outs []

-- the names of the variables: those of the inputs, of the outputs, and those behind `with`
abbrev pub variables : RawLiteral → List (List ℕ)
variables literal = literal.ins ++ outs_of literal ++ literal.inner

-- the name stands twice among these
abbrev pub is_twice : List (List ℕ) → List ℕ → Bool
is_twice names name = nat_lt 1 (count_by (bytes_eq name) names)

abbrev pub repeats : List (List ℕ) → Bool
repeats names = list_any (is_twice names) names

-- a variable with brackets
abbrev pub is_bracketed : List (List ℕ) → Role → Bool
is_bracketed variables (Role.Entry name) = list_any (bytes_eq name) variables
is_bracketed variables _ = false

abbrev pub names_break : List (List ℕ) → List Fact → Bool
names_break variables facts = repeats variables || list_any (λ (fact : Fact). is_bracketed variables fact.role) facts

-- 23: a name stands twice in the tuples and behind `with`, or one of them has brackets
abbrev pub breaks_names : RawLiteral → Bool
breaks_names literal = names_break (variables literal) (constraints_facts literal.constraints)

-- ---- limits

abbrev pub limit : Role → ℕ
limit Role.Alone = LARGEST_NUMBER
limit _ = LARGEST_FACTOR

abbrev pub is_large : Fact → Bool
is_large fact = nat_lt (limit fact.role) fact.number

-- an index expression with too many monomials, or one with a number that is too large
abbrev pub is_long : RawIx → Bool
is_long ix = nat_lt MOST_MONOMIALS (length (ix_facts ix)) || list_any is_large (ix_facts ix)

abbrev pub has_long_side : RawConstraint → Bool
has_long_side constraint = is_long constraint.left || is_long constraint.right

-- 24: too many names in a tuple or behind `with`, too many constraints, or a side that is too long
abbrev pub breaks_limits : RawLiteral → Bool
breaks_limits literal =
    nat_lt MOST_NAMES (length literal.ins) || nat_lt MOST_NAMES (length (outs_of literal)) || nat_lt MOST_NAMES (length literal.inner) || nat_lt MOST_CONSTRAINTS (length literal.constraints)
    || list_any has_long_side literal.constraints

-- ---- all of them

abbrev pub least_rule : Wanted → List RawLiteral → Option ℕ
least_rule wanted literals =
    if breaks_arities wanted literals then Some 22
    else if list_any breaks_names literals then Some 23
    else if list_any breaks_limits literals then Some 24
    else None
