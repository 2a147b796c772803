-- Rules 21 to 24, of a statement behind others. Rules 23 and 24 are those of its literals, and of what else has a limit.
use Rattle.std.specs.Prelude.{ℕ, nat_lt, Bool, true, false, not, ◌||◌, if◌then◌else◌, List, Option, None, Some}
use Rattle.std.specs.List.{find, list_any}
use Rattle.std.specs.Option.{option_map, unwrap_or}
use Rattle.std.specs.Str.{bytes_eq}
use Rattle.spf_reltext.specs.Rules as literal
use Rattle.spf_reltext.specs.declared.rules.Shape.{Shape}
use Rattle.spf_reltext.specs.declared.rules.Shape.TheVariants as kind
use Rattle.spf_calc.specs.Values.{fits, result_shape, shape_of}
use Rattle.spf_calc.specs.declared.raw.Operation.{Operation}
use Rattle.spf_calc.specs.declared.raw.RawExp.{RawExp, Inverse', Two', more_of-RawExp, end_of-RawExp}
use Rattle.spf_calc.specs.declared.raw.RawExp.TheVariants.{Named, Literals, Nothing}
use Rattle.spf_calc.specs.declared.raw.RawStatement.{RawStatement}
use Rattle.spf_calc.specs.declared.raw.RawStatement.TheVariants.{Let, Show, Function}
use Rattle.spf_calc.specs.declared.rules.TheConstants.{MOST_ARITY, MOST_STATEMENTS}
use Rattle.spf_calc.specs.declared.value.Binding.{Binding}
use Rattle.spf_calc.specs.declared.value.Value.{Value}

-- ---- expressions

-- the value that was given this name
abbrev pub value_named : List Binding → List ℕ → Option Value
value_named bindings name = option_map (λ (binding : Binding). binding.value) (find (λ (binding : Binding). bytes_eq binding.name name) bindings)

abbrev pub is_given : List Binding → List ℕ → Bool
is_given bindings name = list_any (λ (binding : Binding). bytes_eq binding.name name) bindings

-- a name stands in it that isn't given
abbrev pub misses : List Binding → RawExp → Bool
misses bindings (Named name) = not (is_given bindings name)
misses bindings (Literals literals) = false
misses bindings (Nothing ins outs) = false
misses bindings (Inverse' shape (more_of-RawExp exp end_of-RawExp)) = misses bindings exp
misses bindings (Two' operation shape (more_of-RawExp first end_of-RawExp) other (more_of-RawExp second end_of-RawExp)) = misses bindings first || misses bindings second

-- the shape of an operation's result, where the operands have one and fit
abbrev pub fitting : Operation → Option Shape → Option Shape → Option Shape
fitting operation (Some first) (Some second) = if fits operation first second then Some (result_shape operation first second) else None
fitting operation _ _ = None

abbrev pub turned : Option Shape → Option Shape
turned (Some (kind.Pairs ins outs)) = Some (kind.Pairs outs ins)
turned _ = None

abbrev pub empty_shape : ℕ → Option ℕ → Shape
empty_shape ins None = kind.Points ins
empty_shape ins (Some outs) = kind.Pairs ins outs

-- the shape of the result, where operands fit everywhere
abbrev pub kind_of : List Binding → RawExp → Option Shape
kind_of bindings (Named name) = option_map shape_of (value_named bindings name)
kind_of bindings (Literals literals) = Some (literal.shape_of_all literals.list)
kind_of bindings (Nothing ins outs) = Some (empty_shape ins outs)
kind_of bindings (Inverse' shape (more_of-RawExp exp end_of-RawExp)) = turned (kind_of bindings exp)
kind_of bindings (Two' operation shape (more_of-RawExp first end_of-RawExp) other (more_of-RawExp second end_of-RawExp)) = fitting operation (kind_of bindings first) (kind_of bindings second)

-- literals of unequal shapes stand in one list
abbrev pub is_uneven : RawExp → Bool
is_uneven (Named name) = false
is_uneven (Nothing ins outs) = false
is_uneven (Literals literals) = literal.differ (literal.shape_of_all literals.list) literals.list
is_uneven (Inverse' shape (more_of-RawExp exp end_of-RawExp)) = is_uneven exp
is_uneven (Two' operation shape (more_of-RawExp first end_of-RawExp) other (more_of-RawExp second end_of-RawExp)) = is_uneven first || is_uneven second

abbrev pub breaks_names : RawExp → Bool
breaks_names (Named name) = false
breaks_names (Nothing ins outs) = false
breaks_names (Literals literals) = list_any literal.breaks_names literals.list
breaks_names (Inverse' shape (more_of-RawExp exp end_of-RawExp)) = breaks_names exp
breaks_names (Two' operation shape (more_of-RawExp first end_of-RawExp) other (more_of-RawExp second end_of-RawExp)) = breaks_names first || breaks_names second

abbrev pub breaks_limits : RawExp → Bool
breaks_limits (Named name) = false
breaks_limits (Literals literals) = list_any literal.breaks_limits literals.list
breaks_limits (Nothing ins outs) = nat_lt MOST_ARITY ins || nat_lt MOST_ARITY (unwrap_or outs 0)
breaks_limits (Inverse' shape (more_of-RawExp exp end_of-RawExp)) = breaks_limits exp
breaks_limits (Two' operation shape (more_of-RawExp first end_of-RawExp) other (more_of-RawExp second end_of-RawExp)) = breaks_limits first || breaks_limits second

-- ---- statements

abbrev pub exp_of : RawStatement → RawExp
exp_of (Let name exp) = exp
exp_of (Show exp) = exp
exp_of (Function exp) = exp

-- 21: a name isn't given earlier, or one is given again
abbrev pub breaks_given : List Binding → RawStatement → Bool
breaks_given bindings (Let name exp) = is_given bindings name || misses bindings exp
breaks_given bindings (Show exp) = misses bindings exp
breaks_given bindings (Function exp) = misses bindings exp

-- a statement shows a function of a relation alone
abbrev pub is_good : RawStatement → Option Shape → Bool
is_good statement None = false
is_good (Function exp) (Some (kind.Points arity)) = false
is_good _ _ = true

-- 22: a set stands where a relation must, or a relation where a set must, or arities don't fit
abbrev pub breaks_kinds : List Binding → RawStatement → Bool
breaks_kinds bindings statement = is_uneven (exp_of statement) || not (is_good statement (kind_of bindings (exp_of statement)))

-- the least rule of 21 to 24 that the statement with this number breaks; the first statement has number 1
abbrev pub least_rule : List Binding → ℕ → RawStatement → Option ℕ
least_rule bindings number statement =
    if breaks_given bindings statement then Some 21
    else if breaks_kinds bindings statement then Some 22
    else if breaks_names (exp_of statement) then Some 23
    else if nat_lt MOST_STATEMENTS number || breaks_limits (exp_of statement) then Some 24
    else None
