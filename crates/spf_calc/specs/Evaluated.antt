-- The names of a text's parameters and functions, and the values that its expressions have.
use Rattle.std.specs.Prelude.{◌≡◌, false, List, [], fold, Option, Some, IfSome, IsSome}
use Rattle.spf_reltext.specs.Names as literal
use Rattle.spf_reltext.specs.Resolved.{rel_of, set_of}
use Rattle.spf_reltext.specs.Rules.{shape_of_all}
use Rattle.spf_reltext.specs.declared.names.RelNames.{RelNames}
use Rattle.spf_reltext.specs.declared.raw.RawLiteral.{RawLiteral}
use Rattle.spf_reltext.specs.declared.rules.Shape.{Shape}
use Rattle.spf_reltext.specs.declared.rules.Shape.TheVariants as kind
use Rattle.spf_calc.specs.Rules.{breaks_limits, exp_of, is_uneven, kind_of, value_named}
use Rattle.spf_calc.specs.Values.{Becomes, InverseBecomes, IsFormedValue, MadeBecomes, ResultBecomes, empty, shape_of}
use Rattle.spf_calc.specs.declared.raw.RawExp.{RawExp, Inverse', Two', more_of-RawExp, end_of-RawExp}
use Rattle.spf_calc.specs.declared.raw.RawExp.TheVariants.{Named, Literals, Nothing}
use Rattle.spf_calc.specs.declared.raw.RawStatement.{RawStatement}
use Rattle.spf_calc.specs.declared.value.Binding.{Binding}
use Rattle.spf_calc.specs.declared.value.Value.{Value}
use Rattle.spf_calc.specs.declared.value.Value.TheVariants.{Points, Pairs}

-- the names, and behind them those that the expression uses first, in the order of the text
abbrev pub exp_names : RelNames → RawExp → RelNames
exp_names names (Named name) = names
exp_names names (Nothing ins outs) = names
exp_names names (Literals literals) = literal.names_of names literals.list
exp_names names (Inverse' shape (more_of-RawExp exp end_of-RawExp)) = exp_names names exp
exp_names names (Two' operation shape (more_of-RawExp first end_of-RawExp) other (more_of-RawExp second end_of-RawExp)) = exp_names (exp_names names first) second

abbrev pub no_names : RelNames
no_names = record { params = []; funs = [] }

abbrev pub names_of : RelNames → List RawStatement → RelNames
names_of names statements = fold (λ (names : RelNames) statement. exp_names names (exp_of statement)) names statements

-- the set or relation that literals of this shape mean
abbrev pub meant : RelNames → Shape → List RawLiteral → Value
meant names (kind.Points arity) literals = Points (set_of names literals)
meant names (kind.Pairs ins outs) literals = Pairs (rel_of names literals)

module _ (names : RelNames) (bindings : List Binding) where
  -- what an expression gives whose operands fit: each result on the way is simplified; none where one is too wide
  abbrev pub Gives : RawExp → Option Value → Type 0
  Gives (Named name) outcome = MadeBecomes (value_named bindings name) outcome
  Gives (Literals literals) outcome = Becomes (meant names (shape_of_all literals.list) literals.list) outcome
  Gives (Nothing ins outs) outcome = Becomes (empty ins outs) outcome
  Gives (Inverse' shape (more_of-RawExp exp end_of-RawExp)) outcome = (inside : Option Value) × Gives exp inside × InverseBecomes inside outcome
  Gives (Two' operation shape (more_of-RawExp first end_of-RawExp) other (more_of-RawExp second end_of-RawExp)) outcome = (a : Option Value) × (b : Option Value) × Gives first a × Gives second b × ResultBecomes operation a b outcome

-- all operands in the expression fit, and its literals are within their limits
pub record IsFit (bindings : List Binding) (exp : RawExp) : Type 0 where
  pub even : is_uneven exp ≡ false
  pub limits : breaks_limits exp ≡ false
  pub fits : IsSome (kind_of bindings exp)

-- what the expression gives, which has its shape
pub record IsOutcome (names : RelNames) (bindings : List Binding) (exp : RawExp) (outcome : Option Value) : Type 0 where
  pub gives : Gives names bindings exp outcome
  pub shape : IfSome outcome (λ value. Some (shape_of value) ≡ kind_of bindings exp)
  pub formed : IfSome outcome IsFormedValue
