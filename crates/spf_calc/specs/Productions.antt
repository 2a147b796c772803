-- The language of calculator texts, production by production. A depth says how many operations may still stand within one another.
use Rattle.std.specs.Prelude.{ℕ, zero, suc, [], ◌∷◌}
use Rattle.spf_lex.specs.Production.{◌>>=◌, ◌>>◌, ◌<$>◌, ◌or◌, production, last, token, optional, many, one_of, behind, between}
use Rattle.spf_reltext.specs.Productions.{Syntax, name, number, literals}
use Rattle.spf_reltext.specs.declared.kind.CalcKind.TheVariants as kind
use Rattle.spf_calc.specs.declared.exp.TheConstants.{NESTING}
use Rattle.spf_calc.specs.declared.raw.Operation.{Operation}
use Rattle.spf_calc.specs.declared.raw.Operation.TheVariants.{Compose, Apply, Union, Intersect, Restrict}
use Rattle.spf_calc.specs.declared.raw.RawCalc.{RawCalc}
use Rattle.spf_calc.specs.declared.raw.RawExp.{RawExp}
use Rattle.spf_calc.specs.declared.raw.RawExp.TheVariants.{Named, Literals, Nothing, Inverse, Two}
use Rattle.spf_calc.specs.declared.raw.RawStatement.{RawStatement}
use Rattle.spf_calc.specs.declared.raw.RawStatement.TheVariants.{Let, Show, Function}

-- ---- expressions

unfoldable pub operation : Syntax Operation
operation = one_of (kind.Compose, Compose) ((kind.Apply, Apply) ∷ (kind.Union, Union) ∷ (kind.Intersect, Intersect) ∷ (kind.Restrict, Restrict) ∷ [])

-- `"none" "(" NUMBER ["," NUMBER] ")"`
unfoldable pub nothing : Syntax RawExp
nothing = production (do
  token kind.Nothing
  token kind.OpenParenthesis
  ins ← number
  outs ← optional (behind kind.Comma number)
  last (token kind.CloseParenthesis) (λ _. Nothing ins outs))

unfoldable pub leaf : Syntax RawExp
leaf = (Named <$> name) or ((Literals <$> literals) or nothing)

module _ (exp : Syntax RawExp) where
  -- `op "(" rexp "," rexp ")"`
  unfoldable pub two : Syntax RawExp
  two = production (do
    operation ← operation
    token kind.OpenParenthesis
    first ← exp
    token kind.Comma
    second ← exp
    last (token kind.CloseParenthesis) (λ _. Two operation first second))

  -- `"inverse" "(" rexp ")"`
  unfoldable pub inverse : Syntax RawExp
  inverse = Inverse <$> behind kind.Inverse (between kind.OpenParenthesis kind.CloseParenthesis exp)

  unfoldable pub nested : Syntax RawExp
  nested = two or (inverse or leaf)

unfoldable pub exp : ℕ → Syntax RawExp
exp zero = leaf
exp (suc depth) = nested (exp depth)

-- ---- statements

-- `"let" NAME "=" rexp ";"`
unfoldable pub binding : Syntax RawStatement
binding = production (do
  token kind.Let
  name ← name
  token kind.Equals
  exp ← exp NESTING
  last (token kind.Semicolon) (λ _. Let name exp))

-- `"show" rexp ";"`
unfoldable pub show : Syntax RawStatement
show = production (do
  token kind.Show
  exp ← exp NESTING
  last (token kind.Semicolon) (λ _. Show exp))

-- `"function" rexp ";"`
unfoldable pub function : Syntax RawStatement
function = production (do
  token kind.Function
  exp ← exp NESTING
  last (token kind.Semicolon) (λ _. Function exp))

unfoldable pub statement : Syntax RawStatement
statement = binding or (show or function)

-- `"calc" ONE {stmt}`
unfoldable pub calc : Syntax RawCalc
calc = production (do
  token kind.Calc
  token kind.One
  last (many statement) (λ statements. record { statements = statements }))
