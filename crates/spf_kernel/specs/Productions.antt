-- The language of kernels, production by production. A depth says how deep brackets or parentheses may still stand.
use Rattle.std.specs.Prelude.{ℕ, zero, suc, ◌-◌, Bool, true, false, [], ◌∷◌, Option, None, Some}
use Rattle.spf_lex.specs.BundleWords.{same_kind}
use Rattle.spf_lex.specs.Production.{Production, ◌>>=◌, ◌>>◌, ◌<$>◌, ◌or◌, production, last, token, nothing, optional, flag, many, and_more, separated, one_of, behind, between}
use Rattle.spf_kernel.specs.Types.{Kind, Token, BRACKETS, PARENTHESES, RawIx, roll-RawIx, RawStep, roll-RawStep, RawMono, RawAtom, roll-RawAtom, RawValue, roll-RawValue, RawSummand, roll-RawSummand, RawFactor, RawAssign, RawCond, RawGuard, RawRange, RawPart, RawItem, RawLoop, RawSized, RawDecl, RawKernel, Compare, Trend}
unfoldable pub use Rattle.spf_kernel.specs.Signs.{becomes}
use Rattle.spf_kernel.specs.declared.raw.RawMono.TheVariants as mono_is
use Rattle.spf_kernel.specs.declared.raw.RawFactor.TheVariants as factor_is

-- a production of which nothing is no text
abbrev pub Syntax : Type 0 → Type 0
Syntax A = Production same_kind false A

abbrev pub braced : {A : Type 0} {empty : Bool} → Production same_kind empty A → Syntax A
braced p = between Kind.OpenBrace Kind.CloseBrace p

-- ---- index expressions

-- a number of any value
unfoldable pub number : Syntax Token
number = token Kind.One or token Kind.Number

-- `+` or `-`, and the token of a `-`
unfoldable pub sign : Syntax (Option Token)
sign = ((λ _. None) <$> token Kind.Plus) or (Some <$> token Kind.Minus)

abbrev pub step : Option Token → RawMono → RawStep
step minus mono = roll-RawStep (record { minus = minus; mono = mono })

module _ (atom : Syntax RawAtom) where
  -- `NUMBER ["*" atom]`
  unfoldable pub numbered : Syntax RawMono
  numbered = production (do
    number ← number
    last (optional (behind Kind.Star atom)) (λ times. mono_is.Number number times))

  unfoldable pub mono : Syntax RawMono
  mono = numbered or (mono_is.Atom <$> atom)

  unfoldable pub first_step : Syntax RawStep
  first_step = production (do
    minus ← optional (token Kind.Minus)
    last mono (λ mono. step minus mono))

  unfoldable pub next_step : Syntax RawStep
  next_step = production (do
    minus ← sign
    last mono (λ mono. step minus mono))

  -- `["-"] mono {("+" | "-") mono}`
  unfoldable pub sum : Syntax RawIx
  sum = (λ steps. roll-RawIx (record { steps = steps })) <$> and_more first_step next_step

abbrev pub named : Token → Option RawIx → RawAtom
named name at = roll-RawAtom (record { name = name; at = at })

-- a name, and what may stand in brackets behind it
unfoldable pub subscripted : Syntax RawIx → Syntax RawAtom
subscripted ix = production (do
  name ← token Kind.Name
  last (optional (between Kind.OpenBracket Kind.CloseBracket ix)) (λ at. named name at))

unfoldable pub atom : ℕ → Syntax RawAtom
atom zero = (λ name. named name None) <$> token Kind.Name
atom (suc depth) = subscripted (sum (atom depth))

unfoldable pub ix : ℕ → Syntax RawIx
ix depth = sum (atom depth)

-- an index expression in brackets
unfoldable pub in_brackets : Syntax RawIx
in_brackets = between Kind.OpenBracket Kind.CloseBracket (ix (BRACKETS - 1))

-- ---- values

abbrev pub summand : Bool → Rattle.std.specs.Prelude.List RawFactor → RawSummand
summand minus facts = roll-RawSummand (record { minus = minus; facts = facts })

module _ (fact : Syntax RawFactor) where
  -- `fact {"*" fact}`
  unfoldable pub first_summand : Syntax RawSummand
  first_summand = production (do
    minus ← flag Kind.Minus
    last (separated Kind.Star fact) (λ facts. summand minus facts))

  unfoldable pub next_summand : Syntax RawSummand
  next_summand = production (do
    minus ← one_of (Kind.Plus, false) ((Kind.Minus, true) ∷ [])
    last (separated Kind.Star fact) (λ facts. summand minus facts))

  unfoldable pub value_of : Syntax RawValue
  value_of = (λ summands. roll-RawValue (record { summands = summands })) <$> and_more first_summand next_summand

unfoldable pub plain : Syntax RawFactor
plain = factor_is.Name <$> atom BRACKETS

unfoldable pub nested : Syntax RawValue → Syntax RawFactor
nested value = (factor_is.Paren <$> between Kind.OpenParenthesis Kind.CloseParenthesis value) or plain

unfoldable pub fact : ℕ → Syntax RawFactor
fact zero = (factor_is.Number <$> number) or plain
fact (suc depth) = (factor_is.Number <$> number) or nested (value_of (fact depth))

unfoldable pub value : ℕ → Syntax RawValue
value depth = value_of (fact depth)

-- ---- statements

unfoldable pub assign : Syntax RawAssign
assign = production (do
  array ← token Kind.Name
  at ← in_brackets
  sign ← becomes
  value ← value PARENTHESES
  last (token Kind.Semicolon) (λ _. record { array = array; at = at; sign = sign; value = value }))

unfoldable pub compare : Syntax Compare
compare =
    one_of (Kind.Equal, Compare.Equal)
    ((Kind.Unequal, Compare.Unequal) ∷ (Kind.Less, Compare.Less) ∷ (Kind.AtMost, Compare.AtMost) ∷ (Kind.Greater, Compare.Greater) ∷ (Kind.AtLeast, Compare.AtLeast) ∷ [])

unfoldable pub cond : Syntax RawCond
cond = production (do
  left ← ix BRACKETS
  sign ← compare
  last (ix BRACKETS) (λ right. record { left = left; sign = sign; right = right }))

unfoldable pub guard : Syntax RawGuard
guard = production (do
  token Kind.If
  conds ← separated Kind.And cond
  last (braced (many assign)) (λ body. record { conds = conds; body = body }))

-- `NAME "in" ix ".." ix`
unfoldable pub range : Syntax RawRange
range = production (do
  var ← token Kind.Name
  token Kind.In
  low ← ix BRACKETS
  token Kind.Range
  last (ix BRACKETS) (λ high. record { var = var; low = low; high = high }))

unfoldable pub part : Syntax RawPart
part = (RawPart.Assign <$> assign) or (RawPart.Guard <$> guard)

unfoldable pub inner : Syntax RawItem
inner = production (do
  token Kind.For
  range ← range
  last (braced (many part)) (λ parts. RawItem.Inner range parts))

unfoldable pub item : Syntax RawItem
item = (RawItem.Part <$> part) or inner

unfoldable pub one_loop : Syntax RawLoop
one_loop = production (do
  token Kind.Loop
  name ← token Kind.Name
  range ← between Kind.OpenParenthesis Kind.CloseParenthesis range
  last (braced (many item)) (λ items. record { name = name; range = range; items = items }))

-- ---- declarations

unfoldable pub params : Syntax RawDecl
params = production (do
  token Kind.Param
  names ← separated Kind.Comma (token Kind.Name)
  last (token Kind.Semicolon) (λ _. RawDecl.Params names))

-- `NAME "[" ix "]"`
unfoldable pub sized : Syntax RawSized
sized = production (do
  name ← token Kind.Name
  last in_brackets (λ size. record { name = name; size = size }))

unfoldable pub trend : Production same_kind true Trend
trend = one_of (Kind.Monotone, Trend.Monotone) ((Kind.Strict, Trend.Strict) ∷ []) or ((λ _. Trend.Free) <$> nothing)

unfoldable pub index : Syntax RawDecl
index = production (do
  token Kind.Index
  array ← sized
  token Kind.In
  low ← ix BRACKETS
  token Kind.Range
  high ← ix BRACKETS
  trend ← trend
  last (token Kind.Semicolon) (λ _. RawDecl.Index array low high trend))

unfoldable pub values : Syntax RawDecl
values = production (do
  token Kind.Data
  arrays ← separated Kind.Comma sized
  last (token Kind.Semicolon) (λ _. RawDecl.Values arrays))

unfoldable pub decl : Syntax RawDecl
decl = params or (index or values)

unfoldable pub kernel : Syntax RawKernel
kernel = production (do
  token Kind.Kernel
  token Kind.OpenBrace
  decls ← many decl
  token Kind.Steps
  steps ← ix BRACKETS
  token Kind.Semicolon
  loops ← many one_loop
  last (token Kind.CloseBrace) (λ _. record { decls = decls; steps = steps; loops = loops }))
