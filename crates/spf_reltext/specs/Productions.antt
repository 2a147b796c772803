-- The language of literals, production by production. A depth says how deep brackets may still stand.
use Rattle.std.specs.Prelude.{ℕ, zero, suc, Bool, true, false, List, [], ◌∷◌, Option, None, Some}
use Rattle.std.specs.Option.{unwrap_or}
use Rattle.spf_lex.specs.Production.{Production, ◌>>=◌, ◌>>◌, ◌<$>◌, ◌or◌, production, last, token, optional, flag, and_more, separated, one_of, behind, between, text_of_token, value_of_token}
use Rattle.spf_reltext.specs.CalcWords.{same_kind}
use Rattle.spf_reltext.specs.declared.ix.TheConstants.{BRACKETS}
use Rattle.spf_reltext.specs.declared.kind.CalcKind.TheVariants as kind
use Rattle.spf_reltext.specs.declared.literal.Literals.{Literals}
use Rattle.spf_reltext.specs.declared.raw.Compare.{Compare}
use Rattle.spf_reltext.specs.declared.raw.Compare.TheVariants.{Equal, AtMost, Less, AtLeast, Greater}
use Rattle.spf_reltext.specs.declared.raw.Product.{Product}
use Rattle.spf_reltext.specs.declared.raw.RawAtom.{RawAtom}
use Rattle.spf_reltext.specs.declared.raw.RawAtom.TheVariants.{Unit, Plain, Entry}
use Rattle.spf_reltext.specs.declared.raw.RawConstraint.{RawConstraint}
use Rattle.spf_reltext.specs.declared.raw.RawIx.{RawIx, roll-RawIx}
use Rattle.spf_reltext.specs.declared.raw.RawLiteral.{RawLiteral}
use Rattle.spf_reltext.specs.declared.raw.RawMono.{RawMono, roll-RawMono}

-- a production of which nothing is no text
abbrev pub Syntax : Type 0 → Type 0
Syntax A = Production same_kind false A

unfoldable pub name : Syntax (List ℕ)
name = text_of_token kind.Name

-- a number of any value
unfoldable pub number : Syntax ℕ
number = value_of_token kind.One or value_of_token kind.Number

-- ---- index expressions

-- a number, and what stands behind it
abbrev pub product : ℕ → Option RawAtom → Product
product number None = record { number = number; atom = Unit }
product number (Some atom) = record { number = number; atom = atom }

abbrev pub signed : Bool → Product → RawMono
signed minus product = roll-RawMono (record { minus = minus; number = product.number; atom = product.atom })

module _ (atom : Syntax RawAtom) where
  -- `NUMBER ["*" atom]`
  unfoldable pub numbered : Syntax Product
  numbered = production (do
    number ← number
    last (optional (behind kind.Star atom)) (λ times. product number times))

  unfoldable pub mono : Syntax Product
  mono = numbered or ((λ atom. product 1 (Some atom)) <$> atom)

  unfoldable pub first_mono : Syntax RawMono
  first_mono = production (do
    minus ← flag kind.Minus
    last mono (λ mono. signed minus mono))

  unfoldable pub next_mono : Syntax RawMono
  next_mono = production (do
    minus ← one_of (kind.Plus, false) ((kind.Minus, true) ∷ [])
    last mono (λ mono. signed minus mono))

  -- `["-"] mono {("+" | "-") mono}`
  unfoldable pub sum : Syntax RawIx
  sum = (λ monos. roll-RawIx (record { monos = monos })) <$> and_more first_mono next_mono

abbrev pub named : List ℕ → Option RawIx → RawAtom
named name None = Plain name
named name (Some at) = Entry name at

-- a name, and what may stand in brackets behind it
unfoldable pub subscripted : Syntax RawIx → Syntax RawAtom
subscripted ix = production (do
  name ← name
  last (optional (between kind.OpenBracket kind.CloseBracket ix)) (λ at. named name at))

unfoldable pub atom : ℕ → Syntax RawAtom
atom zero = (λ name. Plain name) <$> name
atom (suc depth) = subscripted (sum (atom depth))

unfoldable pub ix : ℕ → Syntax RawIx
ix depth = sum (atom depth)

-- ---- literals

unfoldable pub compare : Syntax Compare
compare = one_of (kind.Equals, Equal) ((kind.AtMost, AtMost) ∷ (kind.Less, Less) ∷ (kind.AtLeast, AtLeast) ∷ (kind.Greater, Greater) ∷ [])

unfoldable pub constraint : Syntax RawConstraint
constraint = production (do
  left ← ix BRACKETS
  sign ← compare
  last (ix BRACKETS) (λ right. record { left = left; sign = sign; right = right }))

unfoldable pub names : Syntax (List (List ℕ))
names = separated kind.Comma name

-- what isn't there is an empty list
abbrev pub or_none : {A : Type 0} → Option (List A) → List A
or_none found = unwrap_or found []

-- `"[" [NAME {"," NAME}] "]"`
unfoldable pub tuple : Syntax (List (List ℕ))
tuple = between kind.OpenBracket kind.CloseBracket (or_none <$> optional names)

-- `"with" NAME {"," NAME}`, where it stands
unfoldable pub inner : Production same_kind true (List (List ℕ))
inner = or_none <$> optional (behind kind.With names)

-- `":" cons {"and" cons}`, where it stands
unfoldable pub constraints : Production same_kind true (List RawConstraint)
constraints = or_none <$> optional (behind kind.Colon (separated kind.And constraint))

unfoldable pub literal : Syntax RawLiteral
literal = production (do
  token kind.OpenBrace
  ins ← tuple
  outs ← optional (behind kind.Arrow tuple)
  inner ← inner
  constraints ← constraints
  last (token kind.CloseBrace) (λ _. record { ins = ins; outs = outs; inner = inner; constraints = constraints }))

-- `lit {"|" lit}`
unfoldable pub literals : Syntax Literals
literals = (λ list. record { list = list }) <$> separated kind.Bar literal
