-- The script language, production by production.
use Rattle.std.specs.Prelude.{ℕ, false, List, [], ◌∷◌}
use Rattle.spf_lex.specs.BundleWords.{same_kind}
use Rattle.spf_lex.specs.Production.{Production, ◌>>=◌, ◌>>◌, ◌<$>◌, ◌or◌, production, last, token, text_of_token, value_of_token, many, separated, one_of, behind, between}
use Rattle.spf_lex.specs.declared.kind.Kind.{Kind}
use Rattle.spf_lex.specs.declared.kind.Kind.TheVariants as kind
use Rattle.spf_script.specs.declared.step.TextSeed.{TextSeed}
use Rattle.spf_script.specs.declared.step.TextSeed.TheVariants.{Block, Spread, Plug}
use Rattle.spf_script.specs.declared.step.TextStep.{TextStep}
use Rattle.spf_script.specs.declared.step.TextStep.TheVariants.{Cpack, LexGroup, LexSort, Bucket, Tile, TilePack}

abbrev pub Syntax : Type 0 → Type 0
Syntax A = Production same_kind false A

unfoldable pub name : Syntax (List ℕ)
name = text_of_token kind.Name

-- a number of any value
unfoldable pub number : Syntax ℕ
number = value_of_token kind.One or value_of_token kind.Number

unfoldable pub names : Syntax (List (List ℕ))
names = separated kind.Comma name

-- `NAME {"," NAME} "by" NAME ";"` behind `cpack`
unfoldable pub cpack : Syntax TextStep
cpack = production (do
  token kind.Cpack
  arrays ← names
  token kind.By
  by ← name
  last (token kind.Semicolon) (λ _. Cpack arrays by))

-- `NAME "by" NAME ";"` behind this word
unfoldable pub order : Kind → (List ℕ → List ℕ → TextStep) → Syntax TextStep
order word make = production (do
  token word
  of ← name
  token kind.By
  by ← name
  last (token kind.Semicolon) (λ _. make of by))

unfoldable pub bucket : Syntax TextStep
bucket = production (do
  token kind.Bucket
  of ← name
  token kind.By
  by ← name
  token kind.Size
  size ← number
  last (token kind.Semicolon) (λ _. Bucket of by size))

unfoldable pub seed : Syntax TextSeed
seed = one_of (kind.Block, Block) ((kind.Spread, Spread) ∷ []) or (Plug <$> behind kind.Plug number)

unfoldable pub tile : Syntax TextStep
tile = production (do
  token kind.Tile
  of ← name
  token kind.At
  step ← number
  token kind.Seed
  seed ← seed
  parts ← number
  last (token kind.Semicolon) (λ _. Tile of step seed parts))

unfoldable pub tilepack : Syntax TextStep
tilepack = production (do
  token kind.Tilepack
  arrays ← names
  last (token kind.Semicolon) (λ _. TilePack arrays))

unfoldable pub step : Syntax TextStep
step = cpack or (order kind.Lexgroup LexGroup or (order kind.Lexsort LexSort or (bucket or (tile or tilepack))))

unfoldable pub script : Syntax (List TextStep)
script = behind kind.Script (between kind.OpenBrace kind.CloseBrace (many step))
