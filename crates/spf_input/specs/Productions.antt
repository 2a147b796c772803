-- The input part of a bundle, production by production.
use Rattle.std.specs.Prelude.{false, true, ⊤}
use Rattle.spf_lex.specs.BundleWords.{same_kind}
use Rattle.spf_lex.specs.Production.{Production, ◌>>=◌, ◌>>◌, ◌<$>◌, ◌or◌, production, last, token, flag, many, behind, between}
use Rattle.spf_lex.specs.declared.cursor.Token.{Token}
use Rattle.spf_lex.specs.declared.kind.Kind.TheVariants as kind
use Rattle.spf_input.specs.declared.entries.RawEntry.{RawEntry}
use Rattle.spf_input.specs.declared.entries.RawInput.{RawInput}
use Rattle.spf_input.specs.declared.bundle.RawBundle.{RawBundle}
use Rattle.spf_kernel.specs.Productions.{kernel}
use Rattle.spf_script.specs.Productions.{script}

abbrev pub Syntax : Type 0 → Type 0
Syntax A = Production same_kind false A

-- `["-"] NUMBER`
unfoldable pub given : Syntax Token
given = production (do
  flag kind.Minus
  last (token kind.One or token kind.Number) (λ number. number))

-- any number of them
unfoldable pub values : Production same_kind true ⊤
values = (λ _. tt) <$> many given

-- `NAME "=" {["-"] NUMBER} ";"`: the values stand behind the `=` and before the `;`
unfoldable pub entry : Syntax RawEntry
entry = production (do
  name ← token kind.Name
  equals ← token kind.Equals
  values
  last (token kind.Semicolon) (λ end. record { name = name; from = equals.at; to = end.at }))

unfoldable pub input : Syntax RawInput
input = (λ entries. record { entries = entries }) <$> behind kind.Input (between kind.OpenBrace kind.CloseBrace (many entry))

-- `"spf" ONE kernel script input`
unfoldable pub bundle : Syntax RawBundle
bundle = production (do
  token kind.Spf
  token kind.One
  kernel ← kernel
  script ← script
  last input (λ input. record { kernel = kernel; script = script; input = input }))
