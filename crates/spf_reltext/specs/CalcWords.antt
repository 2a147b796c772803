-- The words of calculator texts.
use Rattle.std.specs.Prelude.{Bool, List, [], ◌∷◌, codes}
use denote.Enum.Bare.{sameb}
use Rattle.spf_lex.specs.Language.{Language, Entry}
use Rattle.spf_reltext.specs.contracts.kind.CalcKind.{the_type}
use Rattle.spf_reltext.specs.declared.kind.CalcKind.{CalcKind}
use Rattle.spf_reltext.specs.declared.kind.CalcKind.TheVariants as kind

-- two kinds are one
abbrev pub same_kind : CalcKind → CalcKind → Bool
same_kind = sameb the_type

-- the texts that the grammar of calculator texts quotes
abbrev pub quoted_texts : List (Entry CalcKind)
quoted_texts =
    (codes "{", kind.OpenBrace) ∷
    (codes "}", kind.CloseBrace) ∷
    (codes "[", kind.OpenBracket) ∷
    (codes "]", kind.CloseBracket) ∷
    (codes "(", kind.OpenParenthesis) ∷
    (codes ")", kind.CloseParenthesis) ∷
    (codes ",", kind.Comma) ∷
    (codes ";", kind.Semicolon) ∷
    (codes ":", kind.Colon) ∷
    (codes "|", kind.Bar) ∷
    (codes "->", kind.Arrow) ∷
    (codes "=", kind.Equals) ∷
    (codes "<=", kind.AtMost) ∷
    (codes "<", kind.Less) ∷
    (codes ">=", kind.AtLeast) ∷
    (codes ">", kind.Greater) ∷
    (codes "+", kind.Plus) ∷
    (codes "-", kind.Minus) ∷
    (codes "*", kind.Star) ∷
    (codes "calc", kind.Calc) ∷
    (codes "let", kind.Let) ∷
    (codes "show", kind.Show) ∷
    (codes "function", kind.Function) ∷
    (codes "compose", kind.Compose) ∷
    (codes "apply", kind.Apply) ∷
    (codes "union", kind.Union) ∷
    (codes "intersect", kind.Intersect) ∷
    (codes "restrict", kind.Restrict) ∷
    (codes "inverse", kind.Inverse) ∷
    (codes "none", kind.Nothing) ∷
    (codes "with", kind.With) ∷
    (codes "and", kind.And) ∷
    []

abbrev pub calc_words : Language CalcKind
calc_words = record { quoted = quoted_texts; name = kind.Name; one = kind.One; number = kind.Number; other = kind.Other }
