-- The words of bundles.
use Rattle.std.specs.Prelude.{Bool, List, [], ◌∷◌, codes}
use denote.Enum.Bare.{sameb}
use Rattle.spf_lex.specs.Language.{Language, Entry}
use Rattle.spf_lex.specs.contracts.kind.Kind.{the_type}
use Rattle.spf_lex.specs.declared.kind.Kind.{Kind}
use Rattle.spf_lex.specs.declared.kind.Kind.TheVariants as kind

-- two kinds are one
abbrev pub same_kind : Kind → Kind → Bool
same_kind = sameb the_type

-- the texts that the grammar of bundles quotes
abbrev pub quoted_texts : List (Entry Kind)
quoted_texts =
    (codes "-", kind.Minus) ∷
    (codes "=", kind.Equals) ∷
    (codes ";", kind.Semicolon) ∷
    (codes ",", kind.Comma) ∷
    (codes "[", kind.OpenBracket) ∷
    (codes "]", kind.CloseBracket) ∷
    (codes "{", kind.OpenBrace) ∷
    (codes "}", kind.CloseBrace) ∷
    (codes "(", kind.OpenParenthesis) ∷
    (codes ")", kind.CloseParenthesis) ∷
    (codes "..", kind.Range) ∷
    (codes "+=", kind.PlusEquals) ∷
    (codes "+", kind.Plus) ∷
    (codes "*", kind.Star) ∷
    (codes "==", kind.Equal) ∷
    (codes "!=", kind.Unequal) ∷
    (codes "<", kind.Less) ∷
    (codes "<=", kind.AtMost) ∷
    (codes ">", kind.Greater) ∷
    (codes ">=", kind.AtLeast) ∷
    (codes "spf", kind.Spf) ∷
    (codes "kernel", kind.Kernel) ∷
    (codes "param", kind.Param) ∷
    (codes "index", kind.Index) ∷
    (codes "in", kind.In) ∷
    (codes "monotone", kind.Monotone) ∷
    (codes "strict", kind.Strict) ∷
    (codes "data", kind.Data) ∷
    (codes "steps", kind.Steps) ∷
    (codes "loop", kind.Loop) ∷
    (codes "for", kind.For) ∷
    (codes "if", kind.If) ∷
    (codes "and", kind.And) ∷
    (codes "script", kind.Script) ∷
    (codes "cpack", kind.Cpack) ∷
    (codes "by", kind.By) ∷
    (codes "lexgroup", kind.Lexgroup) ∷
    (codes "lexsort", kind.Lexsort) ∷
    (codes "bucket", kind.Bucket) ∷
    (codes "size", kind.Size) ∷
    (codes "tile", kind.Tile) ∷
    (codes "at", kind.At) ∷
    (codes "seed", kind.Seed) ∷
    (codes "block", kind.Block) ∷
    (codes "spread", kind.Spread) ∷
    (codes "plug", kind.Plug) ∷
    (codes "tilepack", kind.Tilepack) ∷
    (codes "input", kind.Input) ∷
    []

abbrev pub bundle_words : Language Kind
bundle_words = record { quoted = quoted_texts; name = kind.Name; one = kind.One; number = kind.Number; other = kind.Other }
