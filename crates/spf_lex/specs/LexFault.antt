-- Why a text has no tokens.
use Rattle.std.specs.Prelude.{ℕ, ◌≡◌, ⊤, List}
use Rattle.spf_lex.specs.declared.scan.LexFault.{LexFault}
use Rattle.spf_lex.specs.declared.scan.LexFault.TheVariants.{NoToken, Memory}
use Rattle.spf_lex.specs.Tokens.{LacksToken}
use Rattle.spf_lex.specs.Place.{place_of}

-- the place without a token; want of memory is free
abbrev pub IsFaultOf : List ℕ → LexFault → Type 0
IsFaultOf text (NoToken place) = (at : ℕ) × LacksToken text at × (place ≡ place_of text at)
IsFaultOf text Memory = ⊤
