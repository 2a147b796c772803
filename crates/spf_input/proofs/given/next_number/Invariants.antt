use Rattle.std.proofs.Common.{◌≡◌, map}
use Rattle.std.specs.List.{slice_range}
use Rattle.spf_lex.specs.Lexeme.{lexeme_of}
use Rattle.spf_lex.specs.Tokens.{texts}
use Rattle.spf_input.specs.Given.{numbers_from, numbers_between}
use Rattle.spf_input.proofs.given.next_number.Given as goal

-- no number was met, and those ahead are all
abbrev pub invariant-loop-place : goal.invariant-loop-place
invariant-loop-place l = numbers_from l.minus (slice_range (map lexeme_of (texts l.tokens)) l.place l.to) ≡ numbers_between (texts l.tokens) l.at l.to
