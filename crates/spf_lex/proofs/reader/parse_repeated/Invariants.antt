use Rattle.std.proofs.Common.{◌≡◌, ◌-◌}
use Rattle.spf_lex.specs.Reader.{repeat}
use Rattle.spf_lex.proofs.Repeating.{Rest}
use Rattle.spf_lex.proofs.reader.parse_repeated.Given as goal

-- what was read, and what is still read, are the whole
abbrev pub invariant-loop-turn : goal.invariant-loop-turn
invariant-loop-turn g l = repeat g.P.Part.begins g.P.Part.reading l.fn.tokens ≡ Rest g.P.Part.begins g.P.Part.reading l.parts (l._turn-end - l._turn) l.tokens
