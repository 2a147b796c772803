use Rattle.std.proofs.Common.{◌≡◌, ◌-◌, List}
use Rattle.spf_lex.specs.Production.{begins}
use Rattle.spf_lex.specs.Reader.{repeat}
use Rattle.spf_lex.specs.declared.cursor.Token.{Token}
use Rattle.spf_lex.proofs.Repeating.{Rest}
use Rattle.spf_input.specs.Productions as p
use Rattle.spf_input.proofs.entries.values.Given as goal

-- some values were read, which aren't kept, and what is still read is the rest of the whole
abbrev pub invariant-loop-turn : goal.invariant-loop-turn
invariant-loop-turn l = (parts : List Token) × (repeat (begins p.given) p.given.read l.fn.tokens ≡ Rest (begins p.given) p.given.read parts (l._turn-end - l._turn) l.tokens)
