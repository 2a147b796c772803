use Rattle.std.proofs.Common.{◌≡◌, ◌-◌, ◌++◌}
use Rattle.spf_lex.specs.Derivation.{made}
use Rattle.spf_lex.specs.Reader.{further, repeat, sees}
use Rattle.spf_lex.proofs.Repeating.{Rest}
use Rattle.spf_lex.proofs.reader.further_parts.Given as goal

-- what was read, and what is still read, are the whole
abbrev pub invariant-loop-turn : goal.invariant-loop-turn
invariant-loop-turn g l =
    let begins = sees g.K.TokenKind.same l.kind in
    let read = further g.K.TokenKind.same l.kind g.P.Part.reading in
    made (λ others. l.fn.parts ++ others) (repeat begins read l.fn.tokens) ≡ Rest begins read l.parts (l._turn-end - l._turn) l.tokens
