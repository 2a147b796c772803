use Rattle.std.proofs.Common.{◌≡◌, drop}
use Rattle.spf_lex.specs.Reader.{keyword}
use Rattle.spf_lex.proofs.reader.keyword.Given as goal

-- the entries so far didn't come next
abbrev pub invariant-loop-kind : goal.invariant-loop-kind
invariant-loop-kind g l = keyword g.K.TokenKind.same l.fn.table l.fn.tokens ≡ keyword g.K.TokenKind.same (drop l.kind-index l.table) l.tokens
