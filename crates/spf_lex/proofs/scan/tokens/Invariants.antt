use Rattle.std.proofs.Common.{◌-◌, length}
use Rattle.spf_lex.proofs.Spans.{IsScanned}
use Rattle.spf_lex.proofs.scan.tokens.Given as goal

abbrev pub invariant-loop-at : goal.invariant-loop-at
invariant-loop-at l = IsScanned l.text l.at l.spans.items l.lexemes.items

abbrev pub decreases-loop-at : goal.decreases-loop-at
decreases-loop-at l = length l.text - l.at
