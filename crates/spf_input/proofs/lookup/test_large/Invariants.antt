use Rattle.std.proofs.Common.{◌≡◌, drop, map}
use Rattle.spf_lex.specs.Tokens.{texts}
use Rattle.spf_input.specs.Given.{given_at}
use Rattle.spf_input.specs.Rules.{large_number}
use Rattle.spf_input.proofs.lookup.test_large.Given as goal

abbrev pub invariant-loop-entry : goal.invariant-loop-entry
invariant-loop-entry l = large_number (map (given_at (texts l.tokens)) (drop l.entry-index l.entries)) ≡ large_number (map (given_at (texts l.tokens)) l.entries)
