use Rattle.std.proofs.Common.{◌≡◌, drop, map}
use Rattle.spf_lex.specs.Tokens.{texts}
use Rattle.spf_input.specs.Given.{given_at}
use Rattle.spf_input.specs.Rules.{undeclared}
use Rattle.spf_input.proofs.names.test_declared.Given as goal

abbrev pub invariant-loop-entry : goal.invariant-loop-entry
invariant-loop-entry l = undeclared l.tree (map (given_at (texts l.tokens)) (drop l.entry-index l.entries)) ≡ undeclared l.tree (map (given_at (texts l.tokens)) l.entries)
