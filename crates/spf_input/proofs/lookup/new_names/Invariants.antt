use Rattle.std.proofs.Common.{◌≡◌, drop, take, map}
use Rattle.spf_lex.specs.Tokens.{texts}
use Rattle.spf_input.specs.Given.{given_at}
use Rattle.spf_input.specs.Rules.{given_names, repeated, repeated_behind}
use Rattle.spf_input.proofs.lookup.new_names.Given as goal

abbrev pub invariant-loop-entry : goal.invariant-loop-entry
invariant-loop-entry l = record {
  names : l.names ≡ given_names (map (given_at (texts l.tokens)) (take l.entry-index l.entries));
  rest : repeated_behind l.names (given_names (map (given_at (texts l.tokens)) (drop l.entry-index l.entries))) ≡ repeated (map (given_at (texts l.tokens)) l.entries);
}
