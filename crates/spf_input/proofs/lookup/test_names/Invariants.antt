use Rattle.std.proofs.Common.{◌≡◌, ℕ, List, drop}
use Rattle.spf_input.specs.Rules.{first, given_names, is_among, unless}
use Rattle.spf_input.proofs.lookup.test_names.Given as goal

abbrev pub invariant-loop-name : goal.invariant-loop-name
invariant-loop-name l =
    let find = λ (name : List ℕ). unless (is_among (given_names l.entries) name) name in
    first find (drop l.name-index l.names) ≡ first find l.names
