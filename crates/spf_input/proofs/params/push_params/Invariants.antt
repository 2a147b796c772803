use Rattle.std.proofs.Common.{◌≡◌, ◌++◌, ℕ, List, drop, map, take}
use Rattle.spf_input.specs.Given.{numbers_of}
use Rattle.spf_input.specs.Numbers.{only}
use Rattle.spf_input.specs.Rules.{first, is_parameter, unless}
use Rattle.spf_input.proofs.params.push_params.Given as goal

abbrev pub invariant-loop-name : goal.invariant-loop-name
invariant-loop-name l =
    let find = λ (name : List ℕ). unless (is_parameter (numbers_of l.entries name)) name in
    record {
      rest : first find (drop l.name-index l.names) ≡ first find l.names;
      values : l.params.items ≡ l.fn.params.items ++ map (λ name. only (numbers_of l.entries name)) (take l.name-index l.names);
    }
