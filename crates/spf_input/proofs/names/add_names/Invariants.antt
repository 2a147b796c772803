use Rattle.std.proofs.Common.{◌≡◌, ℕ, List, take, ◌||◌}
use Rattle.spf_input.specs.Rules.{is_among}
use Rattle.spf_input.proofs.names.add_names.Given as goal

abbrev pub invariant-loop-name : goal.invariant-loop-name
invariant-loop-name l = (name : List ℕ) → is_among l.set name ≡ (is_among l.fn.set name || is_among (take l.name-index l.names) name)
