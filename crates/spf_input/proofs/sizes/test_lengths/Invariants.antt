use Rattle.std.proofs.Common.{◌≡◌, drop}
use Rattle.spf_input.specs.Rules.{first, first_array, bad_length_of}
use Rattle.spf_input.proofs.sizes.test_lengths.Given as goal

abbrev pub invariant-loop-decl : goal.invariant-loop-decl
invariant-loop-decl l =
    let find = first_array (bad_length_of l.env l.entries) in
    first find (drop l.decl-index l.decls) ≡ first find l.decls
