use Rattle.std.proofs.Common.{◌≡◌, drop}
use Rattle.spf_kernel.specs.declared.tree.Decl.{Decl}
use Rattle.spf_input.specs.Rules.{first, given_names, is_among, names_of, unless}
use Rattle.spf_input.proofs.lookup.test_given.Given as goal

abbrev pub invariant-loop-decl : goal.invariant-loop-decl
invariant-loop-decl l =
    let find = λ (decl : Decl). first (λ name. unless (is_among (given_names l.entries) name) name) (names_of decl) in
    first find (drop l.decl-index l.tree.decls) ≡ first find l.tree.decls
