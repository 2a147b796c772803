use Rattle.std.proofs.Common.{◌≡◌, ℕ, List, drop, flat_map, map, take}
use Rattle.spf_kernel.specs.TreeNames.{params_of}
use Rattle.spf_kernel.specs.declared.tree.Decl.{Decl}
use Rattle.spf_input.specs.Given.{numbers_of}
use Rattle.spf_input.specs.Numbers.{only}
use Rattle.spf_input.specs.Rules.{first, is_parameter, unless}
use Rattle.spf_input.proofs.params.read_params.Given as goal

abbrev pub invariant-loop-decl : goal.invariant-loop-decl
invariant-loop-decl l =
    let find = λ (decl : Decl). first (λ (name : List ℕ). unless (is_parameter (numbers_of l.entries name)) name) (params_of decl) in
    record {
      rest : first find (drop l.decl-index l.tree.decls) ≡ first find l.tree.decls;
      values : l.params.items ≡ map (λ name. only (numbers_of l.entries name)) (flat_map params_of (take l.decl-index l.tree.decls));
    }
