use Rattle.std.proofs.Common.{◌≡◌, ℕ, List, flat_map, take}
use Rattle.spf_input.specs.Rules.{is_among, names_of}
use Rattle.spf_input.proofs.names.declared_names.Given as goal

abbrev pub invariant-loop-decl : goal.invariant-loop-decl
invariant-loop-decl l = (name : List ℕ) → is_among l.set name ≡ is_among (flat_map names_of (take l.decl-index l.decls)) name
