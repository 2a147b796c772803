use Rattle.std.proofs.Common.{◌≡◌, drop, flat_map, map, take, vec_items}
use Rattle.spf_kernel.specs.TreeNames.{tables_of}
use Rattle.spf_input.specs.Given.{numbers_of}
use Rattle.spf_input.specs.Rules.{bad_entry_of, first}
use Rattle.spf_input.proofs.ranges.read_tables.Given as goal

abbrev pub invariant-loop-decl : goal.invariant-loop-decl
invariant-loop-decl l = record {
  rest : first (bad_entry_of l.env l.entries) (drop l.decl-index l.decls) ≡ first (bad_entry_of l.env l.entries) l.decls;
  tables : map vec_items l.tables.items ≡ map (numbers_of l.entries) (flat_map tables_of (take l.decl-index l.decls));
}
