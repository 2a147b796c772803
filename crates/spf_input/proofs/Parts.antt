-- The rules of the input are those of its parts, one part behind the other.
use Rattle.std.proofs.Common.{◌≡◌, ◌∙◌, ◌++◌, ℤ, pos, [], List, Option, None, ap, flat_map, map}
use Rattle.std.specs.Int.{int_gap}
use Rattle.spf_lex.proofs.Leaves.{join_each}
use Rattle.spf_term.specs.Environment.{Environment}
use Rattle.spf_kernel.specs.Parsed.{IsParsed}
use Rattle.spf_kernel.specs.TreeNames.{tables_of}
use Rattle.spf_kernel.specs.declared.tree.Decl.{Decl}
use Rattle.spf_kernel.specs.declared.tree.Tree.{Tree}
use Rattle.spf_store.specs.Shaped.{size}
use Rattle.spf_input.specs.Answer.{IsInputFault}
use Rattle.spf_input.specs.Given.{Given, numbers_of}
use Rattle.spf_input.specs.Numbers.{env_of, outer_env, param_values, table_values}
use Rattle.spf_input.specs.Rules.{Spot, first_broken, first_fault_of}
use Rattle.spf_input.specs.Tested.{AreKept, IsFaultOf, of_bounds, of_names, of_numbers, of_sizes, of_tables}
use Rattle.spf_input.specs.declared.fault.InputFault.{InputFault}
use Rattle.spf_input.proofs.Plain.{parsed_same}
use Rattle.spf_input.proofs.Refusing.{answered, refused_among, unbroken}

both : (before found : List (Option Spot)) → AreKept before → AreKept found → AreKept (before ++ found)
both = join_each (λ (one : Option Spot). one ≡ None)

module _ (tree : Tree) (given : List Given) (env : Environment) (decls : List Decl) (outer : env ≡ outer_env tree given) (same : decls ≡ tree.decls) where
  abbrev names : List (Option Spot)
  names = of_names tree given

  abbrev numbers : List (Option Spot)
  numbers = of_numbers tree given

  abbrev sizes : List (Option Spot)
  sizes = of_sizes (outer_env tree given) given tree.decls

  abbrev tables : List (Option Spot)
  tables = of_tables (outer_env tree given) given tree.decls

  abbrev bounds : List (Option Spot)
  bounds = of_bounds (outer_env tree given) tree

  module _ (kept_names : AreKept names) (kept_numbers : AreKept numbers) where
    pub sizes_refused : (fault : InputFault) → IsFaultOf (first_broken 6 (of_sizes env given decls)) fault → IsInputFault tree given fault
    sizes_refused fault refused =
        answered tree given fault (refused_among 1 (names ++ numbers) sizes (tables ++ bounds) fault (both names numbers kept_names kept_numbers) (rw (outer, same) at refused))

    module _ (kept_sizes : AreKept (of_sizes env given decls)) where
      to_sizes : AreKept (names ++ (numbers ++ sizes))
      to_sizes = both names (numbers ++ sizes) kept_names (both numbers sizes kept_numbers (rw (outer, same) at kept_sizes))

      pub tables_refused : (fault : InputFault) → IsFaultOf (first_broken 8 (of_tables env given decls)) fault → IsInputFault tree given fault
      tables_refused fault refused =
          answered tree given fault (refused_among 1 (names ++ (numbers ++ sizes)) tables bounds fault to_sizes (rw (outer, same) at refused))

      module _ (kept_tables : AreKept (of_tables env given decls)) where
        to_tables : AreKept ((names ++ (numbers ++ sizes)) ++ tables)
        to_tables = both (names ++ (numbers ++ sizes)) tables to_sizes (rw (outer, same) at kept_tables)

        pub bounds_refused : (fault : InputFault) → IsFaultOf (first_broken 10 (of_bounds env tree)) fault → IsInputFault tree given fault
        bounds_refused fault refused =
            answered tree given fault (refused_among 1 ((names ++ (numbers ++ sizes)) ++ tables) bounds [] fault to_tables (rw outer at refused))

        pub all_unbroken : AreKept (of_bounds env tree) → first_fault_of tree given ≡ None
        all_unbroken kept_bounds =
            unbroken 1 (((names ++ (numbers ++ sizes)) ++ tables) ++ bounds) (both ((names ++ (numbers ++ sizes)) ++ tables) bounds to_tables (rw outer at kept_bounds))

  -- ---- what is given

  pub given_env : (params : List ℤ) (entries : List (List ℤ)) → params ≡ env.params → entries ≡ map (numbers_of given) (flat_map tables_of decls) → record { params = params; tables = entries } ≡ env_of tree given
  given_env params entries p t =
      let all_params = p ∙ ap (λ (e : Environment). e.params) outer in
      let all_tables = t ∙ ap (λ of. map (numbers_of given) (flat_map tables_of of)) same in
      λ i. record { params = all_params i; tables = all_tables i }

  pub same_steps : IsParsed tree → size env tree.steps ≡ size (env_of tree given) tree.steps
  same_steps parsed =
      ap (λ (e : Environment). size e tree.steps) outer ∙ ap (int_gap (pos 0)) (parsed_same (param_values tree given) (table_values tree given) tree parsed).steps
