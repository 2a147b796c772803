-- Where no rule of the input is broken, a kernel may be given the numbers.
use Rattle.std.proofs.Common.{◌≡◌, ℕ, ◌+◌, codes, Bool, true, false, not, cond, ◌&&◌, ℤ, pos, neg_ℤ, ◌≤ℤ◌, ◌<ℤ◌, List, [], ◌∷◌, length, map, flat_map, Option, Some, None, refl, sym, subst, ◌∙◌, arith}
use Rattle.std.specs.Prelude.{int_le, int_lt, ⊤}
use Rattle.std.specs.List.{AllByRecursion, position_from}
use Rattle.std.specs.Option.{option_or}
use Rattle.std.specs.Ordering.{int_eq}
use Rattle.std.proofs.lemmas.Bool.{and_parts}
use Rattle.std.proofs.lemmas.Bool.Decides.{Decides-int_eq}
use Rattle.std.proofs.lemmas.Int.{ints}
use Rattle.std.proofs.lemmas.List.{length-map, map-append}
use Rattle.std.proofs.lemmas.List.Elements.{All-from_recursion}
use Rattle.spf_lex.proofs.Leaves.{join_each}
use Rattle.spf_term.specs.Environment.{Environment}
use Rattle.spf_term.specs.declared.term.Term.{Term}
use Rattle.spf_kernel.specs.TreeNames.{names_in, params_of, tables_of}
use Rattle.spf_kernel.specs.declared.tree.DataDecl.{DataDecl}
use Rattle.spf_kernel.specs.declared.tree.Decl.{Decl}
use Rattle.spf_kernel.specs.declared.tree.Decl.TheVariants.{Params, Index, Values}
use Rattle.spf_kernel.specs.declared.tree.Loop.{Loop}
use Rattle.spf_kernel.specs.declared.tree.Tree.{Tree}
use Rattle.spf_kernel.specs.declared.tree.Trend.{Trend}
use Rattle.spf_kernel.specs.declared.tree.Trend.TheVariants.{Free, Monotone, Strict}
use Rattle.spf_store.specs.Accepted.{AreTables, GoesOn, IsAccepted, IsBoundedBy, IsFromTo, IsIndex, IsSize, IsTable, Trends}
use Rattle.spf_store.specs.Shaped.{data_in, outer_value}
use Rattle.spf_input.specs.Given.{Given, numbers_of}
use Rattle.spf_input.specs.Numbers.{env_of, only, outer_env, param_values}
use Rattle.spf_input.specs.Rules.{Spot, spot, unless, found_at, first, first_array, is_from_to, is_parameter, is_index, is_entry, first_outside, follows, bend_from, bad_parameter, first_fault_of, rules, bad_size_of, bad_length_of, bad_entry_of, bad_trend_of, bad_bound_of, unless_long, first_broken}

-- ---- what isn't found

neither : {A : Type 0} (a b : Option A) → option_or a b ≡ None → (a ≡ None) × (b ≡ None)
neither None b e = (refl, e)
neither (Some x) b e = absurd cc

pub none_first : {A B : Type 0} (find : A → Option B) (xs : List A) → first find xs ≡ None → AllByRecursion (λ x. find x ≡ None) xs
none_first find [] e = tt
none_first find (x ∷ xs) e = let parts = neither (find x) (first find xs) e in (parts.0, none_first find xs parts.1)

pub none_broken : (rule : ℕ) (found : List (Option Spot)) → first_broken rule found ≡ None → AllByRecursion (λ (one : Option Spot). one ≡ None) found
none_broken rule [] e = tt
none_broken rule (None ∷ found) e = (refl, none_broken (rule + 1) found e)
none_broken rule (Some one ∷ found) e = absurd cc

holds : (test : Bool) (name : List ℕ) → unless test name ≡ None → test ≡ true
holds true name e = refl
holds false name e = absurd cc

no_place : (name : List ℕ) (place : Option ℕ) → found_at name place ≡ None → place ≡ None
no_place name None e = refl
no_place name (Some place) e = absurd cc

each_mapped : {A : Type 0} {P Q : A → Type 0} (xs : List A) → ((x : A) → P x → Q x) → AllByRecursion P xs → AllByRecursion Q xs
each_mapped [] more each = tt
each_mapped (x ∷ xs) more each = (more x each.0, each_mapped xs more each.1)

-- ---- tests of numbers

at_most : (x y : ℤ) → int_le x y ≡ true → x ≤ℤ y
at_most x y e = grind (arith, ints)

below : (x y : ℤ) → int_lt x y ≡ true → x <ℤ y
below x y e = grind (arith, ints)

from_to : (low high number : ℤ) → is_from_to low high number ≡ true → IsFromTo low high number
from_to low high number e =
    let parts = and_parts (int_le low number) (int_le number high) e in
    record { at_least = at_most low number parts.0; at_most = at_most number high parts.1 }

index : (number : ℤ) → is_index number ≡ true → IsIndex number
index number e = from_to (neg_ℤ (pos 4194304)) (pos 4194304) number e

-- ---- parameters

parameter : (numbers : List ℤ) → is_parameter numbers ≡ true → IsFromTo (pos 0) (pos 4194304) (only numbers)
parameter [] e = absurd cc
parameter (number ∷ []) e = from_to (pos 0) (pos 4194304) number e
parameter (number ∷ next ∷ numbers) e = absurd cc

module _ (given : List Given) where
  abbrev value_of_name : List ℕ → ℤ
  value_of_name name = only (numbers_of given name)

  abbrev find_parameter : List ℕ → Option Spot
  find_parameter name = unless (is_parameter (numbers_of given name)) name

  names_natural : (names : List (List ℕ)) → AllByRecursion (λ name. find_parameter name ≡ None) names → AllByRecursion (IsFromTo (pos 0) (pos 4194304)) (map value_of_name names)
  names_natural [] each = tt
  names_natural (name ∷ names) each = (parameter (numbers_of given name) (holds (is_parameter (numbers_of given name)) name each.0), names_natural names each.1)

  decls_natural : (decls : List Decl) → AllByRecursion (λ decl. first find_parameter (params_of decl) ≡ None) decls
      → AllByRecursion (IsFromTo (pos 0) (pos 4194304)) (map value_of_name (flat_map params_of decls))
  decls_natural [] each = tt
  decls_natural (decl ∷ decls) each =
      rw (map-append value_of_name (params_of decl) (flat_map params_of decls))
      (join_each (IsFromTo (pos 0) (pos 4194304)) (map value_of_name (params_of decl)) (map value_of_name (flat_map params_of decls))
      (names_natural (params_of decl) (none_first find_parameter (params_of decl) each.0)) (decls_natural decls each.1))

-- ---- index arrays

entry : (low high number : ℤ) → is_entry low high number ≡ true → (low ≤ℤ number) × (number <ℤ high) × IsIndex number
entry low high number e =
    let parts = and_parts (int_le low number && int_lt number high) (is_index number) e in
    let ends = and_parts (int_le low number) (int_lt number high) parts.0 in
    (at_most low number ends.0, below number high ends.1, index number parts.1)

in_range : (low high : ℤ) (place : ℕ) (numbers : List ℤ) → position_from (λ number. not (is_entry low high number)) place numbers ≡ None
    → AllByRecursion (λ number. (low ≤ℤ number) × (number <ℤ high) × IsIndex number) numbers
in_range low high place [] none = tt
in_range low high place (number ∷ numbers) none = by (is_entry low high number) refl none (in_range low high (place + 1) numbers) where
  rest : Option ℕ
  rest = position_from (λ number. not (is_entry low high number)) (place + 1) numbers

  by : (good : Bool) → is_entry low high number ≡ good → cond (not good) (Some place) rest ≡ None
      → (rest ≡ None → AllByRecursion (λ number. (low ≤ℤ number) × (number <ℤ high) × IsIndex number) numbers)
      → AllByRecursion (λ number. (low ≤ℤ number) × (number <ℤ high) × IsIndex number) (number ∷ numbers)
  by true is none behind = (entry low high number is, behind none)
  by false is none behind = absurd cc

goes_on : (trend : Trend) (P : ℤ → ℤ → Type 0) → ((before number : ℤ) → follows trend before number ≡ true → P before number) → (place : ℕ) (numbers : List ℤ) → bend_from trend place numbers ≡ None → GoesOn P numbers
goes_on trend P one place [] none = tt
goes_on trend P one place (number ∷ []) none = tt
goes_on trend P one place (before ∷ number ∷ numbers) none = by (follows trend before number) refl none (goes_on trend P one (place + 1) (number ∷ numbers)) where
  rest : Option ℕ
  rest = bend_from trend (place + 1) (number ∷ numbers)

  by : (good : Bool) → follows trend before number ≡ good → cond good rest (Some (place + 1)) ≡ None → (rest ≡ None → GoesOn P (number ∷ numbers)) → P before number × GoesOn P (number ∷ numbers)
  by true is none behind = (one before number is, behind none)
  by false is none behind = absurd cc

trends : (trend : Trend) (numbers : List ℤ) → bend_from trend 0 numbers ≡ None → Trends trend numbers
trends Free numbers none = tt
trends Monotone numbers none = goes_on Monotone (λ before number. before ≤ℤ number) at_most 0 numbers none
trends Strict numbers none = goes_on Strict (λ before number. before <ℤ number) below 0 numbers none

pub long : (size : ℤ) (name : List ℕ) (numbers : List ℤ) → unless_long size name numbers ≡ None → size ≡ pos (length numbers)
long size name numbers none = by (int_eq size (pos (length numbers))) refl none where
  by : (same : Bool) → int_eq size (pos (length numbers)) ≡ same → cond same None (Some (spot name (length numbers))) ≡ None → size ≡ pos (length numbers)
  by true is none = (Decides-int_eq size (pos (length numbers))).0 is
  by false is none = absurd cc

-- ---- expressions that have one value where only parameters are given, and where index arrays are too

module _ (outer env : Environment) where
  abbrev pub IsSame : Term → Type 0
  IsSame term = outer_value outer term ≡ outer_value env term

  abbrev pub IsSameDecl : Decl → Type 0
  IsSameDecl (Params names) = ⊤
  IsSameDecl (Index name size low high trend) = IsSame size × IsSame low × IsSame high
  IsSameDecl (Values arrays) = AllByRecursion (λ (array : DataDecl). IsSame array.size) arrays

  abbrev pub IsSameLoop : Loop → Type 0
  IsSameLoop each = IsSame each.low × IsSame each.high

  size_of : (name : List ℕ) (size : Term) → IsSame size → bad_size_of outer name size ≡ None → IsSize env size
  size_of name size same none = subst (IsFromTo (pos 0) (pos 4194303)) same (from_to (pos 0) (pos 4194303) (outer_value outer size) (holds (is_from_to (pos 0) (pos 4194303) (outer_value outer size)) name none))

  module _ (given : List Given) where
    abbrev pub IsKept : Decl → Type 0
    IsKept decl =
        IsSameDecl decl × (first_array (bad_size_of outer) decl ≡ None) × (first_array (bad_length_of outer given) decl ≡ None) × (bad_entry_of outer given decl ≡ None)
        × (bad_trend_of given decl ≡ None)

    table : (name : List ℕ) (size low high : Term) (trend : Trend) → IsKept (Index name size low high trend) → IsTable env size low high trend (numbers_of given name)
    table name size low high trend kept =
        let numbers = numbers_of given name in
        let inside = in_range (outer_value outer low) (outer_value outer high) 0 numbers (no_place name (first_outside (outer_value outer low) (outer_value outer high) numbers) kept.3) in
        record {
          bounded = size_of name size kept.0.0 kept.1;
          length = sym (long (outer_value outer size) name numbers kept.2) ∙ kept.0.0;
          range = All-from_recursion _ numbers (rw (kept.0.1, kept.0.2) at inside);
          trends = trends trend numbers (no_place name (bend_from trend 0 numbers) kept.4);
        }

    tables : (decls : List Decl) → AllByRecursion IsKept decls → AreTables env decls (map (numbers_of given) (flat_map tables_of decls))
    tables [] each = tt
    tables (Params names ∷ decls) each = tables decls each.1
    tables (Values arrays ∷ decls) each = tables decls each.1
    tables (Index name size low high trend ∷ decls) each = (table name size low high trend each.0, tables decls each.1)

    arrays_sized : (arrays : List DataDecl) → AllByRecursion (λ (array : DataDecl). IsSame array.size) arrays → AllByRecursion (λ (array : DataDecl). bad_size_of outer array.name array.size ≡ None) arrays
        → AllByRecursion (λ (array : DataDecl). IsSize env array.size) arrays
    arrays_sized [] same each = tt
    arrays_sized (array ∷ arrays) same each = (size_of array.name array.size same.0 each.0, arrays_sized arrays same.1 each.1)

    sizes : (decls : List Decl) → AllByRecursion IsKept decls → AllByRecursion (λ (array : DataDecl). IsSize env array.size) (flat_map data_in decls)
    sizes [] each = tt
    sizes (Params names ∷ decls) each = sizes decls each.1
    sizes (Index name size low high trend ∷ decls) each = sizes decls each.1
    sizes (Values arrays ∷ decls) each =
        join_each (λ (array : DataDecl). IsSize env array.size) arrays (flat_map data_in decls)
        (arrays_sized arrays each.0.0 (none_first (λ (array : DataDecl). bad_size_of outer array.name array.size) arrays each.0.1)) (sizes decls each.1)

-- ---- the whole kernel

pub record AreSame (outer env : Environment) (tree : Tree) : Type 0 where
  pub decls : AllByRecursion (IsSameDecl outer env) tree.decls
  pub steps : IsSame outer env tree.steps
  pub loops : AllByRecursion (IsSameLoop outer env) tree.loops

module _ (tree : Tree) (given : List Given) where
  abbrev outer : Environment
  outer = outer_env tree given

  abbrev env : Environment
  env = env_of tree given

  bounds : (loops : List Loop) → AllByRecursion (IsSameLoop outer env) loops → AllByRecursion (λ each. bad_bound_of outer each ≡ None) loops → AllByRecursion (IsBoundedBy env) loops
  bounds [] same each = tt
  bounds (one ∷ loops) same each =
      let parts = and_parts (is_index (outer_value outer one.low)) (is_index (outer_value outer one.high)) (holds (is_index (outer_value outer one.low) && is_index (outer_value outer one.high)) one.name each.0) in
      ((subst IsIndex same.0.0 (index (outer_value outer one.low) parts.0), subst IsIndex same.0.1 (index (outer_value outer one.high) parts.1)), bounds loops same.1 each.1)

  all_kept : (decls : List Decl) → AllByRecursion (IsSameDecl outer env) decls → AllByRecursion (λ decl. first_array (bad_size_of outer) decl ≡ None) decls
      → AllByRecursion (λ decl. first_array (bad_length_of outer given) decl ≡ None) decls → AllByRecursion (λ decl. bad_entry_of outer given decl ≡ None) decls
      → AllByRecursion (λ decl. bad_trend_of given decl ≡ None) decls → AllByRecursion (IsKept outer env given) decls
  all_kept [] same sized long ranged trended = tt
  all_kept (decl ∷ decls) same sized long ranged trended = ((same.0, sized.0, long.0, ranged.0, trended.0), all_kept decls same.1 sized.1 long.1 ranged.1 trended.1)

  pub natural : bad_parameter tree given ≡ None → AllByRecursion (IsFromTo (pos 0) (pos 4194304)) (param_values tree given)
  natural none = decls_natural given tree.decls (none_first (λ decl. first (find_parameter given) (params_of decl)) tree.decls none)

  pub decls_kept : AreSame outer env tree → first_fault_of tree given ≡ None → AllByRecursion (IsKept outer env given) tree.decls
  decls_kept same unbroken =
      let found = none_broken 1 (map (λ (rule : Tree → List Given → Option Spot). rule tree given) rules) unbroken in
      all_kept tree.decls same.decls
      (none_first (first_array (bad_size_of outer)) tree.decls found.1.1.1.1.1.0) (none_first (first_array (bad_length_of outer given)) tree.decls found.1.1.1.1.1.1.0)
      (none_first (bad_entry_of outer given) tree.decls found.1.1.1.1.1.1.1.0) (none_first (bad_trend_of given) tree.decls found.1.1.1.1.1.1.1.1.0)

  pub accepted : AreSame outer env tree → first_fault_of tree given ≡ None → IsAccepted env tree
  accepted same unbroken =
      let found = none_broken 1 (map (λ (rule : Tree → List Given → Option Spot). rule tree given) rules) unbroken in
      let kept = decls_kept same unbroken in
      record {
        params = length-map (names_in tree.decls).params (λ name. only (numbers_of given name));
        natural = All-from_recursion (IsFromTo (pos 0) (pos 4194304)) (param_values tree given) (natural found.1.1.1.0);
        tables = tables outer env given tree.decls kept;
        sizes = All-from_recursion (λ (array : DataDecl). IsSize env array.size) (flat_map data_in tree.decls) (sizes outer env given tree.decls kept);
        steps = subst (IsFromTo (pos 0) (pos 4194304)) same.steps (from_to (pos 0) (pos 4194304) (outer_value outer tree.steps) (holds (is_from_to (pos 0) (pos 4194304) (outer_value outer tree.steps)) (codes "steps") found.1.1.1.1.1.1.1.1.1.0));
        bounds = All-from_recursion (IsBoundedBy env) tree.loops (bounds tree.loops same.loops (none_first (bad_bound_of outer) tree.loops found.1.1.1.1.1.1.1.1.1.1.0));
      }
