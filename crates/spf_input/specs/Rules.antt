-- The eleven rules of the input. Each gives the name and the place at which it is broken first, if it is.
use Rattle.std.specs.Prelude.{ℕ, ◌+◌, ◌^◌, Bool, true, false, not, ◌&&◌, if◌then◌else◌, ℤ, pos, neg_ℤ, int_le, int_lt, List, [], ◌∷◌, ◌++◌, map, flat_map, length, Option, None, Some, codes}
use Rattle.std.specs.List.{list_any, position_from}
use Rattle.std.specs.Option.{option_map, option_or}
use Rattle.std.specs.Ordering.{int_eq}
use Rattle.std.specs.Str.{bytes_eq}
use Rattle.spf_term.specs.Environment.{Environment}
use Rattle.spf_term.specs.declared.term.Term.{Term}
use Rattle.spf_kernel.specs.TreeNames.{params_of}
use Rattle.spf_kernel.specs.declared.tree.DataDecl.{DataDecl}
use Rattle.spf_kernel.specs.declared.tree.Decl.{Decl}
use Rattle.spf_kernel.specs.declared.tree.Decl.TheVariants.{Params, Index, Values}
use Rattle.spf_kernel.specs.declared.tree.Loop.{Loop}
use Rattle.spf_kernel.specs.declared.tree.Tree.{Tree}
use Rattle.spf_kernel.specs.declared.tree.Trend.{Trend}
use Rattle.spf_kernel.specs.declared.tree.Trend.TheVariants.{Free, Monotone, Strict}
use Rattle.spf_store.specs.Shaped.{outer_value}
use Rattle.spf_input.specs.Given.{Given, numbers_of}
use Rattle.spf_input.specs.Numbers.{outer_env}

-- where a rule is broken: a name, and a place in the list that is given for it
pub record Spot : Type 0 where
  pub name : List ℕ
  pub place : ℕ

abbrev pub spot : List ℕ → ℕ → Spot
spot name place = record { name = name; place = place }

-- the first that is found in the elements of a list
abbrev pub first : {A B : Type 0} → (A → Option B) → List A → Option B
first find [] = None
first find (a ∷ others) = option_or (find a) (first find others)

-- the name, without a place, where something doesn't hold of it
abbrev pub unless : Bool → List ℕ → Option Spot
unless holds name = if holds then None else Some (spot name 0)

-- the name, with the place that was found
abbrev pub found_at : List ℕ → Option ℕ → Option Spot
found_at name place = option_map (spot name) place

abbrev pub is_from_to : ℤ → ℤ → ℤ → Bool
is_from_to low high number = int_le low number && int_le number high

-- ---- names

abbrev pub is_among : List (List ℕ) → List ℕ → Bool
is_among names name = list_any (bytes_eq name) names

-- the names that a declaration gives
abbrev pub names_of : Decl → List (List ℕ)
names_of (Params names) = names
names_of (Index name size low high trend) = name ∷ []
names_of (Values arrays) = map (λ (array : DataDecl). array.name) arrays

abbrev pub given_names : List Given → List (List ℕ)
given_names given = map (λ (entry : Given). entry.name) given

module _ (tree : Tree) (given : List Given) where
  -- 1: a name that isn't declared
  abbrev pub undeclared : Option Spot
  undeclared = first (λ (entry : Given). unless (is_among (flat_map names_of tree.decls) entry.name) entry.name) given

-- the first of the names that stands before itself, among these or behind them
abbrev pub repeated_behind : List (List ℕ) → List (List ℕ) → Option Spot
repeated_behind before [] = None
repeated_behind before (name ∷ names) = if is_among before name then Some (spot name 0) else repeated_behind (before ++ name ∷ []) names

-- 2: a name that is given again
abbrev pub repeated : List Given → Option Spot
repeated given = repeated_behind [] (given_names given)

module _ (tree : Tree) (given : List Given) where
  -- 3: a declared name that isn't given
  abbrev pub missing : Option Spot
  missing = first (λ decl. first (λ name. unless (is_among (given_names given) name) name) (names_of decl)) tree.decls

-- ---- numbers

-- one number from 0 to 2^22
abbrev pub is_parameter : List ℤ → Bool
is_parameter (number ∷ []) = is_from_to (pos 0) (pos 4194304) number
is_parameter _ = false

-- 2^63 without `-`
abbrev pub is_large : ℤ → Bool
is_large number = int_le (pos (2 ^ 63)) number

module _ (tree : Tree) (given : List Given) where
  -- 4: a parameter that isn't one number in its range
  abbrev pub bad_parameter : Option Spot
  bad_parameter = first (λ decl. first (λ name. unless (is_parameter (numbers_of given name)) name) (params_of decl)) tree.decls

-- 5: a number that isn't one of 64 bits; one of a parameter breaks rule 4
abbrev pub large_number : List Given → Option Spot
large_number given = first (λ (entry : Given). found_at entry.name (position_from is_large 0 entry.numbers)) given

-- ---- sizes

-- the first of the arrays of a declaration that is found, by its name and its size
abbrev pub first_array : (List ℕ → Term → Option Spot) → Decl → Option Spot
first_array find (Params names) = None
first_array find (Index name size low high trend) = find name size
first_array find (Values arrays) = first (λ (array : DataDecl). find array.name array.size) arrays

-- the name, with the length of the list, where the list isn't as long as this
abbrev pub unless_long : ℤ → List ℕ → List ℤ → Option Spot
unless_long size name numbers = if int_eq size (pos (length numbers)) then None else Some (spot name (length numbers))

abbrev pub bad_size_of : Environment → List ℕ → Term → Option Spot
bad_size_of env name size = unless (is_from_to (pos 0) (pos 4194303) (outer_value env size)) name

abbrev pub bad_length_of : Environment → List Given → List ℕ → Term → Option Spot
bad_length_of env given name size = unless_long (outer_value env size) name (numbers_of given name)

module _ (tree : Tree) (given : List Given) where
  -- 6: a size that is out of its range
  abbrev pub bad_size : Option Spot
  bad_size = first (first_array (bad_size_of (outer_env tree given))) tree.decls

  -- 7: a list that is longer or shorter than its array
  abbrev pub bad_length : Option Spot
  bad_length = first (first_array (bad_length_of (outer_env tree given) given)) tree.decls

-- ---- index arrays

abbrev pub is_index : ℤ → Bool
is_index number = is_from_to (neg_ℤ (pos 4194304)) (pos 4194304) number

-- a number in the range from `low` up to but not including `high`
abbrev pub is_entry : ℤ → ℤ → ℤ → Bool
is_entry low high number = int_le low number && int_lt number high && is_index number

-- the place of the first number that isn't in the range
abbrev pub first_outside : ℤ → ℤ → List ℤ → Option ℕ
first_outside low high numbers = position_from (λ number. not (is_entry low high number)) 0 numbers

-- a number may stand behind another in an array with this trend
abbrev pub follows : Trend → ℤ → ℤ → Bool
follows Free before number = true
follows Monotone before number = int_le before number
follows Strict before number = int_lt before number

-- the place of the first number that may not stand behind the one before it, where the list begins at this place
abbrev pub bend_from : Trend → ℕ → List ℤ → Option ℕ
bend_from trend place [] = None
bend_from trend place (before ∷ []) = None
bend_from trend place (before ∷ number ∷ numbers) = if follows trend before number then bend_from trend (place + 1) (number ∷ numbers) else Some (place + 1)

abbrev pub bad_entry_of : Environment → List Given → Decl → Option Spot
bad_entry_of env given (Params names) = None
bad_entry_of env given (Values arrays) = None
bad_entry_of env given (Index name size low high trend) = found_at name (first_outside (outer_value env low) (outer_value env high) (numbers_of given name))

abbrev pub bad_trend_of : List Given → Decl → Option Spot
bad_trend_of given (Params names) = None
bad_trend_of given (Values arrays) = None
bad_trend_of given (Index name size low high trend) = found_at name (bend_from trend 0 (numbers_of given name))

module _ (tree : Tree) (given : List Given) where
  -- 8: a number of an index array that is out of its range
  abbrev pub bad_entry : Option Spot
  bad_entry = first (bad_entry_of (outer_env tree given) given) tree.decls

  -- 9: a number of a `monotone` array that falls, or one of a `strict` array that doesn't rise
  abbrev pub bad_trend : Option Spot
  bad_trend = first (bad_trend_of given) tree.decls

-- ---- steps and loops

abbrev pub bad_bound_of : Environment → Loop → Option Spot
bad_bound_of env each = unless (is_index (outer_value env each.low) && is_index (outer_value env each.high)) each.name

module _ (tree : Tree) (given : List Given) where
  -- 10: a number of steps that is out of its range
  abbrev pub bad_steps : Option Spot
  bad_steps = unless (is_from_to (pos 0) (pos 4194304) (outer_value (outer_env tree given) tree.steps)) (codes "steps")

  -- 11: a loop with a bound that is out of its range
  abbrev pub bad_bound : Option Spot
  bad_bound = first (bad_bound_of (outer_env tree given)) tree.loops

-- ---- all of them

-- the rules from 1 on
abbrev pub rules : List (Tree → List Given → Option Spot)
rules =
    undeclared ∷ (λ tree. repeated) ∷ missing ∷ bad_parameter ∷ (λ tree. large_number) ∷ bad_size ∷ bad_length ∷ bad_entry ∷ bad_trend ∷ bad_steps ∷ bad_bound ∷ []

-- the first rule from this number on that is broken, and where
abbrev pub first_broken : ℕ → List (Option Spot) → Option (ℕ × Spot)
first_broken rule [] = None
first_broken rule (None ∷ others) = first_broken (rule + 1) others
first_broken rule (Some where_broken ∷ others) = Some (rule, where_broken)

abbrev pub first_fault_of : Tree → List Given → Option (ℕ × Spot)
first_fault_of tree given = first_broken 1 (map (λ (rule : Tree → List Given → Option Spot). rule tree given) rules)
