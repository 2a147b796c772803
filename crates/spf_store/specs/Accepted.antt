-- Numbers that a kernel may be given: those that keep the rules of the input.
use Rattle.std.specs.Prelude.{◌≡◌, ℤ, pos, neg_ℤ, ◌≤ℤ◌, ◌<ℤ◌, List, [], ◌∷◌, length, All, ⊤}
use Rattle.std.specs.List.{flat_map}
use Rattle.spf_term.specs.Environment.{Environment}
use Rattle.spf_term.specs.declared.term.Term.{Term}
use Rattle.spf_kernel.specs.TreeNames.{names_in}
use Rattle.spf_kernel.specs.declared.tree.DataDecl.{DataDecl}
use Rattle.spf_kernel.specs.declared.tree.Decl.{Decl}
use Rattle.spf_kernel.specs.declared.tree.Decl.TheVariants.{Params, Index, Values}
use Rattle.spf_kernel.specs.declared.tree.Loop.{Loop}
use Rattle.spf_kernel.specs.declared.tree.Tree.{Tree}
use Rattle.spf_kernel.specs.declared.tree.Trend.{Trend}
use Rattle.spf_kernel.specs.declared.tree.Trend.TheVariants.{Free, Monotone, Strict}
use Rattle.spf_store.specs.Shaped.{data_in, outer_value}

-- the number is in a range with both ends
pub record IsFromTo (low high number : ℤ) : Type 0 where
  pub at_least : low ≤ℤ number
  pub at_most : number ≤ℤ high

-- the range of an outer bound, and that of an entry of an index array besides its own
abbrev pub IsIndex : ℤ → Type 0
IsIndex = IsFromTo (neg_ℤ (pos 4194304)) (pos 4194304)

-- each number goes on from the one before it
abbrev pub GoesOn : (ℤ → ℤ → Type 0) → List ℤ → Type 0
GoesOn follows [] = ⊤
GoesOn follows (number ∷ []) = ⊤
GoesOn follows (number ∷ next ∷ numbers) = follows number next × GoesOn follows (next ∷ numbers)

-- a `monotone` array doesn't fall, and a `strict` one rises
abbrev pub Trends : Trend → List ℤ → Type 0
Trends Free numbers = ⊤
Trends Monotone numbers = GoesOn (λ number next. number ≤ℤ next) numbers
Trends Strict numbers = GoesOn (λ number next. number <ℤ next) numbers

module _ (env : Environment) where
  abbrev pub IsSize : Term → Type 0
  IsSize size = IsFromTo (pos 0) (pos 4194303) (outer_value env size)

  -- the entries of an index array
  pub record IsTable (size low high : Term) (trend : Trend) (table : List ℤ) : Type 0 where
    pub bounded : IsSize size
    pub length : pos (length table) ≡ outer_value env size
    pub range : All (λ number. (outer_value env low ≤ℤ number) × (number <ℤ outer_value env high) × IsIndex number) table
    pub trends : Trends trend table

  -- the tables are those of the index arrays, in the order of their declarations
  abbrev pub AreTables : List Decl → List (List ℤ) → Type 0
  AreTables [] [] = ⊤
  AreTables [] (table ∷ tables) = ⊥
  AreTables (Index name size low high trend ∷ decls) [] = ⊥
  AreTables (Index name size low high trend ∷ decls) (table ∷ tables) = IsTable size low high trend table × AreTables decls tables
  AreTables (Params names ∷ decls) tables = AreTables decls tables
  AreTables (Values arrays ∷ decls) tables = AreTables decls tables

  abbrev pub IsBoundedBy : Loop → Type 0
  IsBoundedBy each = IsIndex (outer_value env each.low) × IsIndex (outer_value env each.high)

  -- the parameters and index arrays are those of the kernel, and what is computed from them is in its range
  pub record IsAccepted (tree : Tree) : Type 0 where
    pub params : length env.params ≡ length (names_in tree.decls).params
    pub natural : All (IsFromTo (pos 0) (pos 4194304)) env.params
    pub tables : AreTables tree.decls env.tables
    pub sizes : All (λ (array : DataDecl). IsSize array.size) (flat_map data_in tree.decls)
    pub steps : IsFromTo (pos 0) (pos 4194304) (outer_value env tree.steps)
    pub bounds : All IsBoundedBy tree.loops
