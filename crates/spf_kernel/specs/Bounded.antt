-- Trees that are small enough: no index expression passes 64 bits, and the sites of a loop have numbers of 32 bits.
use Rattle.std.specs.Prelude.{◌<◌, ◌≤◌, ◌^◌, length, All, ⊤}
use Rattle.std.specs.List.{sum_by}
use Rattle.spf_term.specs.Bounded.{IsBounded}
use Rattle.spf_kernel.specs.BodySites.{item_sites}
use Rattle.spf_kernel.specs.Kept.{Property, KeepsValue, KeepProds, KeepFactors, KeepsFactor, KeepsAssign, KeepsCond, KeepsGuard, KeepsPart, KeepsItem, KeepsDecl}
use Rattle.spf_kernel.specs.TreeNames.{names_in}
use Rattle.spf_kernel.specs.Types.{Value, Row_of-Prod, Row_of-Factor, Factor, Assign, Cond, Guard, Part, Item, Loop, Decl, Tree}

-- an entry's index expression is bounded
abbrev pub HasBounded : Factor → Type 0
HasBounded (Factor.Index array sub) = IsBounded sub
HasBounded (Factor.Cell array sub) = IsBounded sub
HasBounded fact = ⊤

-- whatever variables are in scope
abbrev pub bounded : Property
bounded = record { ix = IsBounded; leaf = HasBounded; array = λ number. ⊤ }

abbrev pub IsBoundedValue : Value → Type 0
IsBoundedValue = KeepsValue bounded

abbrev pub AreBoundedProds : {n : _} → Row_of-Prod n → Type 0
AreBoundedProds row = KeepProds bounded row

abbrev pub AreBoundedFactors : {n : _} → Row_of-Factor n → Type 0
AreBoundedFactors row = KeepFactors bounded row

abbrev pub IsBoundedFactor : Factor → Type 0
IsBoundedFactor = KeepsFactor bounded

abbrev pub IsBoundedAssign : Assign → Type 0
IsBoundedAssign = KeepsAssign bounded

abbrev pub IsBoundedCond : Cond → Type 0
IsBoundedCond = KeepsCond bounded

abbrev pub IsBoundedGuard : Guard → Type 0
IsBoundedGuard = KeepsGuard bounded

abbrev pub IsBoundedPart : Part → Type 0
IsBoundedPart = KeepsPart bounded

abbrev pub IsBoundedItem : Item → Type 0
IsBoundedItem = KeepsItem (λ variables. bounded)

pub record IsBoundedLoop (loop : Loop) : Type 0 where
  pub low : IsBounded loop.low
  pub high : IsBounded loop.high
  pub items : All IsBoundedItem loop.items
  pub sites : sum_by item_sites loop.items < 2 ^ 31

abbrev pub IsBoundedDecl : Decl → Type 0
IsBoundedDecl = KeepsDecl (λ variables. bounded)

pub record IsBoundedTree (tree : Tree) : Type 0 where
  pub decls : All IsBoundedDecl tree.decls
  pub steps : IsBounded tree.steps
  pub loops : All IsBoundedLoop tree.loops
  pub few : length tree.loops ≤ 32
  pub arrays : length (names_in tree.decls).arrays ≤ 64
  pub tables : length (names_in tree.decls).tables ≤ 64
