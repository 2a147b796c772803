-- Each number in a tree names something declared, or a variable in scope.
use Rattle.std.specs.Prelude.{ℕ, ◌<◌, List, length, All, ⊤}
use Rattle.spf_kernel.specs.Types.{Term, Term', Row_of-Mono, end_of-Mono, more_of-Mono, Var, Param, App, Factor, Decl, Tree}
use Rattle.spf_term.specs.declared.term.Atom.{Atom}
use Rattle.spf_kernel.specs.Kept.{Property, KeepsLoop, KeepsDecl}
use Rattle.spf_kernel.specs.TreeNames.{names_in}

-- how many parameters, index arrays and data arrays are declared
pub record NameCounts : Type 0 where
  pub params : ℕ
  pub tables : ℕ
  pub arrays : ℕ

abbrev pub counts_in : List Decl → NameCounts
counts_in decls = let names = names_in decls in record { params = length names.params; tables = length names.tables; arrays = length names.arrays }

-- where so many variables are in scope
module _ (counts : NameCounts) (variables : ℕ) where
  abbrev mutual
    pub IsNamedTerm : Term → Type 0
    IsNamedTerm (Term' shape monos constant) = AreNamedMonos monos

    pub AreNamedMonos : {n : _} → Row_of-Mono n → Type 0
    AreNamedMonos end_of-Mono = ⊤
    AreNamedMonos (more_of-Mono coef atom others) = IsNamedAtom atom × AreNamedMonos others

    pub IsNamedAtom : Atom → Type 0
    IsNamedAtom (Var number) = number < variables
    IsNamedAtom (Param number) = number < counts.params
    IsNamedAtom (App fun arg) = (fun < counts.tables) × IsNamedTerm arg

  abbrev pub IsNamedLeaf : Factor → Type 0
  IsNamedLeaf (Factor.Param number) = number < counts.params
  IsNamedLeaf (Factor.Var number) = number < variables
  IsNamedLeaf (Factor.Index array sub) = (array < counts.tables) × IsNamedTerm sub
  IsNamedLeaf (Factor.Cell array sub) = (array < counts.arrays) × IsNamedTerm sub
  IsNamedLeaf fact = ⊤

  abbrev pub named : Property
  named = record { ix = IsNamedTerm; leaf = IsNamedLeaf; array = λ number. number < counts.arrays }

pub record IsNamedTree (counts : NameCounts) (tree : Tree) : Type 0 where
  pub decls : All (KeepsDecl (named counts)) tree.decls
  pub steps : IsNamedTerm counts 0 tree.steps
  pub loops : All (KeepsLoop (named counts)) tree.loops

-- each number is less than how many parameters, index arrays or data arrays the tree declares, or variables are in scope
unfoldable pub IsNamed : Tree → Type 0
IsNamed tree = IsNamedTree (counts_in tree.decls) tree
