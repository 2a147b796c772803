-- How an equality is chosen, and its solution put in place of the variable.
use Rattle.std.specs.Prelude.{◌≡◌, ℕ, ◌+◌, ◌<◌, Option, None, Some, List, [], ◌++◌, All, length, take, drop}
use Rattle.spf_term.specs.Normal.{IsNormal, normal}
use Rattle.spf_term.specs.NumberRule.{excess}
use Rattle.spf_term.specs.Solution.{IsReady, oriented}
use Rattle.spf_term.specs.Substitution.{substituted}
use Rattle.spf_term.specs.declared.solutions.Solution.{Solution}
use Rattle.spf_term.specs.declared.term.Term.{Term}
use Rattle.spf_rel.specs.Simplified.{Choice, choice}
use Rattle.spf_rel.specs.declared.elimination.Chosen.{Chosen}
use Rattle.spf_rel.specs.declared.relation.Conj.{Conj}

-- a term that is normal and keeps the number rule
abbrev pub IsReadyTerm : Term → Type 0
IsReadyTerm term = IsNormal term × (excess term ≡ None)

abbrev pub AreReady : List Term → Type 0
AreReady terms = All IsReadyTerm terms

pub record IsReadyConj (conj : Conj) : Type 0 where
  pub equal : AreReady conj.equal
  pub least : AreReady conj.least

abbrev pub put : Solution → Term → Term
put found term = normal (substituted found.var found.by term)

abbrev pub put_oriented : Solution → Term → Term
put_oriented found term = oriented (put found term)

-- the solution, and the terms but that at the place
abbrev pub choice_of : List Term → Chosen → Choice
choice_of terms chosen = record { found = chosen.found; others = take chosen.place terms ++ drop (chosen.place + 1) terms }

pub record IsChoice (low high : ℕ) (terms : List Term) (chosen : Chosen) : Type 0 where
  pub inside : chosen.place < length terms
  pub is : choice low high [] terms ≡ Some (choice_of terms chosen)
  pub ready : IsReady chosen.found

abbrev pub IsChosen : ℕ → ℕ → List Term → Option Chosen → Type 0
IsChosen low high terms None = choice low high [] terms ≡ None
IsChosen low high terms (Some chosen) = IsChoice low high terms chosen
