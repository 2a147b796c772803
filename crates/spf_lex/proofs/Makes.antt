-- What holds of the tokens of a text gives what holds of what a production makes of it.
use Rattle.std.proofs.Common.{Bool, false, [], ◌∷◌}
use Rattle.std.specs.List.{AllByRecursion}
use Rattle.spf_lex.specs.Derivation.{Derivation}
use Rattle.spf_lex.specs.Language.{Lexed}
use Rattle.spf_lex.specs.Production.{Production, behind, many, separated}
use Rattle.spf_lex.proofs.Leaves.{Leaves}

module _ {K : Type 0} {same : K → K → Bool} (P : K → Lexed K → Type 0) where
  -- where P holds of each token of a derivation, Q holds of what is made of it
  abbrev pub Makes : {A : Type 0} {empty : Bool} → (A → Type 0) → Production same empty A → Type 0
  Makes Q p = (d : Derivation (Lexed K) p.shape.grammar) → Leaves P p.shape.grammar d → Q (p.make d)

  pub many_makes : {A : Type 0} (Q : A → Type 0) (p : Production same false A) → Makes Q p → Makes (AllByRecursion Q) (many p)
  unfolding Leaves
  many_makes Q p one [] leaves = tt
  many_makes Q p one (d ∷ ds) leaves = (one d leaves.0, many_makes Q p one ds leaves.1)

  further_make : {A : Type 0} (Q : A → Type 0) (kind : K) (p : Production same false A) → Makes Q p → Makes (AllByRecursion Q) (many (behind kind p))
  unfolding Leaves
  further_make Q kind p one [] leaves = tt
  further_make Q kind p one (d ∷ ds) leaves = (one d.1 leaves.0.1, further_make Q kind p one ds leaves.1)

  pub separated_makes : {A : Type 0} (Q : A → Type 0) (kind : K) (p : Production same false A) → Makes Q p → Makes (AllByRecursion Q) (separated kind p)
  unfolding Leaves
  separated_makes Q kind p one d leaves = (one d.0 leaves.0, further_make Q kind p one d.1 leaves.1)
