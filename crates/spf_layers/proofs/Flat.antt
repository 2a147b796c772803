-- Rows with one more unit.
use Rattle.std.proofs.Common.{◌≡◌, ℕ, suc, ◌+◌, List, [], ◌∷◌, ◌++◌, length, set, sym, ap, ◌∙◌, subst, arith}
use Rattle.std.proofs.lemmas.List.{length_push}
use Rattle.spf_touch.specs.declared.class.Class.{Class}
use Rattle.spf_layers.specs.Flat.{AreEnds, grouped, joined_last, parts}
use Rattle.spf_layers.specs.Groups.{Group}
use Rattle.spf_layers.proofs.Parts.{ends-last, ends-push, grouped-last, grouped-push, length-grouped, length-parts, parts-push}

abbrev pub groups_of : List ℕ → List ℕ → List Class → List Group
groups_of units ends classes = grouped classes (parts units 0 ends)

module _ (units ends : List ℕ) (classes : List Class) (lasts : AreEnds (length units) 0 ends) (same : length classes ≡ length ends) (u more : ℕ) (at : more ≡ length units + 1) where
  pub opened : (c : Class) → groups_of (units ++ u ∷ []) (ends ++ more ∷ []) (classes ++ c ∷ []) ≡ groups_of units ends classes ++ record { class = c; units = u ∷ [] } ∷ []
  opened c =
      ap (grouped (classes ++ c ∷ [])) (parts-push units (u ∷ []) 0 ends more lasts at) ∙
      grouped-push classes (parts units 0 ends) c (u ∷ []) (same ∙ sym (length-parts units 0 ends))

  pub opened_ends : AreEnds (length (units ++ u ∷ [])) 0 (ends ++ more ∷ [])
  opened_ends =
      let whole : more ≡ length (units ++ u ∷ []) = omega (arith, length_push units u) in
      subst (λ n. AreEnds n 0 (ends ++ more ∷ [])) whole (ends-push (length units) 0 ends more lasts (omega arith))

  pub joined : (last : ℕ) → suc last ≡ length ends → groups_of (units ++ u ∷ []) (set ends last more) classes ≡ joined_last u (groups_of units ends classes)
  joined last e = rw at (grouped-last units u 0 ends classes last lasts e same)

  pub joined_ends : (last : ℕ) → suc last ≡ length ends → AreEnds (length (units ++ u ∷ [])) 0 (set ends last more)
  joined_ends last e =
      let whole : more ≡ length (units ++ u ∷ []) = omega (arith, length_push units u) in
      subst (λ n. AreEnds n 0 (set ends last more)) whole (ends-last (length units) 0 ends last more lasts e (omega arith))

-- as many groups as classes
pub length_groups : (units ends : List ℕ) (classes : List Class) → length classes ≡ length ends → length (groups_of units ends classes) ≡ length classes
length_groups units ends classes same = length-grouped classes (parts units 0 ends) (same ∙ sym (length-parts units 0 ends))
