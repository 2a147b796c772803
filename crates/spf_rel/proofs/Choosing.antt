-- The equality that is solved, found from the front.
use Rattle.std.proofs.Common.{◌≡◌, ℕ, ◌+◌, ◌-◌, ◌<◌, ◌≤◌, List, [], ◌∷◌, ◌++◌, None, Some, length, get_or, take, drop, map, refl, ap, sym, ◌∙◌, arith, length-drop}
use Rattle.std.proofs.lemmas.List.{drop_all, drop_more, map-append, take_all, take_more}
use Rattle.spf_term.specs.Normal.{normal}
use Rattle.spf_term.specs.Solution.{IsReady, oriented, solution}
use Rattle.spf_term.specs.Substitution.{substituted}
use Rattle.spf_term.specs.declared.solutions.Solution.{Solution}
use Rattle.spf_term.specs.declared.term.Term.{Term}
use Rattle.spf_rel.specs.Elimination.{IsChoice, choice_of, put, put_oriented}
use Rattle.spf_rel.specs.Simplified.{choice, eliminated, first_choice}
use Rattle.spf_rel.specs.declared.elimination.Chosen.{Chosen}
use Rattle.spf_rel.specs.declared.relation.Conj.{Conj}

module _ (low high : ℕ) (terms : List Term) (place : ℕ) where
  abbrev pub Reached : Type 0
  Reached = choice low high (take place terms) (drop place terms) ≡ choice low high [] terms

  pub none_chosen : length terms ≤ place → Reached → choice low high [] terms ≡ None
  none_chosen past reached = sym reached ∙ ap (choice low high (take place terms)) (drop_all place terms past)

  module _ (term : Term) (inside : place < length terms) (at : term ≡ get_or terms place term) where
    split : choice low high (take place terms) (drop place terms)
        ≡ first_choice (solution low high term) (take place terms ++ drop (place + 1) terms) (choice low high (take (place + 1) terms) (drop (place + 1) terms))
    split =
        ap (choice low high (take place terms)) (drop_more terms place term inside ∙ ap (λ (first : Term). first ∷ drop (place + 1) terms) (sym at))
        ∙ ap (λ front. first_choice (solution low high term) (take place terms ++ drop (place + 1) terms) (choice low high front (drop (place + 1) terms)))
        (ap (λ (last : Term). take place terms ++ last ∷ []) at ∙ sym (take_more terms place term inside))

    pub chosen_here : (found : Solution) → solution low high term ≡ Some found → IsReady found → Reached → IsChoice low high terms (record { place = place; found = found })
    chosen_here found is ready reached = record {
      inside = inside;
      is = sym reached ∙ split ∙ ap (λ first. first_choice first (take place terms ++ drop (place + 1) terms) (choice low high (take (place + 1) terms) (drop (place + 1) terms))) is;
      ready = ready;
    }

    pub not_chosen : solution low high term ≡ None → Reached → choice low high (take (place + 1) terms) (drop (place + 1) terms) ≡ choice low high [] terms
    not_chosen is reached =
        sym (split ∙ ap (λ first. first_choice first (take place terms ++ drop (place + 1) terms) (choice low high (take (place + 1) terms) (drop (place + 1) terms))) is) ∙ reached

-- ---- what is made

map_twice : (f g : Term → Term) (terms : List Term) → map f (map g terms) ≡ map (λ (term : Term). f (g term)) terms
map_twice f g [] = refl
map_twice f g (term ∷ terms) = ap (λ more. f (g term) ∷ more) (map_twice f g terms)

-- those before a place and behind it
pub both_mapped : (f : Term → Term) (terms : List Term) (place : ℕ) → map f (take place terms) ++ map f (take (length terms - (place + 1)) (drop (place + 1) terms)) ≡ map f (take place terms ++ drop (place + 1) terms)
both_mapped f terms place =
    ap (λ rest. map f (take place terms) ++ map f rest) (take_all (length terms - (place + 1)) (drop (place + 1) terms) (omega (arith, length-drop (place + 1) terms)))
    ∙ sym (map-append f (take place terms) (drop (place + 1) terms))

module _ (conj : Conj) (chosen : Chosen) (terms : List Term) (are : terms ≡ conj.equal) where
  abbrev place : ℕ
  place = chosen.place

  others_are : map (put_oriented chosen.found) (take place terms) ++ map (put_oriented chosen.found) (take (length terms - (place + 1)) (drop (place + 1) terms))
      ≡ (eliminated conj (choice_of conj.equal chosen)).equal
  others_are =
      both_mapped (put_oriented chosen.found) terms place
      ∙ ap (λ all. map (put_oriented chosen.found) (take place all ++ drop (place + 1) all)) are
      ∙ sym (map_twice (λ (term : Term). oriented (normal term)) (substituted chosen.found.var chosen.found.by) (take place conj.equal ++ drop (place + 1) conj.equal))

  pub eliminated_is : (equal least : List Term) → equal ≡ map (put_oriented chosen.found) (take place terms) ++ map (put_oriented chosen.found) (take (length terms - (place + 1)) (drop (place + 1) terms))
      → least ≡ map (put chosen.found) conj.least → record { inner = conj.inner; equal = equal; least = least } ≡ eliminated conj (choice_of conj.equal chosen)
  eliminated_is equal least equal_is least_is =
      λ i. record { inner = conj.inner; equal = (equal_is ∙ others_are) i; least = (least_is ∙ sym (map_twice normal (substituted chosen.found.var chosen.found.by) conj.least)) i }
