-- The parts of a plan's job, whose units are the source's on packed cells.
use Rattle.std.proofs.Common.{inl, inr, ◌≡◌, ℕ, ◌<◌, ◌≤◌, ℤ, true, List, [], All, length, slice_index_or, refl, sym, ap, ◌∙◌, subst, arith}
use Rattle.std.specs.List.{range_with_len}
use Rattle.std.proofs.lemmas.Bool.{cases_lt}
use Rattle.std.proofs.lemmas.List.{get_or_default, get_or_past}
use mathlib.Core.Path.{fun_ext}
use Rattle.spf_perm.specs.Perm.{IsPerm}
use Rattle.spf_touch.specs.Conflict.{Conflict}
use Rattle.spf_touch.specs.Frame.{Behavior, IsTouched, after_units}
use Rattle.spf_touch.specs.Ordered.{is_in}
use Rattle.spf_touch.specs.Renaming.{Renaming, renamed_units, unpacked}
use Rattle.spf_touch.specs.RenamingLaw.{at_origins}
use Rattle.spf_touch.specs.declared.touch.Touch.{Touch}
use Rattle.spf_space.specs.Places.{ArePlacesOf, Place, place_of}
use Rattle.spf_space.specs.Units.{units_of}
use Rattle.spf_space.specs.declared.shape.LoopShape.{LoopShape}
use Rattle.spf_layers.specs.Legality.{IsLegal}
use Rattle.spf_core.specs.Tiling.{Tiling}
use Rattle.spf_tiles.specs.Feet.{AreFeet}
use Rattle.spf_tiles.specs.Lists.{AreLists}
use Rattle.spf_tiles.specs.Parts.{ArePlanParts, IsOrderFor}

pub all_perms : (packs : List (List ℕ)) → ((n : ℕ) → n < length packs → IsPerm (slice_index_or packs n [])) → All IsPerm packs
all_perms packs perms = λ n d inside. subst IsPerm (get_or_default packs n [] d inside) (perms n inside)

-- what stands in a list is a unit
pub listed_below : (place : ℕ → Place) (count tiles : ℕ) (lists : List (List ℕ)) → AreLists place count tiles lists → (t u : ℕ) → is_in (slice_index_or lists t []) u ≡ true → u < count
listed_below place count tiles lists are t u listed = elim (cases_lt t (length lists)) [
  | inl lt ↦ ((are.units t u (omega (arith, lt, are.each_tile))).0 listed).0
  | inr past ↦ let none : is_in [] u ≡ true = rw (get_or_past lists t [] past) at listed in absurd cc
]

-- each unit's place is in one of the tiles
pub tile_below : (steps : ℕ) (loops : List LoopShape) (tiles : List ℕ) (orders : List (List ℕ)) (count : ℕ) → All (λ (tile : ℕ). tile < count) tiles
    → ArePlacesOf steps loops tiles orders → (u : ℕ) → u < length (units_of steps loops) → (place_of steps loops tiles orders u).tile < count
unfolding place_of
tile_below steps loops tiles orders count below places u inside = below u 0 (omega (arith, inside, places.each_unit))

-- units that are the renamed ones of a source, which has these touches and so many units
module _ (units source : Behavior) (renaming : Renaming) (are : units ≡ renamed_units renaming source) where
  pub count_of : units.count ≡ source.count
  count_of = ap (λ (of : Behavior). of.count) are

  module _ (touches : ℕ → List Touch) (touches_are : source.touches ≡ touches) (count : ℕ) (count_is : source.count ≡ count)
      (back : (u v : ℕ) → Conflict ((renamed_units renaming source).touches u) ((renamed_units renaming source).touches v) → Conflict (source.touches u) (source.touches v)) where
    -- they conflict where the source's touches do
    conflict_is : (u v : ℕ) → Conflict (units.touches u) (units.touches v) → Conflict (touches u) (touches v)
    conflict_is u v clash =
        let packed = subst (λ (of : Behavior). Conflict (of.touches u) (of.touches v)) are clash in
        subst (λ (of : ℕ → List Touch). Conflict (of u) (of v)) touches_are (back u v packed)

    below_count : (u : ℕ) → u < units.count → u < count
    below_count u inside = omega (arith, inside, count_of, count_is)

    module _ (place : ℕ → Place) (tiles : ℕ) where
      order_of : (order : List (List ℕ)) → IsOrderFor touches place count tiles order → IsOrderFor units.touches place units.count tiles order
      order_of order is = record {
        each_tile = is.each_tile;
        transitive = is.transitive;
        upward = is.upward;
        linked = λ p q lt inside clash. is.linked p q lt (below_count q inside) (conflict_is p q clash);
      }

      pub parts_of : (job : Tiling) → 1 ≤ tiles → tiles ≤ 1024 → ((u e : ℕ) → IsTouched (touches u) e → renaming.to e < length job.cells)
          → IsLegal touches place count → ((u : ℕ) → u < count → (place u).tile < tiles) → AreLists place count tiles job.lists
          → IsOrderFor touches place count tiles job.order → AreFeet units.touches job.lists job.feet → ArePlanParts units units.touches place tiles job
      parts_of job some few cells legal inside lists order feet = record {
        few = (some, few);
        touched = λ u lt. refl;
        cells = λ u e lt touched.
            let packed = subst (λ (of : Behavior). IsTouched (of.touches u) e) are touched in
            at_origins renaming (λ (x : ℕ). x < length job.cells) (source.touches u)
            (λ d there. cells u d (subst (λ (of : ℕ → List Touch). IsTouched (of u) d) touches_are there)) e packed;
        legal = λ p q lt within clash. legal p q lt (below_count q within) (conflict_is p q clash);
        inside = λ u lt. inside u (below_count u lt);
        lists = subst (λ (n : ℕ). AreLists place n tiles job.lists) (sym (count_of ∙ count_is)) lists;
        order = order_of job.order order;
        feet = feet;
      }

  -- run on packed values they make of each element what the source makes of the values
  pub ran_packed : (there here : ℕ → ℤ) → ((e : ℕ) → there (renaming.to e) ≡ here e)
      → ((us : List ℕ) (values : ℕ → ℤ) (e : ℕ) → after_units (renamed_units renaming source) us values (renaming.to e) ≡ after_units source us (unpacked renaming values) e)
      → (e : ℕ) → after_units units (range_with_len 0 units.count) there (renaming.to e) ≡ after_units source (range_with_len 0 source.count) here e
  ran_packed there here same values e =
      ap (λ (of : Behavior). after_units of (range_with_len 0 of.count) there (renaming.to e)) are
      ∙ (values (range_with_len 0 source.count) there e
      ∙ ap (λ (of : ℕ → ℤ). after_units source (range_with_len 0 source.count) of e) (fun_ext same))
