-- The numbers of a step that breaks no rule are such as the shape and the partitioners have.
use Rattle.std.proofs.Common.{◌≡◌, ℕ, zero, suc, ◌+◌, ◌<◌, ◌≤◌, Bool, true, false, not, ◌&&◌, ◌||◌, ◌==◌, cond, List, [], ◌∷◌, length, map, take, get_or, slice_get, None, Some, All, inl, inr, arith, refl, sym, ap, ◌∙◌, subst}
use Rattle.std.specs.List.{AllByRecursion, list_all, list_any, position_from}
use Rattle.std.proofs.lemmas.Bool.{cases_Bool, cases_eq, ne_eqb}
use Rattle.std.proofs.lemmas.Bool.Decides.{nat_tests}
use Rattle.std.proofs.lemmas.List.{get_or-map, get_or-take, length-map, length-take}
use Rattle.std.proofs.lemmas.List.Elements.{All-map}
use Rattle.std.proofs.lemmas.List.Folds.{list_all_at, list_any_at}
use Rattle.std.proofs.lemmas.Option.{slice_get-get_or}
use Rattle.spf_space.specs.declared.shape.ArrayShape.{ArrayShape}
use Rattle.spf_space.specs.declared.shape.LoopShape.{LoopShape}
use Rattle.spf_space.specs.declared.shape.Shape.{Shape}
use Rattle.std.specs.Str.{bytes_eq}
use Rattle.spf_script.specs.Resolved.{AreAlike, IsSeedFor, IsStepFor, IsWellFormed, TilesOnce, array_number, is_tiling, loop_number, most_parts, parts_in, resolved, resolved_seed}
use Rattle.spf_script.specs.Rules.{broken_rules, differ, is_array, is_behind_tile, is_empty, is_foreign, is_late, is_loop, is_misnamed, is_tile, is_tilepack, is_uneven, least_rule, length_of}
use Rattle.spf_script.specs.declared.step.TextSeed.{TextSeed}
use Rattle.spf_script.specs.declared.step.TextSeed.TheVariants.{Block, Spread, Plug}
use Rattle.spf_script.specs.declared.step.TextStep.{TextStep}
use Rattle.spf_script.specs.declared.step.TextStep.TheVariants.{Cpack, LexGroup, LexSort, Bucket, Tile, TilePack}
use Rattle.spf_script.proofs.Places.{left_true, place_within}

-- where none is found, none is true
each_false : (rule : ℕ) (broken : List Bool) → position_from (λ one. one) rule broken ≡ None → AllByRecursion (λ one. one ≡ false) broken
each_false rule [] none = tt
each_false rule (true ∷ broken) none = cc
each_false rule (false ∷ broken) none = (refl, each_false (rule + 1) broken none)

both_true : (a b : Bool) → not (a && b) ≡ false → (a ≡ true) × (b ≡ true)
both_true true true e = (refl, refl)
both_true true false e = cc
both_true false b e = cc

-- the first tile is the one that has no tile before it
parts_at : (script : List TextStep) (place : ℕ) (of : List ℕ) (at : ℕ) (seed : TextSeed) (parts : ℕ) → list_any is_tile (take place script) ≡ false
    → slice_get script place ≡ Some (Tile of at seed parts) → parts_in script ≡ parts
parts_at [] place of at seed parts none there = cc
parts_at (Tile of' at' seed' parts' ∷ script) zero of at seed parts none there = cc
parts_at (Cpack arrays by ∷ script) zero of at seed parts none there = cc
parts_at (LexGroup from by ∷ script) zero of at seed parts none there = cc
parts_at (LexSort from by ∷ script) zero of at seed parts none there = cc
parts_at (Bucket from by size ∷ script) zero of at seed parts none there = cc
parts_at (TilePack arrays ∷ script) zero of at seed parts none there = cc
parts_at (Tile of' at' seed' parts' ∷ script) (suc place) of at seed parts none there = cc
parts_at (Cpack arrays by ∷ script) (suc place) of at seed parts none there = parts_at script place of at seed parts none there
parts_at (LexGroup from by ∷ script) (suc place) of at seed parts none there = parts_at script place of at seed parts none there
parts_at (LexSort from by ∷ script) (suc place) of at seed parts none there = parts_at script place of at seed parts none there
parts_at (Bucket from by size ∷ script) (suc place) of at seed parts none there = parts_at script place of at seed parts none there
parts_at (TilePack arrays ∷ script) (suc place) of at seed parts none there = parts_at script place of at seed parts none there

-- what the rules say of a step that breaks none
record Keeps (shape : Shape) (plugs : ℕ) (script : List TextStep) (place : ℕ) (step : TextStep) : Type 0 where
  named : is_misnamed shape step ≡ false
  even : is_uneven shape step ≡ false
  filled : is_empty step ≡ false
  timely : is_late shape step ≡ false
  first : is_behind_tile script place step ≡ false
  handed : is_foreign plugs step ≡ false

keeps : (shape : Shape) (plugs : ℕ) (script : List TextStep) (place : ℕ) (step : TextStep) → slice_get script place ≡ Some step
    → least_rule shape plugs script place ≡ None → Keeps shape plugs script place step
keeps shape plugs script place step there none =
    let each = each_false 1 (broken_rules shape plugs script place step) (rw there at none) in
    record { named = each.1.0; even = each.1.1.1.0; filled = each.1.1.1.1.0; timely = each.1.1.1.1.1.0; first = each.1.1.1.1.1.1.0; handed = each.1.1.1.1.1.1.1.1.0 }

loop_within : (loops : List LoopShape) (name : List ℕ) → list_all (is_loop loops) (name ∷ []) ≡ true → loop_number loops name < length loops
loop_within loops name all = place_within (λ (each : LoopShape). bytes_eq each.name name) loops (left_true _ true all)

array_within : (arrays : List ArrayShape) (name : List ℕ) → list_all (is_array arrays) (name ∷ []) ≡ true → array_number arrays name < length arrays
array_within arrays name all = place_within (λ (array : ArrayShape). bytes_eq array.name name) arrays (left_true _ true all)

-- the array that a name is for, by its number
array_there : (arrays : List ArrayShape) (name : List ℕ) → is_array arrays name ≡ true
    → (array : ArrayShape) × (slice_get arrays (array_number arrays name) ≡ Some array) × (array.length ≡ length_of arrays name)
array_there [] name any = cc
array_there (array ∷ arrays) name any = by (bytes_eq array.name name) any (array_there arrays name) where
  by : (b : Bool) → (b || is_array arrays name) ≡ true
      → (is_array arrays name ≡ true → (found : ArrayShape) × (slice_get arrays (array_number arrays name) ≡ Some found) × (found.length ≡ length_of arrays name))
      → (found : ArrayShape) × (slice_get (array ∷ arrays) (cond (not b) (1 + array_number arrays name) 0) ≡ Some found) × (found.length ≡ cond b array.length (length_of arrays name))
  by true any rest = (array, refl, refl)
  by false any rest =
      let e : suc (array_number arrays name) ≡ 1 + array_number arrays name = omega arith in
      subst (λ place. (found : ArrayShape) × (slice_get (array ∷ arrays) place ≡ Some found) × (found.length ≡ length_of arrays name)) e (rest any)

alike_at : (arrays : List ArrayShape) (first : List ℕ) (names : List (List ℕ)) → differ arrays (first ∷ names) ≡ false
    → All (λ name. length_of arrays name ≡ length_of arrays first) (first ∷ names)
alike_at arrays first names even zero d lt = refl
alike_at arrays first names even (suc k) d lt = elim (cases_eq (length_of arrays (get_or names k d)) (length_of arrays first)) [
  | inl same ↦ same
  | inr other ↦ let any : differ arrays (first ∷ names) ≡ true = list_any_at (λ name. not (length_of arrays name == length_of arrays first)) names k d (omega arith) (ap not (ne_eqb _ _ other)) in cc
]

named_at : (arrays : List ArrayShape) (names : List (List ℕ)) → list_all (is_array arrays) names ≡ true → All (λ name. is_array arrays name ≡ true) names
named_at arrays names all k d lt = elim (cases_Bool (is_array arrays (get_or names k d))) [
  | inl is ↦ is
  | inr other ↦ let none = list_all_at (is_array arrays) names k d lt other in cc
]

-- the arrays of a list that is even have one length
arrays_alike : (shape : Shape) (names : List (List ℕ)) → list_all (is_array shape.arrays) names ≡ true → differ shape.arrays names ≡ false → AreAlike shape (map (array_number shape.arrays) names)
arrays_alike shape [] all even = record { count = 0; each = λ k d lt. absurd (omega arith) }
arrays_alike shape (first ∷ names) all even = record {
  count = length_of shape.arrays first;
  each = All-map (λ number. (array : ArrayShape) × (slice_get shape.arrays number ≡ Some array) × (array.length ≡ length_of shape.arrays first)) (array_number shape.arrays) (first ∷ names) (λ k d lt.
      let at = array_there shape.arrays (get_or (first ∷ names) k d) (named_at shape.arrays (first ∷ names) all k d lt) in
      (at.0, at.1, at.2 ∙ alike_at shape.arrays first names even k d lt));
}

seed_fits : (plugs : ℕ) (of : List ℕ) (at : ℕ) (seed : TextSeed) (parts : ℕ) → is_foreign plugs (Tile of at seed parts) ≡ false → IsSeedFor plugs (resolved_seed seed)
seed_fits plugs of at Block parts handed = tt
seed_fits plugs of at Spread parts handed = tt
seed_fits plugs of at (Plug number) parts handed = grind (arith, nat_tests)

fits_at : (shape : Shape) (plugs : ℕ) (script : List TextStep) (place : ℕ) (step : TextStep) → slice_get script place ≡ Some step → parts_in script ≤ most_parts
    → Keeps shape plugs script place step → IsStepFor shape plugs (resolved shape step)
fits_at shape plugs script place (Cpack arrays by) there few kept =
    let named = both_true (list_all (is_loop shape.loops) (by ∷ [])) (list_all (is_array shape.arrays) arrays) kept.named in
    (arrays_alike shape arrays named.1 kept.even, loop_within shape.loops by named.0)
fits_at shape plugs script place (LexGroup of by) there few kept =
    let named = both_true (list_all (is_loop shape.loops) (of ∷ [])) (list_all (is_array shape.arrays) (by ∷ [])) kept.named in
    (loop_within shape.loops of named.0, array_within shape.arrays by named.1)
fits_at shape plugs script place (LexSort of by) there few kept =
    let named = both_true (list_all (is_loop shape.loops) (of ∷ [])) (list_all (is_array shape.arrays) (by ∷ [])) kept.named in
    (loop_within shape.loops of named.0, array_within shape.arrays by named.1)
fits_at shape plugs script place (Bucket of by size) there few kept =
    let named = both_true (list_all (is_loop shape.loops) (of ∷ [])) (list_all (is_array shape.arrays) (by ∷ [])) kept.named in
    let filled = kept.filled in
    let some : 1 ≤ size = grind (arith, nat_tests) in
    (loop_within shape.loops of named.0, array_within shape.arrays by named.1, some)
fits_at shape plugs script place (Tile of at seed parts) there few kept =
    let named = both_true (list_all (is_loop shape.loops) (of ∷ [])) true kept.named in
    let filled = kept.filled in
    let timely = kept.timely in
    let same = parts_at script place of at seed parts kept.first there in
    let early : at < shape.steps = grind (arith, nat_tests) in
    let some : 1 ≤ parts = grind (arith, nat_tests) in
    (loop_within shape.loops of named.0, early, seed_fits plugs of at seed parts kept.handed, some, subst (λ (n : ℕ). n ≤ most_parts) same few)
fits_at shape plugs script place (TilePack arrays) there few kept =
    let named = both_true true (list_all (is_array shape.arrays) arrays) kept.named in
    arrays_alike shape arrays named.1 kept.even

-- each step of a script that breaks no rule, with no more parts than there may be
pub steps_fit : (shape : Shape) (plugs : ℕ) (script : List TextStep) → IsWellFormed shape plugs script → parts_in script ≤ most_parts
    → All (λ (step : TextStep). IsStepFor shape plugs (resolved shape step)) script
steps_fit shape plugs script well few = λ place other within.
    let there = slice_get-get_or script place other within in
    fits_at shape plugs script place (get_or script place other) there few (keeps shape plugs script place (get_or script place other) there (well place))

tiling_is_tile : (shape : Shape) (step : TextStep) → is_tiling (resolved shape step) ≡ is_tile step
tiling_is_tile shape (Cpack arrays by) = refl
tiling_is_tile shape (LexGroup of by) = refl
tiling_is_tile shape (LexSort of by) = refl
tiling_is_tile shape (Bucket of by size) = refl
tiling_is_tile shape (Tile of at seed parts) = refl
tiling_is_tile shape (TilePack arrays) = refl

tilepack_is_no_tile : (step : TextStep) → (not (is_tilepack step) && true) ≡ false → is_tile step ≡ false
tilepack_is_no_tile (Tile of at seed parts) e = cc
tilepack_is_no_tile (Cpack arrays by) e = refl
tilepack_is_no_tile (LexGroup of by) e = refl
tilepack_is_no_tile (LexSort of by) e = refl
tilepack_is_no_tile (Bucket of by size) e = refl
tilepack_is_no_tile (TilePack arrays) e = refl

-- by rule 7 no tiling stands behind another one
pub tiles_once : (shape : Shape) (plugs : ℕ) (script : List TextStep) → IsWellFormed shape plugs script → TilesOnce (map (resolved shape) script)
tiles_once shape plugs script well i j d lt within tiling =
    let inside : j < length script = rw length-map at within in
    let first = get_or script i (TilePack []) in
    let second = get_or script j (TilePack []) in
    let one : is_tile first ≡ true = sym (ap is_tiling (get_or-map (resolved shape) script i (TilePack []) d (omega (arith, lt, inside))) ∙ tiling_is_tile shape first) ∙ tiling in
    let any : list_any is_tile (take j script) ≡ true =
    list_any_at is_tile (take j script) i (TilePack []) (omega (arith, lt, inside, length-take j script)) (ap is_tile (get_or-take j script i (TilePack []) lt) ∙ one) in
    let kept = (keeps shape plugs script j second (slice_get-get_or script j (TilePack []) inside) (well j)).first in
    ap is_tiling (get_or-map (resolved shape) script j (TilePack []) d inside) ∙ (tiling_is_tile shape second ∙ tilepack_is_no_tile second (rw any at kept))
