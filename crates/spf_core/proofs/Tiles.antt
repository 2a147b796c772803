-- What a sound job says of a tile whose vectors were read.
use Rattle.std.proofs.Common.{◌≡◌, ℕ, ◌<◌, ℤ, true, Global, Vec, Option, Some, None, List, [], length, get_or, map, vec_items, refl, sym, ap, ◌∙◌, subst}
use Rattle.std.proofs.lemmas.List.{get_or-map}
use Rattle.std.specs.List.{All}
use Rattle.std.specs.Prelude.{IsSome, is_some, option_map}
use Rattle.spf_touch.specs.Copy.{value_or_0}
use Rattle.spf_touch.specs.Frame.{Behavior, IsTouched, after_units, class_at}
use Rattle.spf_touch.specs.Ordered.{is_in}
use Rattle.spf_touch.proofs.Classes.{class_of_covers, covered_touched}
use Rattle.spf_core.specs.Copies.{value_in}
use Rattle.spf_core.specs.Replay.{worked}
use Rattle.spf_core.specs.SoundJob.{IsFoot, IsSound}
use Rattle.spf_core.specs.Tiling.{Tiling, foot_of, list_of, tile_class}
use Rattle.spf_core.proofs.Feet.{class_read}
use Rattle.spf_core.proofs.Induction.{legal_below}

-- the row of a vector that was read
pub row_read : {X : Type 0} (vs : List (Vec X Global)) (i : ℕ) (v : Vec X Global) → i < length vs → v ≡ get_or vs i v → get_or (map vec_items vs) i [] ≡ v.items
row_read vs i v inside e = get_or-map vec_items vs i v [] inside ∙ ap vec_items (sym e)

module _ (units : Behavior) (job : Tiling) (t : ℕ) (foot : IsFoot units job t) where
  pub foot_places : All (λ touch. touch.element < length job.cells) (foot_of job t)
  foot_places k d h = foot.places _ (class_read (foot_of job t) k d h)

  pub class_touched : (e : ℕ) → IsSome (tile_class units job t e) → IsTouched (foot_of job t) e
  class_touched e h = ap is_some (foot.classes e) ∙ h

  pub foot_class : (e : ℕ) → IsTouched (foot_of job t) e → IsSome (tile_class units job t e)
  foot_class e h = ap is_some (sym (foot.classes e)) ∙ h

module _ (units : Behavior) (job : Tiling) (sound : IsSound units job) (t : ℕ) (inside : t < length job.lists) where
  pub units_below : (u : ℕ) → is_in (list_of job t) u ≡ true → u < units.count
  units_below = legal_below units (list_of job t) (sound.legal t inside)

  -- what a unit of the tile touches is an element of the tile
  pub unit_in_tile : (u e : ℕ) → is_in (list_of job t) u ≡ true → IsTouched (units.touches u) e → IsSome (tile_class units job t e)
  unit_in_tile u e h k = covered_touched (tile_class units job t e) (class_at (units.touches u) e) (class_of_covers units.touches (list_of job t) e u h) k

  pub unit_place : (u e : ℕ) → is_in (list_of job t) u ≡ true → IsTouched (units.touches u) e → e < length job.cells
  unit_place u e h k = (sound.feet t inside).places e (class_touched units job t (sound.feet t inside) e (unit_in_tile u e h k))

-- the same of a list and units that were read
module _ (units mine : Behavior) (job : Tiling) (sound : IsSound units job) (t : ℕ) (inside : t < length job.lists) (list : List ℕ) (same : list ≡ list_of job t) (one : mine ≡ units) where
  pub read_below : (u : ℕ) → is_in list u ≡ true → u < mine.count
  read_below u h = rw one (units_below units job sound t inside u (rw same at h))

  pub read_in_tile : (u e : ℕ) → is_in list u ≡ true → IsTouched (mine.touches u) e → IsSome (tile_class units job t e)
  read_in_tile u e h k = unit_in_tile units job sound t inside u e (rw same at h) (subst (λ m. IsTouched (m.touches u) e) one k)

  pub read_place : (u e : ℕ) → is_in list u ≡ true → IsTouched (mine.touches u) e → e < length job.cells
  read_place u e h k = unit_place units job sound t inside u e (rw same at h) (subst (λ m. IsTouched (m.touches u) e) one k)

  pub read_after : (values : ℕ → ℤ) → after_units mine list values ≡ after_units units (list_of job t) values
  read_after values = rw (one, same) refl

go : (new old : Option ℤ) (after : ℤ) → is_some new ≡ is_some old → value_or_0 new ≡ after → new ≡ option_map (λ _. after) old
go None None after h k = refl
go None (Some y) after h k = cc
go (Some x) None after h k = cc
go (Some x) (Some y) after h k = ap Some k

-- a copy after a run that kept its elements
pub worked_copy : (units : Behavior) (job : Tiling) (t : ℕ) (old new : List (Option ℤ)) →
    ((e : ℕ) → is_some (value_in new e) ≡ is_some (value_in old e)) →
    ((e : ℕ) → value_or_0 (value_in new e) ≡ after_units units (list_of job t) (λ x. value_or_0 (value_in old x)) e) →
    (e : ℕ) → value_in new e ≡ worked units job t (value_in old) e
worked_copy units job t old new own value e = go (value_in new e) (value_in old e) _ (own e) (value e)
