-- What taking a step, and a list of steps, answers.
use Rattle.std.specs.Prelude.{ℕ, ◌≡◌, ◌+◌, ◌<◌, ◌⊎◌, ⊤, List, [], ◌∷◌, Option, None, Some, Result, Ok, Err, length, slice_get, slice_set}
use Rattle.spf_base.specs.declared.no_memory.NoMemory.{NoMemory}
use Rattle.spf_perm.specs.Perm.{IsPerm}
use Rattle.spf_touch.specs.Frame.{IsTouched}
use Rattle.spf_touch.specs.Repeated.{touches_at}
use Rattle.spf_touch.specs.declared.touch.Touch.{Touch}
use Rattle.spf_space.specs.Layout.{cells_in, iterations}
use Rattle.spf_space.specs.Places.{order_of, place_of}
use Rattle.spf_space.specs.Units.{units_of}
use Rattle.spf_space.specs.declared.shape.Shape.{Shape}
use Rattle.spf_space.specs.declared.unit.Unit.{Unit}
use Rattle.spf_script.specs.declared.resolved.Seed.{Seed}
use Rattle.spf_script.specs.declared.resolved.Step.{Step}
use Rattle.spf_script.specs.declared.resolved.Step.TheVariants.{Cpack, LexGroup, LexSort, Bucket, Tile, TilePack}
use Rattle.spf_layers.specs.Fits.{Fits}
use Rattle.spf_layers.specs.Groups.{Group}
use Rattle.spf_layers.specs.Legality.{IsFirstPair, IsReversed}
use Rattle.spf_group.specs.Keys.{bucket_key, group_key, places_at, sort_key}
use Rattle.spf_group.specs.Ordered.{IsOrderedBy}
use Rattle.spf_pack.specs.Packs.{IsCpacking, IsTilepacking}
use Rattle.spf_grow.specs.Growth.{Falls, IsGrown, first_unit}
use Rattle.spf_space.specs.InOrder.{units_in}
use Rattle.spf_plan.specs.Planned.{AreLegal, Planned, by_iteration, pack_of, reordered, source_plan, tiled}
use Rattle.spf_plan.specs.Packed.{IsPacked, places_of}
use Rattle.spf_plan.specs.Seeded.{IsSeedOf}
use Rattle.spf_plan.specs.declared.plan_fault.PlanFault.{PlanFault}
use Rattle.spf_plan.specs.declared.plan_fault.PlanFault.TheVariants.{Illegal, Memory}

-- the layers are those of the touches, and the touches those of the shape
pub record BelongTogether (layers : List (List Group)) (touches : List (List Touch)) (shape : Shape) : Type 0 where
  pub lists : length touches ≡ iterations shape.loops
  pub inside : (u e : ℕ) → IsTouched (touches_at touches u) e → e < cells_in shape.arrays
  pub elements : length layers ≡ cells_in shape.arrays
  pub fits : Fits (touches_at touches) (units_in shape) layers

-- the units of the first pair of ordinals in a relation
pub record AreFirst (R : ℕ → ℕ → Type 0) (shape : Shape) (p q : Unit) : Type 0 where
  pub earlier : ℕ
  pub later : ℕ
  pub first : IsFirstPair R earlier later
  pub earlier_is : slice_get (units_of shape.steps shape.loops) earlier ≡ Some p
  pub later_is : slice_get (units_of shape.steps shape.loops) later ≡ Some q

module _ (touches : List (List Touch)) (shape : Shape) where
  -- of the conflicting units that these tiles and orders reverse, the first two
  abbrev pub AreFirstReversed : List ℕ → List (List ℕ) → Unit → Unit → Type 0
  AreFirstReversed tiles orders = AreFirst (IsReversed (touches_at touches) (place_of shape.steps shape.loops tiles orders) (units_in shape)) shape

  -- a loop is given another order where that is legal, and the orders are else as before
  abbrev pub TriesOrder : List ℕ → List (List ℕ) → ℕ → List ℕ → Result (Option (Unit × Unit)) NoMemory → List (List ℕ) → Type 0
  TriesOrder tiles orders of order (Ok None) after = (after ≡ slice_set orders of order) × AreLegal touches shape tiles after
  TriesOrder tiles orders of order (Ok (Some (p, q))) after = (after ≡ orders) × AreFirstReversed tiles (slice_set orders of order) p q
  TriesOrder tiles orders of order (Err fault) after = after ≡ orders

module _ (touches : List (List Touch)) (shape : Shape) (number : ℕ) where
  -- the plan with another order of a loop where that is legal, and else the plan as before
  abbrev pub Reorders : ℕ → List ℕ → Planned → Result ⊤ PlanFault → Planned → Type 0
  Reorders of order plan (Ok done) after = (after ≡ reordered of order plan) × AreLegal touches shape after.tiles after.orders
  Reorders of order plan (Err (Illegal step p q)) after = (after ≡ plan) × (step ≡ number) × AreFirstReversed touches shape plan.tiles (slice_set plan.orders of order) p q
  Reorders of order plan (Err Memory) after = after ≡ plan

-- the loop, the step, the seed and the number of parts of a tiling, and the order of the loop
module _ (touches : List (List Touch)) (shape : Shape) (of step : ℕ) (seed : Seed) (parts : ℕ) (order : List ℕ) where
  -- the tiles grow from the seed
  pub record AreGrown (tiles : List ℕ) : Type 0 where
    pub list : List ℕ
    pub seeded : IsSeedOf touches shape of order seed parts list
    pub grown : IsGrown (touches_at touches) (units_in shape) (first_unit shape.loops step of) (by_iteration order list) parts tiles

  -- of the conflicting units of the loop at the step along which the seed falls, the first two
  pub record AreFirstFallen (p q : Unit) : Type 0 where
    pub list : List ℕ
    pub seeded : IsSeedOf touches shape of order seed parts list
    pub first : AreFirst (Falls (touches_at touches) (first_unit shape.loops step of) (by_iteration order list)) shape p q

  -- why the step with this number gives no tiles; out of memory is free
  abbrev pub IsTileFault : ℕ → PlanFault → Type 0
  IsTileFault number (Illegal n p q) = (n ≡ number) × AreFirstFallen p q
  IsTileFault number Memory = ⊤

module _ (touches : List (List Touch)) (shape : Shape) (number : ℕ) where
  -- the plan with the tiles that grow from the seed, and where it falls the plan as before
  abbrev pub TakesTile : ℕ → ℕ → Seed → ℕ → Planned → Result ⊤ PlanFault → Planned → Type 0
  TakesTile of step seed parts plan (Ok done) after = AreGrown touches shape of step seed parts (order_of plan.orders of) after.tiles × (after ≡ tiled after.tiles parts plan)
  TakesTile of step seed parts plan (Err fault) after = IsTileFault touches shape of step seed parts (order_of plan.orders of) number fault × (after ≡ plan)

-- the plan with the listed arrays packed anew, and for want of memory the plan as before
abbrev pub TakesPacks : List ℕ → (ℕ → List ℕ → Type 0) → Planned → Result ⊤ PlanFault → Planned → Type 0
TakesPacks arrays IsPacking plan (Ok done) after = IsPacked arrays IsPacking plan after
TakesPacks arrays IsPacking plan (Err (Illegal step p q)) after = ⊥
TakesPacks arrays IsPacking plan (Err Memory) after = after ≡ plan

-- the list is the stable order by these keys on an old order
pub record IsNewOrder (key : ℕ → List ℕ) (old new : List ℕ) : Type 0 where
  pub perm : IsPerm new
  pub ordered : IsOrderedBy key old new

-- the current packed places of array `by` that the iteration at a position of loop `of` touches
abbrev pub packed_places : List (List Touch) → Shape → Planned → ℕ → ℕ → ℕ → List ℕ
packed_places touches shape plan of by = places_at touches shape of by (pack_of plan by)

module _ (touches : List (List Touch)) (shape : Shape) (number : ℕ) (plan : Planned) (result : Result ⊤ PlanFault) (after : Planned) where
  -- the loop gets the stable order by these keys; for want of memory the plan is as before
  abbrev pub TakesOrder : ℕ → (ℕ → List ℕ) → Type 0
  TakesOrder of key =
      ((result ≡ Err Memory) × (after ≡ plan))
      ⊎ ((order : List ℕ) × IsNewOrder key (order_of plan.orders of) order × Reorders touches shape number of order plan result after)

  -- what the step with this number answers, and the plan after it
  abbrev pub Takes : Step → Type 0
  Takes (Cpack arrays by) = TakesPacks arrays (λ array. IsCpacking touches shape by (order_of plan.orders by) (array ∷ arrays) plan.packs) plan result after
  Takes (LexGroup of by) = TakesOrder of (λ position. group_key (packed_places touches shape plan of by position))
  Takes (LexSort of by) = TakesOrder of (λ position. sort_key (packed_places touches shape plan of by position))
  Takes (Bucket of by size) = TakesOrder of (λ position. bucket_key size (packed_places touches shape plan of by position))
  Takes (Tile of step seed parts) = TakesTile touches shape number of step seed parts plan result after
  Takes (TilePack arrays) = TakesPacks arrays (λ array. IsTilepacking touches shape (places_of plan) (array ∷ arrays) plan.packs) plan result after

module _ (touches : List (List Touch)) (shape : Shape) where
  -- the steps from this number on are taken one after another; the first refusal is the answer
  abbrev pub TakesAll : ℕ → List Step → Planned → Result Planned PlanFault → Type 0
  TakesAll number [] plan result = result ≡ Ok plan
  TakesAll number (step ∷ steps) plan result =
      ((next : Planned) × Takes touches shape number plan (Ok tt) next step × TakesAll (number + 1) steps next result)
      ⊎ ((fault : PlanFault) × Takes touches shape number plan (Err fault) plan step × (result ≡ Err fault))

  -- what `plan` answers: what the steps make of the source plan, or the first refusal; out of memory is free
  abbrev pub IsPlanAnswer : List Step → Result Planned PlanFault → Type 0
  IsPlanAnswer steps result = (result ≡ Err Memory) ⊎ TakesAll 1 steps (source_plan shape) result
