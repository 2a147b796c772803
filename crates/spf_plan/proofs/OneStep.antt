-- A step that gives a loop an order, units their tiles or arrays their packings has one answer.
use Rattle.std.proofs.Common.{◌≡◌, ◌⊎◌, ℕ, ◌+◌, ◌-◌, ◌<◌, get_or, inl, inr, List, Result, Ok, Err, Some, slice_set, slice_get, arith, refl, sym, ap, ◌∙◌, subst}
use Rattle.std.specs.Prelude.{⊤}
use Rattle.std.proofs.lemmas.Option.{slice_get_within}
use Rattle.spf_perm.specs.Perm.{IsPerm}
use Rattle.spf_touch.specs.Repeated.{touches_at}
use Rattle.spf_touch.specs.declared.touch.Touch.{Touch}
use Rattle.spf_space.specs.Places.{order_of}
use Rattle.spf_space.specs.Units.{units_of}
use Rattle.spf_space.specs.declared.places.Places.{Places}
use Rattle.spf_space.specs.declared.shape.Shape.{Shape}
use Rattle.spf_space.specs.declared.unit.Unit.{Unit}
use Rattle.spf_script.specs.declared.resolved.Seed.{Seed}
use Rattle.spf_script.specs.declared.resolved.Seed.TheVariants.{Block, Spread, Plug}
use Rattle.spf_layers.specs.Legality.{IsFirstPair}
use Rattle.spf_group.specs.Ordered.{IsOrderedBy}
use Rattle.spf_seed.specs.Spread.{IsSpread}
use Rattle.spf_seed.specs.declared.view.SeedView.{SeedView}
use Rattle.spf_grow.specs.Growth.{Falls, IsGrown, first_unit, seed_number}
use Rattle.spf_pack.specs.Packs.{IsCpacking, IsTilepacking}
use Rattle.spf_space.specs.InOrder.{units_in}
use Rattle.spf_plan.specs.Planned.{AreLegal, Planned, by_iteration, reordered, tiled}
use Rattle.spf_plan.specs.Seeded.{IsSeedOf, view_of}
use Rattle.spf_plan.specs.Taken.{AreFirst, AreFirstFallen, AreFirstReversed, AreGrown, Reorders, TakesPacks, TakesTile}
use Rattle.spf_plan.specs.declared.plan_fault.PlanFault.{PlanFault}
use Rattle.spf_plan.specs.declared.plan_fault.PlanFault.TheVariants.{Illegal, Memory}
use Rattle.spf_plan.proofs.Packings.{one_packed}

-- that there is one stable order by keys
abbrev pub OneOrder : Type 0
OneOrder = (key : ℕ → List ℕ) (old a b : List ℕ) → IsPerm a → IsPerm b → IsOrderedBy key old a → IsOrderedBy key old b → a ≡ b

-- that there is one list of parts along a breadth-first order
abbrev pub OneSpread : Type 0
OneSpread = (view : SeedView) (a b : List ℕ) → IsSpread view a → IsSpread view b → a ≡ b

-- that there is one list of numbers that grow from a seed
abbrev pub OneGrowth : Type 0
OneGrowth = (touches : ℕ → List Touch) (count first : ℕ) (seed : List ℕ) (parts : ℕ) (numbers others : List ℕ) →
    IsGrown touches count first seed parts numbers → IsGrown touches count first seed parts others → numbers ≡ others

-- that one permutation packs an array by the touches of a loop
abbrev pub OneCpacking : Type 0
OneCpacking = (touches : List (List Touch)) (shape : Shape) (by : ℕ) (order members : List ℕ) (now : List (List ℕ)) (a b : List ℕ) →
    IsPerm a → IsCpacking touches shape by order members now a → IsCpacking touches shape by order members now b → a ≡ b

-- that one permutation packs an array by the touches of all units
abbrev pub OneTilepacking : Type 0
OneTilepacking = (touches : List (List Touch)) (shape : Shape) (places : Places) (members : List ℕ) (now : List (List ℕ)) (a b : List ℕ) →
    IsPerm a → IsTilepacking touches shape places members now a → IsTilepacking touches shape places members now b → a ≡ b

-- two answers are one, but for out of memory
abbrev pub Agree : {A : Type 0} → Result A PlanFault → Result A PlanFault → Type 0 → Type 0
Agree a b same = (a ≡ Err Memory) ⊎ ((b ≡ Err Memory) ⊎ same)

-- a relation has one first pair
pair_once : (R : ℕ → ℕ → Type 0) (p q a b : ℕ) → IsFirstPair R p q → IsFirstPair R a b → (p ≡ a) × (q ≡ b)
pair_once R p q a b x y =
    let later : q ≡ b = omega (arith, x.least a b y.there, y.least p q x.there) in
    let here : R a q = subst (R a) (sym later) y.there in
    let there : R p b = subst (R p) later x.there in
    (omega (arith, x.greatest a here, y.greatest p there), later)

value_once : {A : Type 0} (xs : List A) (m n : ℕ) (a b : A) → m ≡ n → slice_get xs m ≡ Some a → slice_get xs n ≡ Some b → a ≡ b
value_once xs m n a b same first second = let e : Some a ≡ Some b = sym first ∙ (ap (slice_get xs) same ∙ second) in cc

one_pair : (R : ℕ → ℕ → Type 0) (shape : Shape) (p q u v : Unit) → AreFirst R shape p q → AreFirst R shape u v → (p ≡ u) × (q ≡ v)
one_pair R shape p q u v a b =
    let same = pair_once R a.earlier a.later b.earlier b.later a.first b.first in
    let units = units_of shape.steps shape.loops in
    (value_once units a.earlier b.earlier p u same.0 a.earlier_is b.earlier_is, value_once units a.later b.later q v same.1 a.later_is b.later_is)

module _ (touches : List (List Touch)) (shape : Shape) where
  legal_or_not : (tiles : List ℕ) (orders : List (List ℕ)) (p q : Unit) → AreLegal touches shape tiles orders → AreFirstReversed touches shape tiles orders p q → ⊥
  legal_or_not tiles orders p q legal found =
      let pair = found.first.there in
      pair.reversed (legal found.earlier found.later pair.ascend pair.inside pair.conflict)

  moved_legal : (of : ℕ) (order : List ℕ) (plan a : Planned) (p q : Unit) → a ≡ reordered of order plan → AreLegal touches shape a.tiles a.orders
      → AreFirstReversed touches shape plan.tiles (slice_set plan.orders of order) p q → ⊥
  moved_legal of order plan a p q is legal found =
      legal_or_not plan.tiles (slice_set plan.orders of order) p q (subst (λ (b : Planned). AreLegal touches shape b.tiles b.orders) is legal) found

  pub one_reorder : (number of : ℕ) (order : List ℕ) (plan : Planned) (r s : Result ⊤ PlanFault) (a b : Planned)
      → Reorders touches shape number of order plan r a → Reorders touches shape number of order plan s b → Agree r s ((r ≡ s) × (a ≡ b))
  one_reorder number of order plan (Err Memory) s a b x y = inl refl
  one_reorder number of order plan (Ok tt') (Err Memory) a b x y = inr (inl refl)
  one_reorder number of order plan (Err (Illegal n p q)) (Err Memory) a b x y = inr (inl refl)
  one_reorder number of order plan (Ok d) (Ok e) a b x y = inr (inr (refl, x.0 ∙ sym y.0))
  one_reorder number of order plan (Ok d) (Err (Illegal n p q)) a b x y = absurd (moved_legal of order plan a p q x.0 x.1 y.2)
  one_reorder number of order plan (Err (Illegal n p q)) (Ok d) a b x y = absurd (moved_legal of order plan b p q y.0 y.1 x.2)
  one_reorder number of order plan (Err (Illegal m p q)) (Err (Illegal n u v)) a b x y =
      let units = one_pair _ shape p q u v x.2 y.2 in
      let first = units.0 in
      let second = units.1 in
      let step : m ≡ n = x.1 ∙ sym y.1 in
      inr (inr (cc, x.0 ∙ sym y.0))

  -- numbers that grow from a seed don't fall along two units
  grown_or_fallen : (count first : ℕ) (seed : List ℕ) (parts : ℕ) (tiles : List ℕ) (p q : ℕ) → IsGrown (touches_at touches) count first seed parts tiles → q < count
      → Falls (touches_at touches) first seed p q → ⊥
  grown_or_fallen count first seed parts tiles p q grown within pair =
      let behind = pair.behind in
      let ascend = pair.ascend in
      let inside = pair.inside in
      let falls = pair.falls in
      let earlier : first + (p - first) ≡ p = omega arith in
      let later : first + (q - first) ≡ q = omega arith in
      let of_earlier : get_or tiles p 0 ≡ seed_number first seed p = rw earlier at (grown.growth.seeded (p - first) (omega arith)) in
      let of_later : get_or tiles q 0 ≡ seed_number first seed q = rw later at (grown.growth.seeded (q - first) (omega arith)) in
      omega (arith, grown.growth.rises p q (omega arith) ascend within pair.conflict)

  module _ (spread : OneSpread) (growth : OneGrowth) (of step : ℕ) (seed : Seed) (parts : ℕ) (order : List ℕ) where
    one_seed : (kind : Seed) (a b : List ℕ) → IsSeedOf touches shape of order kind parts a → IsSeedOf touches shape of order kind parts b → a ≡ b
    one_seed Block a b x y = x ∙ sym y
    one_seed Spread a b x y = spread (view_of touches shape of order parts) a b x y
    one_seed (Plug number) a b x y = absurd x

    one_grown : (a b : List ℕ) → AreGrown touches shape of step seed parts order a → AreGrown touches shape of step seed parts order b → a ≡ b
    one_grown a b x y =
        let same = one_seed seed x.list y.list x.seeded y.seeded in
        growth _ _ _ _ _ a b (subst (λ (list : List ℕ). IsGrown (touches_at touches) (units_in shape) (first_unit shape.loops step of) (by_iteration order list) parts a) same x.grown) y.grown

    one_fall : (p q u v : Unit) → AreFirstFallen touches shape of step seed parts order p q → AreFirstFallen touches shape of step seed parts order u v → (p ≡ u) × (q ≡ v)
    one_fall p q u v x y =
        let same = one_seed seed x.list y.list x.seeded y.seeded in
        one_pair _ shape p q u v (subst (λ (list : List ℕ). AreFirst (Falls (touches_at touches) (first_unit shape.loops step of) (by_iteration order list)) shape p q) same x.first) y.first

    falls_or_grows : (tiles : List ℕ) (p q : Unit) → AreGrown touches shape of step seed parts order tiles → AreFirstFallen touches shape of step seed parts order p q → ⊥
    falls_or_grows tiles p q x y =
        let same = one_seed seed y.list x.list y.seeded x.seeded in
        let pair = subst (λ (list : List ℕ). Falls (touches_at touches) (first_unit shape.loops step of) (by_iteration order list) y.first.earlier y.first.later) same y.first.first.there in
        grown_or_fallen _ _ _ parts tiles y.first.earlier y.first.later x.grown (slice_get_within (units_of shape.steps shape.loops) y.first.later q y.first.later_is) pair

  pub one_tile : OneSpread → OneGrowth → (number of step : ℕ) (seed : Seed) (parts : ℕ) (plan : Planned) (r s : Result ⊤ PlanFault) (a b : Planned)
      → TakesTile touches shape number of step seed parts plan r a → TakesTile touches shape number of step seed parts plan s b → Agree r s ((r ≡ s) × (a ≡ b))
  one_tile spread growth number of step seed parts plan (Err Memory) s a b x y = inl refl
  one_tile spread growth number of step seed parts plan (Ok d) (Err Memory) a b x y = inr (inl refl)
  one_tile spread growth number of step seed parts plan (Err (Illegal n p q)) (Err Memory) a b x y = inr (inl refl)
  one_tile spread growth number of step seed parts plan (Ok d) (Ok e) a b x y =
      let tiles = one_grown spread growth of step seed parts (order_of plan.orders of) a.tiles b.tiles x.0 y.0 in
      inr (inr (refl, x.1 ∙ (ap (λ (list : List ℕ). tiled list parts plan) tiles ∙ sym y.1)))
  one_tile spread growth number of step seed parts plan (Ok d) (Err (Illegal n p q)) a b x y =
      absurd (falls_or_grows spread growth of step seed parts (order_of plan.orders of) a.tiles p q x.0 y.0.1)
  one_tile spread growth number of step seed parts plan (Err (Illegal n p q)) (Ok d) a b x y =
      absurd (falls_or_grows spread growth of step seed parts (order_of plan.orders of) b.tiles p q y.0 x.0.1)
  one_tile spread growth number of step seed parts plan (Err (Illegal m p q)) (Err (Illegal n u v)) a b x y =
      let units = one_fall spread growth of step seed parts (order_of plan.orders of) p q u v x.0.1 y.0.1 in
      let first = units.0 in
      let second = units.1 in
      let same : m ≡ n = x.0.0 ∙ sym y.0.0 in
      inr (inr (cc, x.1 ∙ sym y.1))

  pub one_pack : (arrays : List ℕ) (IsPacking : ℕ → List ℕ → Type 0) → ((n : ℕ) (a b : List ℕ) → IsPerm a → IsPacking n a → IsPacking n b → a ≡ b) → (plan : Planned) (r s : Result ⊤ PlanFault) (a b : Planned)
      → TakesPacks arrays IsPacking plan r a → TakesPacks arrays IsPacking plan s b → Agree r s ((r ≡ s) × (a ≡ b))
  one_pack arrays IsPacking one plan (Err Memory) s a b x y = inl refl
  one_pack arrays IsPacking one plan (Err (Illegal n p q)) s a b x y = absurd x
  one_pack arrays IsPacking one plan (Ok d) (Err Memory) a b x y = inr (inl refl)
  one_pack arrays IsPacking one plan (Ok d) (Err (Illegal n p q)) a b x y = absurd y
  one_pack arrays IsPacking one plan (Ok d) (Ok e) a b x y = inr (inr (refl, one_packed arrays IsPacking one plan a b x y))
