-- Steps have one answer.
use Rattle.std.proofs.Common.{◌≡◌, ◌⊎◌, ℕ, ◌+◌, inl, inr, List, [], ◌∷◌, Result, Ok, Err, sym, ap, ◌∙◌, subst}
use Rattle.std.specs.Prelude.{⊤}
use Rattle.spf_touch.specs.declared.touch.Touch.{Touch}
use Rattle.spf_space.specs.Places.{order_of}
use Rattle.spf_space.specs.declared.shape.Shape.{Shape}
use Rattle.spf_script.specs.declared.resolved.Step.{Step}
use Rattle.spf_script.specs.declared.resolved.Step.TheVariants.{Cpack, LexGroup, LexSort, Bucket, Tile, TilePack}
use Rattle.spf_group.specs.Keys.{bucket_key, group_key, sort_key}
use Rattle.spf_pack.specs.Packs.{IsCpacking, IsTilepacking}
use Rattle.spf_plan.specs.Packed.{places_of}
use Rattle.spf_plan.specs.Planned.{Planned, source_plan}
use Rattle.spf_plan.specs.Taken.{IsPlanAnswer, Reorders, Takes, TakesAll, TakesOrder, packed_places}
use Rattle.spf_plan.specs.declared.plan_fault.PlanFault.{PlanFault}
use Rattle.spf_plan.specs.declared.plan_fault.PlanFault.TheVariants.{Memory}
use Rattle.spf_plan.proofs.OneStep.{Agree, OneCpacking, OneGrowth, OneOrder, OneSpread, OneTilepacking, one_pack, one_reorder, one_tile}

module _ (touches : List (List Touch)) (shape : Shape) where
  module _ (one : OneOrder) (spread : OneSpread) (growth : OneGrowth) (by_loop : OneCpacking) (by_tiles : OneTilepacking) where
    one_order_taken : (number : ℕ) (plan : Planned) (of : ℕ) (key : ℕ → List ℕ) (r s : Result ⊤ PlanFault) (a b : Planned)
        → TakesOrder touches shape number plan r a of key → TakesOrder touches shape number plan s b of key → Agree r s ((r ≡ s) × (a ≡ b))
    one_order_taken number plan of key r s a b (inl x) y = inl x.0
    one_order_taken number plan of key r s a b (inr x) (inl y) = inr (inl y.0)
    one_order_taken number plan of key r s a b (inr (o, new, x)) (inr (o', new', y)) =
        let same = one key (order_of plan.orders of) o o' new.perm new'.perm new.ordered new'.ordered in
        one_reorder touches shape number of o' plan r s a b (subst (λ (order : List ℕ). Reorders touches shape number of order plan r a) same x) y

    one_taken : (number : ℕ) (plan : Planned) (step : Step) (r s : Result ⊤ PlanFault) (a b : Planned)
        → Takes touches shape number plan r a step → Takes touches shape number plan s b step → Agree r s ((r ≡ s) × (a ≡ b))
    one_taken number plan (Cpack arrays by) =
        one_pack touches shape arrays (λ array. IsCpacking touches shape by (order_of plan.orders by) (array ∷ arrays) plan.packs) (λ n a b. by_loop touches shape by (order_of plan.orders by) (n ∷ arrays) plan.packs a b) plan
    one_taken number plan (LexGroup of by) = one_order_taken number plan of (λ position. group_key (packed_places touches shape plan of by position))
    one_taken number plan (LexSort of by) = one_order_taken number plan of (λ position. sort_key (packed_places touches shape plan of by position))
    one_taken number plan (Bucket of by size) = one_order_taken number plan of (λ position. bucket_key size (packed_places touches shape plan of by position))
    one_taken number plan (Tile of at seed parts) = one_tile touches shape spread growth number of at seed parts plan
    one_taken number plan (TilePack arrays) =
        one_pack touches shape arrays (λ array. IsTilepacking touches shape (places_of plan) (array ∷ arrays) plan.packs) (λ n a b. by_tiles touches shape (places_of plan) (n ∷ arrays) plan.packs a b) plan

    one_all : (steps : List Step) (number : ℕ) (plan : Planned) (a b : Result Planned PlanFault) → TakesAll touches shape number steps plan a → TakesAll touches shape number steps plan b
        → Agree a b (a ≡ b)
    one_all [] number plan a b x y = inr (inr (x ∙ sym y))
    one_all (step ∷ steps) number plan a b (inl (n, x, rest)) (inl (m, y, others)) = elim (one_taken number plan step (Ok tt) (Ok tt) n m x y) [
      | inl e ↦ cc
      | inr (inl e) ↦ cc
      | inr (inr e) ↦ one_all steps (number + 1) m a b (subst (λ (p : Planned). TakesAll touches shape (number + 1) steps p a) e.1 rest) others
    ]
    one_all (step ∷ steps) number plan a b (inl (n, x, rest)) (inr (g, y, is)) = elim (one_taken number plan step (Ok tt) (Err g) n plan x y) [
      | inl e ↦ cc
      | inr (inl e) ↦ inr (inl (is ∙ (let f : g ≡ Memory = cc in ap Err f)))
      | inr (inr e) ↦ let f = e.0 in cc
    ]
    one_all (step ∷ steps) number plan a b (inr (f, x, is)) (inl (m, y, others)) = elim (one_taken number plan step (Err f) (Ok tt) plan m x y) [
      | inl e ↦ inl (is ∙ (let h : f ≡ Memory = cc in ap Err h))
      | inr (inl e) ↦ cc
      | inr (inr e) ↦ let h = e.0 in cc
    ]
    one_all (step ∷ steps) number plan a b (inr (f, x, is)) (inr (g, y, here)) = elim (one_taken number plan step (Err f) (Err g) plan plan x y) [
      | inl e ↦ inl (is ∙ (let h : f ≡ Memory = cc in ap Err h))
      | inr (inl e) ↦ inr (inl (here ∙ (let h : g ≡ Memory = cc in ap Err h)))
      | inr (inr e) ↦ let same = e.0 in let h : f ≡ g = cc in inr (inr (is ∙ (ap Err h ∙ sym here)))
    ]

    pub one_plan : (steps : List Step) (a b : Result Planned PlanFault) → IsPlanAnswer touches shape steps a → IsPlanAnswer touches shape steps b
        → (a ≡ b) ⊎ ((a ≡ Err Memory) ⊎ (b ≡ Err Memory))
    one_plan steps a b (inl e) y = inr (inl e)
    one_plan steps a b (inr x) (inl e) = inr (inr e)
    one_plan steps a b (inr x) (inr y) = elim (one_all steps 1 (source_plan shape) a b x y) [ inl e ↦ inr (inl e) | inr (inl e) ↦ inr (inr e) | inr (inr e) ↦ inl e ]
