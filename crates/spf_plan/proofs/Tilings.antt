-- A plan of one tile gets the tiles that grow from a seed.
use Rattle.std.proofs.Common.{◌≡◌, ℕ, ◌+◌, ◌-◌, ◌<◌, ◌≤◌, inl, inr, List, length, get_or, arith, ap, ◌∙◌}
use Rattle.std.proofs.lemmas.Bool.{cases_lt}
use Rattle.std.proofs.lemmas.List.{get_or_default, get_or-map, length-map}
use Rattle.std.proofs.lemmas.List.FromFn.{length-map-range_with_len}
use Rattle.std.specs.List.{All}
use Rattle.spf_perm.specs.Perm.{at, IsPerm}
use Rattle.spf_touch.specs.Repeated.{touches_at}
use Rattle.spf_touch.specs.declared.touch.Touch.{Touch}
use Rattle.spf_space.specs.Places.{place_of}
use Rattle.spf_space.specs.declared.shape.Shape.{Shape}
use Rattle.spf_script.specs.declared.resolved.Seed.{Seed}
use Rattle.spf_script.specs.declared.resolved.Seed.TheVariants.{Block, Spread, Plug}
use Rattle.spf_grow.specs.Growth.{IsGrown}
use Rattle.spf_space.specs.InOrder.{units_in}
use Rattle.spf_plan.specs.Planned.{AreLegal, IsPlanOf, Planned, by_iteration, tiled}
use Rattle.spf_plan.specs.Seeded.{IsSeedOf, starts_before}

module _ (touches : List (List Touch)) (shape : Shape) where
  -- each position has a part
  pub seed_long : (of : ℕ) (order : List ℕ) (seed : Seed) (parts : ℕ) (list : List ℕ) → IsSeedOf touches shape of order seed parts list → length list ≡ length order
  seed_long of order Block parts list is = ap length is ∙ length-map-range_with_len _ 0 (length order)
  seed_long of order Spread parts list is =
      let starts = starts_before touches shape of order (length order + 1) in
      let ends : length starts ≡ length order + 1 = length-map-range_with_len _ 0 (length order + 1) in
      let last : length starts - 1 ≡ length order = omega arith in
      is.long ∙ last
  seed_long of order (Plug number) parts list is = absurd is

  module _ (plan : Planned) (is : IsPlanOf touches shape plan) (once : plan.count ≡ 1) (first : ℕ) (seed : List ℕ) (parts : ℕ) (tiles : List ℕ)
      (grown : IsGrown (touches_at touches) (units_in shape) first seed parts tiles) where
    old_tile : (u : ℕ) → u < units_in shape → get_or plan.tiles u 0 ≡ 0
    old_tile u lt = omega (arith, is.below u 0 (omega (arith, is.places.each_unit)))

    -- the new numbers don't fall, and within a tile units are run as before
    legal_tiled : AreLegal touches shape tiles plan.orders
    unfolding place_of
    legal_tiled p q lt within conflict = elim (is.legal p q lt within conflict) [
      | inl below ↦ absurd (omega (arith, old_tile q within))
      | inr (same, earlier) ↦ elim (cases_lt (get_or tiles p 0) (get_or tiles q 0)) [
        | inl below ↦ inl below
        | inr above ↦ inr (omega (arith, grown.growth.rises p q (omega arith) lt within conflict), earlier)
      ]
    ]

    pub plan_tiled : 1 ≤ parts → parts ≤ 1024 → IsPlanOf touches shape (tiled tiles parts plan)
    plan_tiled some few = record {
      places = record { each_unit = grown.each; each_loop = is.places.each_loop; extents = is.places.extents; perms = is.places.perms };
      legal = legal_tiled;
      below = λ n other lt. rw (get_or_default tiles n other 0 lt) (grown.growth.below n (omega (arith, grown.each)));
      some = some;
      few = few;
      packed = is.packed;
      each_loop = is.each_loop;
      each_array = is.each_array;
      loops_in_place = is.loops_in_place;
      arrays_in_place = is.arrays_in_place;
    }

-- the iterations have parts where the positions have
pub parts_below : (order list : List ℕ) (parts : ℕ) → IsPerm order → length list ≡ length order → All (λ part. part < parts) list → All (λ part. part < parts) (by_iteration order list)
parts_below order list parts perm long below k d lt =
    let inside : k < length order = rw length-map at lt in
    rw (get_or-map (at list) order k 0 d inside) (below (at order k) 0 (omega (arith, perm.below k inside)))
