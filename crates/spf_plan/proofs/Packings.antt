-- Arrays of a plan are packed anew.
use Rattle.std.proofs.Common.{◌≡◌, ℕ, ◌+◌, ◌<◌, Bool, true, List, [], ◌∷◌, ◌++◌, length, get_or, slice_index_or, slice_set, All, inl, inr, refl, sym, ap, ◌∙◌, subst, eqb, arith, length-set}
use Rattle.std.proofs.lemmas.Bool.{cases_Bool, cases_eq, eqb-true}
use Rattle.std.proofs.lemmas.List.{ext_get_or, get_or_append_left, get_or_push}
use Rattle.std.proofs.lemmas.List.Elements.{All-cons, All-contains}
use Rattle.std.proofs.lemmas.Map.Views.{Contains-from_any}
use Rattle.std.proofs.lemmas.Option.{slice_get_within}
use Rattle.spf_perm.specs.Perm.{IsPerm}
use Rattle.spf_touch.specs.declared.touch.Touch.{Touch}
use Rattle.spf_space.specs.Layout.{iterations}
use Rattle.spf_space.specs.Places.{ArePlacesOf}
use Rattle.spf_space.specs.declared.places.Places.{Places}
use Rattle.spf_space.specs.declared.shape.Shape.{Shape}
use Rattle.spf_script.specs.Resolved.{AreAlike}
use Rattle.spf_pack.specs.Packs.{CanPack, IsArrayOf}
use Rattle.spf_plan.specs.Packed.{AreNextPackings, CanPackBy, IsOrderFor, IsPacked, is_listed, marked, repacked}
use Rattle.spf_plan.specs.Planned.{ArePacksOf, IsPlanOf, Planned}
use Rattle.spf_plan.specs.declared.packing.TouchOrder.{TouchOrder}
use Rattle.spf_plan.proofs.InPlace.{packed_in_place}
use Rattle.spf_plan.specs.declared.packing.TouchOrder.TheVariants.{Loop, Tiles}

-- a listed array and all listed ones are as long as its packing
module _ (touches : List (List Touch)) (shape : Shape) (arrays : List ℕ) (packs : List (List ℕ)) (lists : length touches ≡ iterations shape.loops) (are : ArePacksOf shape.arrays packs) (alike : AreAlike shape arrays)
    (n : ℕ) (listed : is_listed arrays n ≡ true) where
  can : CanPack touches shape (n ∷ arrays) packs
  can =
      let here = All-contains (IsArrayOf shape.arrays alike.count) arrays n alike.each (Contains-from_any {eq = λ (x y : ℕ). eqb y x} (λ x y same. sym (eqb-true y x same)) n arrays listed) in
      let long : length (slice_index_or packs n []) ≡ alike.count = are.lengths n here.0 here.1 ∙ here.2 in
      let inside : n < length packs = omega (arith, are.each_array, slice_get_within shape.arrays n here.0 here.1) in
      record {
        touch_lists = lists;
        some = omega arith;
        packed = inside;
        alike = subst (λ count. All (IsArrayOf shape.arrays count) (n ∷ arrays)) (sym long) (All-cons (IsArrayOf shape.arrays alike.count) n arrays here alike.each);
      }

  pub can_pack : (places : Places) (order : TouchOrder) → ArePlacesOf shape.steps shape.loops places.tiles places.orders → IsOrderFor shape order → CanPackBy touches shape places arrays packs order n
  can_pack places (Loop by) here there = record { arrays = can; loop_there = there; positions = here.extents by }
  can_pack places Tiles here there = record { arrays = can; placed = here }

-- the listed numbers are numbers of arrays
pub alike_within : (shape : Shape) (arrays : List ℕ) (count : ℕ) → AreAlike shape arrays → count ≡ length shape.arrays → All (λ array. array < count) arrays
alike_within shape arrays count alike same k d lt = let here = alike.each k d lt in omega (arith, same, slice_get_within shape.arrays (get_or arrays k d) here.0 here.1)

-- one array more
pub next_pushed : (P : ℕ → List ℕ → Type 0) (next : List (List ℕ)) (packing : List ℕ) (n : ℕ) → length next ≡ n → ((k : ℕ) → k < n → P k (get_or next k [])) → P n packing
    → (k : ℕ) → k < n + 1 → P k (get_or (next ++ packing ∷ []) k [])
next_pushed P next packing n long each new k lt = elim (cases_eq k n) [
  | inl same ↦ rw same (subst (P n) (sym (get_or_push next packing [] n long)) new)
  | inr other ↦ subst (P k) (sym (get_or_append_left next (packing ∷ []) [] k (omega arith))) (each k (omega arith))
]

pub length-marked : (arrays : List ℕ) (marks : List Bool) → length (marked arrays marks) ≡ length marks
length-marked [] marks = refl
length-marked (array ∷ arrays) marks = length-marked arrays (slice_set marks array true) ∙ length-set marks array true

module _ (arrays : List ℕ) (IsPacking : ℕ → List ℕ → Type 0) where
  packs_next : (shape : Shape) (packs next : List (List ℕ)) → ArePacksOf shape.arrays packs → AreNextPackings arrays IsPacking packs next → ArePacksOf shape.arrays next
  packs_next shape packs next are is = record {
    each_array = is.each_array ∙ are.each_array;
    lengths = λ n array there.
        (is.packings n (omega (arith, are.each_array, slice_get_within shape.arrays n array there))).long ∙ are.lengths n array there;
    perms = λ n lt. (is.packings n (omega (arith, is.each_array))).perm;
  }

  pub plan_packed : (touches : List (List Touch)) (shape : Shape) (plan : Planned) (next : List (List ℕ)) → IsPlanOf touches shape plan → AreNextPackings arrays IsPacking plan.packs next
      → IsPlanOf touches shape (repacked arrays next plan)
  plan_packed touches shape plan next is packings = record {
    places = is.places;
    legal = is.legal;
    below = is.below;
    some = is.some;
    few = is.few;
    packed = packs_next shape plan.packs next is.packed packings;
    each_loop = is.each_loop;
    each_array = length-marked arrays plan.moved_arrays ∙ is.each_array;
    loops_in_place = is.loops_in_place;
    arrays_in_place = packed_in_place arrays IsPacking plan.moved_arrays plan.packs next (is.each_array ∙ sym is.packed.each_array) packings is.arrays_in_place;
  }

  -- where there is one packing of an array there is one plan
  module _ (one : (n : ℕ) (a b : List ℕ) → IsPerm a → IsPacking n a → IsPacking n b → a ≡ b) where
    one_next : (packs a b : List (List ℕ)) → AreNextPackings arrays IsPacking packs a → AreNextPackings arrays IsPacking packs b → a ≡ b
    one_next packs a b is_a is_b = ext_get_or [] a b (is_a.each_array ∙ sym is_b.each_array) (λ n lt.
        let first = is_a.packings n (omega (arith, is_a.each_array)) in
        let second = is_b.packings n (omega (arith, is_a.each_array)) in
        elim (cases_Bool (is_listed arrays n)) [
          | inl listed ↦ one n (get_or a n []) (get_or b n []) first.perm (first.listed listed) (second.listed listed)
          | inr other ↦ first.other other ∙ sym (second.other other)
        ])

    pub one_packed : (plan a b : Planned) → IsPacked arrays IsPacking plan a → IsPacked arrays IsPacking plan b → a ≡ b
    one_packed plan a b is_a is_b =
        is_a.after_is ∙ (ap (λ (packs : List (List ℕ)). repacked arrays packs plan) (one_next plan.packs a.packs b.packs is_a.packings is_b.packings) ∙ sym is_b.after_is)
