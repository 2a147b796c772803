-- What a plan has moved are moves of its loops and arrays, and the packings that they make are the plan's.
use Rattle.std.proofs.Common.{◌≡◌, ℕ, zero, suc, ◌+◌, ◌<◌, Bool, true, false, Option, None, Some, List, [], ◌∷◌, ◌++◌, length, map, slice_get, slice_index_or, refl, sym, ap, ◌∙◌, subst, arith}
use Rattle.std.specs.List.{range_with_len}
use Rattle.std.proofs.lemmas.List.{length-map}
use Rattle.std.proofs.lemmas.Option.{slice_get_within}
use Rattle.std.proofs.lemmas.List.FromFn.{get_or-map-range_with_len, length-map-range_with_len, map-range_with_len_more}
use Rattle.spf_perm.specs.Perm.{IsPerm}
use Rattle.spf_space.specs.declared.shape.ArrayShape.{ArrayShape}
use Rattle.spf_space.specs.declared.shape.LoopShape.{LoopShape}
use Rattle.spf_space.specs.declared.shape.Shape.{Shape}
use Rattle.spf_touch.specs.declared.touch.Touch.{Touch}
use Rattle.spf_pack.specs.Packing.{HavePackings}
use Rattle.spf_plan.specs.Planned.{ArePacksOf, IsInPlace, IsPlanOf, Planned}
use Rattle.spf_exec.specs.Moves.{AreMovesOf, IsMoveOf, extents, lengths, packing_by, packings_of}
use Rattle.spf_exec.proofs.Packings.{have_lengths, packings_are}
use Rattle.spf_job.specs.PlanMoves.{move_by, moves_of}

-- ---- one permutation

is_move_by : (mark : Bool) (perm : List ℕ) (count : ℕ) → length perm ≡ count → IsPerm perm → IsMoveOf count (move_by mark perm)
is_move_by true perm count long is = (long, is)
is_move_by false perm count long is = tt

packing_by_mark : (mark : Bool) (perm : List ℕ) (count : ℕ) → length perm ≡ count → (mark ≡ false → IsInPlace perm) → packing_by (move_by mark perm) count ≡ perm
packing_by_mark true perm count long stays = refl
packing_by_mark false perm count long stays = ap (range_with_len 0) (sym long) ∙ sym (stays refl)

-- ---- those of all marks

module _ (marks : List Bool) (perms : List (List ℕ)) where
  move_at : (n : ℕ) → n < length marks → slice_index_or (moves_of marks perms) n None ≡ move_by (slice_index_or marks n true) (slice_index_or perms n [])
  move_at n inside = get_or-map-range_with_len (λ k. move_by (slice_index_or marks k true) (slice_index_or perms k [])) 0 (length marks) n n None inside (omega arith)

  -- one more
  pub pushed : (n : ℕ) (moves : List (Option (List ℕ))) (move : Option (List ℕ)) → moves ≡ map (λ k. move_by (slice_index_or marks k true) (slice_index_or perms k [])) (range_with_len 0 n)
      → move ≡ move_by (slice_index_or marks n true) (slice_index_or perms n []) → moves ++ move ∷ [] ≡ map (λ k. move_by (slice_index_or marks k true) (slice_index_or perms k [])) (range_with_len 0 (n + 1))
  pushed n moves move are is =
      (λ i. are i ++ is i ∷ []) ∙ sym (map-range_with_len_more (λ k. move_by (slice_index_or marks k true) (slice_index_or perms k [])) 0 n n (omega arith))

  pub are_moves : (counts : List ℕ) → length marks ≡ length counts → ((n : ℕ) → n < length counts → length (slice_index_or perms n []) ≡ slice_index_or counts n 0)
      → ((n : ℕ) → n < length counts → IsPerm (slice_index_or perms n [])) → AreMovesOf counts (moves_of marks perms)
  are_moves counts same long perm = record {
    as_many = length-map-range_with_len (λ k. move_by (slice_index_or marks k true) (slice_index_or perms k [])) 0 (length marks) ∙ same;
    each = λ n inside.
        subst (IsMoveOf (slice_index_or counts n 0)) (sym (move_at n (omega (arith, same, inside))))
        (is_move_by (slice_index_or marks n true) (slice_index_or perms n []) (slice_index_or counts n 0) (long n inside) (perm n inside));
  }

-- numbers that are the sizes of these
sizes_at : {A : Type 0} (size : A → ℕ) (xs : List A) (of : ℕ → ℕ) → ((n : ℕ) (x : A) → slice_get xs n ≡ Some x → of n ≡ size x) → (n : ℕ) → n < length (map size xs) → of n ≡ slice_index_or (map size xs) n 0
sizes_at size [] of each n inside = absurd (omega arith)
sizes_at size (x ∷ xs) of each zero inside = each 0 x refl
sizes_at size (x ∷ xs) of each (suc n) inside = sizes_at size xs (λ k. of (suc k)) (λ k y there. each (suc k) y there) n (omega (arith, inside))

-- ---- packings

pub have_packings : (arrays : List ArrayShape) (packs : List (List ℕ)) → ArePacksOf arrays packs → HavePackings arrays packs
have_packings arrays packs are = have_lengths arrays packs are.each_array are.lengths

-- ---- a plan

module _ (touches : List (List Touch)) (shape : Shape) (plan : Planned) (is : IsPlanOf touches shape plan) where
  pub loops_move : AreMovesOf (extents shape.loops) (moves_of plan.moved_loops plan.orders)
  loops_move =
      let size = λ (each : LoopShape). each.extent in
      let long : length (map size shape.loops) ≡ length shape.loops = length-map shape.loops size in
      are_moves plan.moved_loops plan.orders (extents shape.loops) (is.each_loop ∙ sym long)
      (sizes_at size shape.loops (λ n. length (slice_index_or plan.orders n [])) is.places.extents)
      (λ n inside. is.places.perms n (omega (arith, inside, long, is.places.each_loop)))

  pub arrays_move : AreMovesOf (lengths shape.arrays) (moves_of plan.moved_arrays plan.packs)
  arrays_move =
      let size = λ (array : ArrayShape). array.length in
      let long : length (map size shape.arrays) ≡ length shape.arrays = length-map shape.arrays size in
      are_moves plan.moved_arrays plan.packs (lengths shape.arrays) (is.each_array ∙ sym long)
      (sizes_at size shape.arrays (λ n. length (slice_index_or plan.packs n [])) is.packed.lengths)
      (λ n inside. is.packed.perms n (omega (arith, inside, long, is.packed.each_array)))

  pub packs_are : packings_of (moves_of plan.moved_arrays plan.packs) shape.arrays ≡ plan.packs
  packs_are = packings_are (moves_of plan.moved_arrays plan.packs) shape.arrays plan.packs is.packed.each_array (λ n array there.
      let inside : n < length plan.moved_arrays = omega (arith, slice_get_within shape.arrays n array there, is.each_array) in
      ap (λ (of : Option (List ℕ)). packing_by of array.length) (move_at plan.moved_arrays plan.packs n inside)
      ∙ packing_by_mark (slice_index_or plan.moved_arrays n true) (slice_index_or plan.packs n []) array.length (is.packed.lengths n array there) (is.arrays_in_place n))
