-- The operations that join conjunctions: their results are formed, and what they mean.
use Rattle.std.proofs.Common.{◌≡◌, ℕ, ◌+◌, ◌<◌, ◌^◌, ℤ, List, [], ◌++◌, length, refl, sym, ◌∙◌, subst, arith, append-nil, length-append}
use Rattle.std.specs.List.{All}
use Rattle.std.proofs.lemmas.List.Elements.{All-contains}
use Rattle.spf_term.specs.Environment.{Environment}
use Rattle.spf_rel.specs.Join.{HasRoom, IsJoin, joined, joined_all}
use Rattle.spf_rel.specs.Meaning.{IsComposition, IsFormed, IsFormedRel, IsFormedSet, IsImage, IsIntersection, IsIntersectionOfSets, IsRestriction, MeetsSome}
use Rattle.spf_rel.specs.Operations.{HasRoomRel, HasRoomSet, apply, applying, compose, composing, in_place, intersect, intersect_sets, meeting, restrict_domain}
use Rattle.spf_rel.specs.declared.join.Join.{Join}
use Rattle.spf_rel.specs.declared.relation.Conj.{Conj}
use Rattle.spf_rel.specs.declared.relation.Set.{Set}
use Rattle.spf_rel.specs.declared.relation.Rel.{Rel}
use Rattle.spf_rel.proofs.Joined.{formed_at, joined_formed}
use Rattle.spf_rel.proofs.Meanings.{Tuples, at_same, at_start, joined_meet, parts}
use Rattle.spf_rel.proofs.Moved.{at_first, at_later, at_nothing}
use Rattle.spf_rel.proofs.Pairs.{all_pairs, pairs_all}

-- ---- all of them

none_more : (n : ℕ) → n ≡ n + 0
none_more n = omega arith

module _ (join : Join) (lefts rights : List Conj) where
  abbrev Room : Type 0
  Room = All (λ (conj : Conj). join.ins + join.outs + conj.inner < 2 ^ 32) (joined_all join lefts rights)

  pub each_has_room : Room → All (λ (left : Conj). All (HasRoom join left) rights) lefts
  each_has_room room = all_pairs (joined join) rights (λ (conj : Conj). join.ins + join.outs + conj.inner < 2 ^ 32) lefts room

  all_formed : IsJoin join → All (IsFormed (join.left.first + join.left.second)) lefts → All (IsFormed (join.right.first + join.right.second)) rights → Room
      → All (IsFormed (join.ins + join.outs)) (joined_all join lefts rights)
  all_formed is l r room = pairs_all (joined join) rights (IsFormed (join.ins + join.outs)) lefts
      (λ left right at_left at_right.
      let in_room : All (HasRoom join left) rights = All-contains (λ (left' : Conj). All (HasRoom join left') rights) lefts left (each_has_room room) at_left in
      joined_formed join left right is (formed_at (join.left.first + join.left.second) lefts left l at_left) (formed_at (join.right.first + join.right.second) rights right r at_right) (All-contains (HasRoom join left) rights right in_room at_right))

-- a set as an operand has no second tuple
formed_alone : (s : Set) → IsFormedSet s → All (IsFormed (s.arity + 0)) s.conjs
formed_alone s h = subst (λ n. All (IsFormed n) s.conjs) (none_more s.arity) h

meets_alone : (env : Environment) (point : List ℤ) (conjs : List Conj) → MeetsSome env point conjs → MeetsSome env (point ++ []) conjs
meets_alone env point conjs h = subst (λ of. MeetsSome env of conjs) (sym (append-nil point)) h

alone_meets : (env : Environment) (point : List ℤ) (conjs : List Conj) → MeetsSome env (point ++ []) conjs → MeetsSome env point conjs
alone_meets env point conjs h = subst (λ of. MeetsSome env of conjs) (append-nil point) h

-- a set as a result has no outputs
formed_one : (arity : ℕ) (conjs : List Conj) → All (IsFormed (arity + 0)) conjs → All (IsFormed arity) conjs
formed_one arity conjs h = subst (λ n. All (IsFormed n) conjs) (sym (none_more arity)) h

room_alone : (arity : ℕ) (conjs : List Conj) → All (λ (conj : Conj). arity + conj.inner < 2 ^ 32) conjs → All (λ (conj : Conj). arity + 0 + conj.inner < 2 ^ 32) conjs
room_alone arity conjs h = subst (λ n. All (λ (conj : Conj). n + conj.inner < 2 ^ 32) conjs) (none_more arity) h

-- ---- composition

module _ (b a : Rel) (arities : a.outs ≡ b.ins) where
  composing_is : IsJoin (composing b a)
  composing_is = record { left_first = omega arith; left_second = refl; right_first = sym arities; right_second = omega arith }

  module _ (a_formed : IsFormedRel a) (b_formed : IsFormedRel b) where
    pub compose_formed : HasRoomRel (compose b a) → IsFormedRel (compose b a)
    compose_formed room = all_formed (composing b a) a.conjs b.conjs composing_is a_formed b_formed room

    module _ (input middle output : List ℤ) (ins : length input ≡ a.ins) (mids : length middle ≡ a.outs) (outs : length output ≡ b.outs) where
      first_tuples : Tuples (input ++ output) middle (composing b a).left input middle
      first_tuples = record { count = ins; stands = (at_first input output, omega (arith, length-append input output)); count_second = mids; stands_second = refl }

      second_tuples : Tuples (input ++ output) middle (composing b a).right middle output
      second_tuples = record {
        count = mids ∙ arities;
        stands = refl;
        count_second = outs;
        stands_second = (at_same (input ++ output) (length input + 0) a.ins output (omega arith) (at_later input output 0 output (at_start output)), omega (arith, length-append input output));
      }

    pub compose_means : IsComposition b a (compose b a)
    compose_means env input output = (
      λ related.
          let is : length (input ++ output) ≡ a.ins + b.outs = omega (arith, length-append input output, related.ins, related.outs) in
          let p = parts env (composing b a) a.conjs b.conjs a_formed b_formed (input ++ output) is related.meets in
          let both = p.meet input p.middle p.middle output (first_tuples input p.middle output related.ins p.count related.outs) (second_tuples input p.middle output related.ins p.count related.outs) in
          (p.middle, record { ins = related.ins; outs = p.count; meets = both.0 }, record { ins = p.count ∙ arities; outs = related.outs; meets = both.1 }),
      λ (middle, first, second).
          let is : length (input ++ output) ≡ a.ins + b.outs = omega (arith, length-append input output, first.ins, second.outs) in
          record {
            ins = first.ins;
            outs = second.outs;
            meets = joined_meet env (composing b a) a.conjs b.conjs a_formed b_formed (input ++ output) is middle first.outs input middle middle output
                (first_tuples input middle output first.ins first.outs second.outs) (second_tuples input middle output first.ins first.outs second.outs) first.meets second.meets;
          },
    )

-- ---- image

module _ (r : Rel) (s : Set) (arities : s.arity ≡ r.ins) where
  applying_is : IsJoin (applying r s)
  applying_is = record { left_first = arities; left_second = omega arith; right_first = refl; right_second = omega arith }

  module _ (r_formed : IsFormedRel r) (s_formed : IsFormedSet s) where
    pub apply_room : HasRoomSet (apply r s) → All (λ (left : Conj). All (HasRoom (applying r s) left) r.conjs) s.conjs
    apply_room room = each_has_room (applying r s) s.conjs r.conjs (room_alone r.outs _ room)

    pub apply_formed : HasRoomSet (apply r s) → IsFormedSet (apply r s)
    apply_formed room = formed_one r.outs (apply r s).conjs (all_formed (applying r s) s.conjs r.conjs applying_is (formed_alone s s_formed) r_formed (room_alone r.outs (apply r s).conjs room))

    module _ (from point : List ℤ) (arity : length from ≡ r.ins) (outs : length point ≡ r.outs) where
      from_tuples : Tuples point from (applying r s).left from []
      from_tuples = record { count = arity ∙ sym arities; stands = refl; count_second = refl; stands_second = (at_nothing point 0, omega arith) }

      image_tuples : Tuples point from (applying r s).right from point
      image_tuples = record { count = arity; stands = refl; count_second = outs; stands_second = (at_start point, omega arith) }

    pub apply_means : IsImage r s (apply r s)
    apply_means env point = (
      λ within.
          let p = parts env (applying r s) s.conjs r.conjs (formed_alone s s_formed) r_formed point (within.arity ∙ none_more r.outs) within.meets in
          let both = p.meet p.middle [] p.middle point (from_tuples p.middle point p.count within.arity) (image_tuples p.middle point p.count within.arity) in
          (p.middle, record { arity = p.count ∙ sym arities; meets = alone_meets env p.middle s.conjs both.0 }, record { ins = p.count; outs = within.arity; meets = both.1 }),
      λ (from, within, related). record {
        arity = related.outs;
        meets = joined_meet env (applying r s) s.conjs r.conjs (formed_alone s s_formed) r_formed point (related.outs ∙ none_more r.outs) from related.ins from [] from point
            (from_tuples from point related.ins related.outs) (image_tuples from point related.ins related.outs) (meets_alone env from s.conjs within.meets) related.meets;
      },
    )

-- ---- intersection and restriction

-- tuples in place
module _ (input output middle : List ℤ) (ins : ℕ) (is_ins : length input ≡ ins) where
  placed : (outs : ℕ) → length output ≡ outs → Tuples (input ++ output) middle (in_place ins outs) input output
  placed outs is_outs = record {
    count = is_ins;
    stands = (at_first input output, omega (arith, length-append input output));
    count_second = is_outs;
    stands_second = (at_same (input ++ output) (length input + 0) ins output (omega arith) (at_later input output 0 output (at_start output)), omega (arith, length-append input output));
  }

  placed_alone : Tuples (input ++ output) middle (in_place ins 0) input []
  placed_alone = record {
    count = is_ins;
    stands = (at_first input output, omega (arith, length-append input output));
    count_second = refl;
    stands_second = (at_nothing (input ++ output) ins, omega (arith, length-append input output));
  }

module _ (a b : Rel) (ins : a.ins ≡ b.ins) (outs : a.outs ≡ b.outs) where
  abbrev both_in_place : Join
  both_in_place = meeting a.ins a.outs b.ins b.outs

  both_placed : IsJoin both_in_place
  both_placed = record { left_first = omega arith; left_second = omega arith; right_first = omega arith; right_second = omega arith }

  module _ (a_formed : IsFormedRel a) (b_formed : IsFormedRel b) where
    pub intersect_formed : HasRoomRel (intersect a b) → IsFormedRel (intersect a b)
    intersect_formed room = all_formed both_in_place a.conjs b.conjs both_placed a_formed b_formed room

    pub intersect_means : IsIntersection a b (intersect a b)
    intersect_means env input output = (
      λ related.
          let is : length (input ++ output) ≡ a.ins + a.outs = omega (arith, length-append input output, related.ins, related.outs) in
          let p = parts env both_in_place a.conjs b.conjs a_formed b_formed (input ++ output) is related.meets in
          let both = p.meet input output input output (placed input output p.middle a.ins related.ins a.outs related.outs) (placed input output p.middle b.ins (related.ins ∙ ins) b.outs (related.outs ∙ outs)) in
          (record { ins = related.ins; outs = related.outs; meets = both.0 }, record { ins = related.ins ∙ ins; outs = related.outs ∙ outs; meets = both.1 }),
      λ (first, second).
          let is : length (input ++ output) ≡ a.ins + a.outs = omega (arith, length-append input output, first.ins, first.outs) in
          record {
            ins = first.ins;
            outs = first.outs;
            meets = joined_meet env both_in_place a.conjs b.conjs a_formed b_formed (input ++ output) is [] refl input output input output
                (placed input output [] a.ins first.ins a.outs first.outs) (placed input output [] b.ins second.ins b.outs second.outs) first.meets second.meets;
          },
    )

module _ (r : Rel) (s : Set) (arities : s.arity ≡ r.ins) where
  abbrev set_in_place : Join
  set_in_place = meeting r.ins r.outs s.arity 0

  set_placed : IsJoin set_in_place
  set_placed = record { left_first = omega arith; left_second = omega arith; right_first = omega arith; right_second = omega arith }

  module _ (r_formed : IsFormedRel r) (s_formed : IsFormedSet s) where
    pub restrict_formed : HasRoomRel (restrict_domain r s) → IsFormedRel (restrict_domain r s)
    restrict_formed room = all_formed set_in_place r.conjs s.conjs set_placed r_formed (formed_alone s s_formed) room

    pub restrict_means : IsRestriction r s (restrict_domain r s)
    restrict_means env input output = (
      λ related.
          let is : length (input ++ output) ≡ r.ins + r.outs = omega (arith, length-append input output, related.ins, related.outs) in
          let p = parts env set_in_place r.conjs s.conjs r_formed (formed_alone s s_formed) (input ++ output) is related.meets in
          let both = p.meet input output input [] (placed input output p.middle r.ins related.ins r.outs related.outs) (placed_alone input output p.middle s.arity (related.ins ∙ sym arities)) in
          (record { ins = related.ins; outs = related.outs; meets = both.0 }, record { arity = related.ins ∙ sym arities; meets = alone_meets env input s.conjs both.1 }),
      λ (first, second).
          let is : length (input ++ output) ≡ r.ins + r.outs = omega (arith, length-append input output, first.ins, first.outs) in
          record {
            ins = first.ins;
            outs = first.outs;
            meets = joined_meet env set_in_place r.conjs s.conjs r_formed (formed_alone s s_formed) (input ++ output) is [] refl input output input []
                (placed input output [] r.ins first.ins r.outs first.outs) (placed_alone input output [] s.arity second.arity) first.meets (meets_alone env input s.conjs second.meets);
          },
    )

module _ (a b : Set) (arities : a.arity ≡ b.arity) where
  abbrev sets_in_place : Join
  sets_in_place = meeting a.arity 0 b.arity 0

  sets_placed : IsJoin sets_in_place
  sets_placed = record { left_first = omega arith; left_second = omega arith; right_first = omega arith; right_second = omega arith }

  module _ (a_formed : IsFormedSet a) (b_formed : IsFormedSet b) where
    pub intersect_sets_room : HasRoomSet (intersect_sets a b) → All (λ (left : Conj). All (HasRoom sets_in_place left) b.conjs) a.conjs
    intersect_sets_room room = each_has_room sets_in_place a.conjs b.conjs (room_alone a.arity (intersect_sets a b).conjs room)

    pub intersect_sets_formed : HasRoomSet (intersect_sets a b) → IsFormedSet (intersect_sets a b)
    intersect_sets_formed room = formed_one a.arity (intersect_sets a b).conjs (all_formed sets_in_place a.conjs b.conjs sets_placed (formed_alone a a_formed) (formed_alone b b_formed) (room_alone a.arity (intersect_sets a b).conjs room))

    abbrev Both : Environment → List ℤ → Type 0
    Both env point = MeetsSome env point a.conjs × MeetsSome env point b.conjs

    intersect_sets_meet : (env : Environment) (point : List ℤ) → length point ≡ a.arity → Both env point → MeetsSome env point (intersect_sets a b).conjs
    intersect_sets_meet env point is both =
        alone_meets env point (intersect_sets a b).conjs
        (joined_meet env sets_in_place a.conjs b.conjs (formed_alone a a_formed) (formed_alone b b_formed) (point ++ []) (omega (arith, length-append point [])) [] refl point [] point []
        (placed_alone point [] [] a.arity is) (placed_alone point [] [] b.arity (is ∙ arities)) (meets_alone env point a.conjs both.0) (meets_alone env point b.conjs both.1))

    intersect_sets_parts : (env : Environment) (point : List ℤ) → length point ≡ a.arity → MeetsSome env point (intersect_sets a b).conjs → Both env point
    intersect_sets_parts env point is some =
        let p = parts env sets_in_place a.conjs b.conjs (formed_alone a a_formed) (formed_alone b b_formed) (point ++ []) (omega (arith, length-append point [])) (meets_alone env point (intersect_sets a b).conjs some) in
        let both = p.meet point [] point [] (placed_alone point [] p.middle a.arity is) (placed_alone point [] p.middle b.arity (is ∙ arities)) in
        (alone_meets env point a.conjs both.0, alone_meets env point b.conjs both.1)

    pub intersect_sets_means : IsIntersectionOfSets a b (intersect_sets a b)
    intersect_sets_means env point = (
      λ within.
          let both = intersect_sets_parts env point within.arity within.meets in
          (record { arity = within.arity; meets = both.0 }, record { arity = within.arity ∙ arities; meets = both.1 }),
      λ (first, second). record { arity = first.arity; meets = intersect_sets_meet env point first.arity (first.meets, second.meets) },
    )
